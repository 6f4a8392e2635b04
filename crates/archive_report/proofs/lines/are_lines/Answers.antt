-- The goals that a search does not find.
use native.Mathlib.Omega.{arith}
use mathlib.Core.Path.{◌≡◌, sym, ap, ◌∙◌}
use mathlib.Core.Bool.{Bool, true, ◌&&◌}
use mathlib.Core.List.{List}
use Prim.Native.Nat.{ℕ, ◌+◌, ◌-◌, ◌*◌, ◌^◌, ◌≤◌, ◌<◌}
use Rattle.archive_report_model.specs.Report.{Line, is_tally}
use Rattle.archive_report.specs.Lines.{line_length, line_at, lines_from}
use Rattle.archive_report.specs.Private.{line_fits}
use Rattle.archive_report.proofs.Testing.{fits_facts, rest_first, rest_next, rest_end}
use Rattle.archive_report.proofs.lines.are_lines.Lts as lts
use Rattle.archive_report.proofs.lines.are_lines.Reads as reads
use Rattle.archive_report.proofs.lines.are_lines.Tie as tie
use Rattle.archive_report.proofs.lines.are_lines.Goals as goal

-- states on the way
abbrev In-loop-i : Type 0
In-loop-i = lts.In-loop tie.the-claims reads.Pre reads.Post goal.the-invariant-loop-i goal.the-decreases-loop-i

abbrev Else-not-fits : Type 0
Else-not-fits = lts.Else1 tie.the-claims reads.Pre reads.Post goal.the-invariant-loop-i goal.the-decreases-loop-i

-- the array, the line and those behind it, and what is left of the totals
abbrev xs : In-loop-i → List ℕ
xs c = c.args.lines.now

abbrev line : In-loop-i → Line
line c = line_at (xs c) c.loop-i.i

abbrev others : In-loop-i → List Line
others c = lines_from (xs c) (c.loop-i.i + 1) (c.args.count - (c.loop-i.i + 1))

abbrev rest : In-loop-i → Bool
rest c = is_tally (others c) (c.loop-i.k - (line c).kept) (c.loop-i.l - (line c).loose)

-- its last number is one of 64 bits
latest : (c : In-loop-i) → (line c).latest < 2 ^ 64
latest c = omega (arith, c.shared_slice_known-1.given (line_length * c.loop-i.i + 4))

-- it and the others are those that are left
next : (c : In-loop-i)
    → is_tally (lines_from (xs c) c.loop-i.i (c.args.count - c.loop-i.i))
    c.loop-i.k c.loop-i.l
    ≡ line_fits (line c) (others c) c.loop-i.k c.loop-i.l && rest c
next c =
    rest_next (xs c) c.args.count c.loop-i.i
    c.loop-i.k c.loop-i.l c.loop-i-test.true (latest c)

-- line i fits
told : (c : Else-not-fits)
    → line_fits (line c.before.before) (others c.before.before)
    c.loop-i.k c.loop-i.l
    ≡ true
told c = sym c.fits.ensures ∙ c.if-not-fits.false

-- so it has no more rows than are left
within : (c : Else-not-fits)
    → ((line c.before.before).kept ≤ c.loop-i.k)
    × ((line c.before.before).loose ≤ c.loop-i.l)
within c =
    fits_facts (line c.before.before) (others c.before.before)
    c.loop-i.k c.loop-i.l (told c)

pub loop-i-init : goal.loop-i-init
loop-i-init c =
    let a = c.args in
    record {
      bounded = omega arith;
      few = omega arith;
      rest = rest_first a.lines.now a.count a.kept a.loose;
    }

pub fits-requires : goal.fits-requires
fits-requires c =
    (c.loop-i-test.true, c.requires.0, c.requires.1, omega (arith, c.loop-i.invariant.few, c.requires.2))

pub returns-then-not-fits : goal.returns-then-not-fits
returns-then-not-fits c =
    sym (sym c.loop-i.invariant.rest ∙ next c.before.before.before
    ∙ ap (λ (b : Bool). b && rest c.before.before.before) (sym c.fits.ensures ∙ c.if-not-fits.true))

pub loop-i-preserved : goal.loop-i-preserved
loop-i-preserved c =
    let c_back3 = c.before.before.before in
    record {
      bounded = omega (arith, c.loop-i-test.true);
      few = omega (arith, c.loop-i.invariant.few);
      rest = sym (next c_back3.before.before
          ∙ ap (λ (b : Bool). b && rest c_back3.before.before) (told c.before.before.before)) ∙ c.loop-i.invariant.rest;
    }

pub returns : goal.returns
returns c =
    let a = c.args in
    sym (rest_end a.lines.now a.count c.loop-i.i c.loop-i.k c.loop-i.l c.loop-i-test.false)
    ∙ c.loop-i.invariant.rest

pub overflow_sub-k : goal.overflow_sub-k
overflow_sub-k c = (within c.before.before).0

pub overflow_sub-l : goal.overflow_sub-l
overflow_sub-l c = (within c.before.before.before).1
