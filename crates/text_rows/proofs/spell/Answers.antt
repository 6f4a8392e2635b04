-- The goals that a search does not find.
use mathlib.Core.Path.{◌≡◌, sym, ◌∙◌}
use Prim.Native.Nat.{ℕ, ◌-◌, ◌/◌, ◌%◌, ◌^◌, ◌<◌, ◌≤◌}
use native.Mathlib.Omega.{arith}
use borrow.Author.Rules.{rules}
use lib.ListN.{length-set}
use Rattle.text_rows.specs.Text.{decimal_text}
use Rattle.text_rows.proofs.Digits.{shorter, spell_pair, spell_two, spell_last, spell_start}
use Rattle.text_rows.proofs.spell.Goals as goal

pub loop-rest-init : goal.loop-rest-init
loop-rest-init c = record {
  some = search rules;
  bounded = search rules;
  long = search rules;
  small = search rules;
  whole = spell_start (decimal_text c.args.n) c.args.digits.now (search rules);
}

-- a number of two digits or more
several : (i rest : ℕ) → rest < 10 ^ i → 10 ≤ rest → 2 ≤ i
several i rest small more = omega (arith, (shorter i rest more small).several)

pub overflow_sub-digits-in-loop-rest : goal.overflow_sub-digits-in-loop-rest
overflow_sub-digits-in-loop-rest c = several c.loop-rest.i c.loop-rest.rest c.loop-rest.invariant.small (omega arith)

pub overflow_sub-i : goal.overflow_sub-i
overflow_sub-i c = several c.loop-rest.i c.loop-rest.rest c.loop-rest.invariant.small (omega arith)

pub bounds-digits-i-in-loop-rest : goal.bounds-digits-i-in-loop-rest
bounds-digits-i-in-loop-rest c = simp length-set (omega arith)

pub loop-rest-preserved : goal.loop-rest-preserved
loop-rest-preserved c =
    let l = c.loop-rest in
    let m = shorter l.i l.rest (omega arith) l.invariant.small in
    let k = shorter (l.i - 1) (l.rest / 10) (omega arith) m.small in
    let tenth : l.rest / 10 / 10 ≡ l.rest / 100 = omega arith in
    let at : l.i - 1 - 1 ≡ l.i - 2 = omega arith in
    record {
      some = omega (arith, k.several);
      bounded = omega arith;
      long = simp length-set l.invariant.long;
      small = rw (tenth, at) at k.small;
      whole =
          l.invariant.whole
          ∙ spell_pair l.i l.rest l.digits (omega arith) (omega arith) l.invariant.small c.loop-rest-test.true;
    }

pub returns-then-pair-lt10 : goal.returns-then-pair-lt10
returns-then-pair-lt10 c =
    let l = c.loop-rest in
    let one : l.rest % 10 ≡ l.rest = omega arith in (
      omega arith,
      sym (l.invariant.whole
          ∙ spell_last l.i l.rest l.digits (omega arith) l.invariant.some c.if-pair-lt10.true ∙ rw one),
    )

pub returns : goal.returns
returns c =
    let l = c.loop-rest in (
      omega arith,
      sym (l.invariant.whole
          ∙ spell_two l.i l.rest l.digits (omega arith)
          c.if-pair-lt10.false l.invariant.small c.loop-rest-test.false),
    )

pub shape_of-digits-then-pair-lt10 : goal.shape_of-digits-then-pair-lt10
shape_of-digits-then-pair-lt10 c = simp length-set (omega (arith, c.requires))

pub shape_of-digits : goal.shape_of-digits
shape_of-digits c = simp length-set (omega (arith, c.requires))

pub overflow_sub-digits-3 : goal.overflow_sub-digits-3
overflow_sub-digits-3 c =
    several c.loop-rest.i c.loop-rest.rest
    c.loop-rest.invariant.small c.if-pair-lt10.false

pub overflow_sub-result-2 : goal.overflow_sub-result-2
overflow_sub-result-2 c =
    several c.loop-rest.i c.loop-rest.rest
    c.loop-rest.invariant.small c.if-pair-lt10.false

pub bounds-digits-i-3 : goal.bounds-digits-i-3
bounds-digits-i-3 c = simp length-set (omega arith)
