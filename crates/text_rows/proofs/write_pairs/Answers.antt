-- The goals that a search does not find.
use mathlib.Core.Path.{refl, sym, ◌∙◌}
use Prim.Native.Nat.{◌≤◌}
use native.Mathlib.Omega.{arith}
use borrow.Author.Rules.{rules}
use lib.ListN.{length, length-set, drop_of_length-le}
use Rattle.text_rows.specs.Text.{hex_text}
use Rattle.text_rows.proofs.Words.{hex_next, hex-length}
use Rattle.text_rows.proofs.write_pairs.Goals as goal

pub loop-b-init : goal.loop-b-init
loop-b-init c = record { place = search rules; long = refl; stores = refl }

pub hex_digit-requires : goal.hex_digit-requires
hex_digit-requires c = omega (arith, c.type_inv.s c.loop-b.b-index)

pub bounds-out-to-in-loop-b : goal.bounds-out-to-in-loop-b
bounds-out-to-in-loop-b c = simp length-set (omega arith)

pub loop-b-preserved : goal.loop-b-preserved
loop-b-preserved c =
    let a = c.args in
    let l = c.loop-b in
    record {
      place = omega arith;
      long = simp length-set l.invariant.long;
      stores =
          rw (c.hex_digit.ensures, c.hex_digit-in-loop-b.ensures)
          (sym (hex_next l.out a.s.now l.to l.b-index (omega arith)))
          ∙ l.invariant.stores;
    }

pub returns : goal.returns
unfolding hex_text
returns c =
    let a = c.args in
    let l = c.loop-b in
    let h : length a.s.now ≤ l.b-index = omega arith in
    record {
      bytes = rw (drop_of_length-le a.s.now h) at l.invariant.stores;
      next = omega (arith, hex-length a.s.now);
      short = omega arith;
    }
