-- The goals that a search does not find.
use mathlib.Core.Path.{refl, sym, ◌∙◌}
use Prim.Native.Nat.{◌≤◌}
use native.Mathlib.Nat.{add-zero}
use native.Mathlib.Omega.{arith}
use borrow.Author.Rules.{rules}
use lib.ListN.{length, length-set, drop_of_length-le}
use Rattle.base_buffers.proofs.Stores.{copy_next}
use Rattle.text_rows.proofs.write_each.Goals as goal

pub loop-i-init : goal.loop-i-init
loop-i-init c =
    record { bounded = search rules; end = search rules; long = search rules; stores = rw (add-zero c.args.at) }

pub loop-i-preserved : goal.loop-i-preserved
loop-i-preserved c =
    let a = c.args in
    let l = c.loop-i in
    record {
      bounded = omega arith;
      end = search rules;
      long = simp length-set l.invariant.long;
      stores = sym (copy_next l.out a.s.now a.at l.i (omega arith)) ∙ l.invariant.stores;
    }

pub returns : goal.returns
returns c =
    let a = c.args in
    let l = c.loop-i in
    let h : length a.s.now ≤ l.i = omega arith in
    record { bytes = rw (drop_of_length-le a.s.now h) at l.invariant.stores; next = refl; short = omega arith }
