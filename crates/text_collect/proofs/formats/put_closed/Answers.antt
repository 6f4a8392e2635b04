-- `text_collect::formats::put_closed` meets its contract: nothing where it is not asked for.
use mathlib.Core.Path.{refl}
use Prim.Native.Nat.{◌+◌, ◌*◌}
use native.Mathlib.Omega.{arith}
use borrow.Author.Tests.{eq-eqb, ne_eqb, leb-true}
use lib.ListN.{length}
use Rattle.text_collect.proofs.formats.put_closed.Goals as goal

pub returns-then-closed-eq0 : goal.returns-then-closed-eq0
returns-then-closed-eq0 c =
    rw (eq-eqb (length c.args.closed.now) 0 c.if-closed-eq0.true)
    (record { bytes = refl; next = omega arith; short = omega arith })

pub put_closings-requires : goal.put_closings-requires
put_closings-requires c =
    let n = ne_eqb (length c.args.closed.now) 0 c.if-closed-eq0.false in
    (c.requires.0, leb-true (32 * c.args.k + 2048) (length c.args.closed.now) (rw n at c.requires.1))

pub returns : goal.returns
returns c =
    rw (ne_eqb (length c.args.closed.now) 0 c.if-closed-eq0.false) c.put_closings.ensures
