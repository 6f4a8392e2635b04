-- `text_print::read_some` meets its contract.
use mathlib.Core.Path.{◌≡◌}
use Prim.Native.Nat.{◌+◌, ◌-◌}
use native.Mathlib.Omega.{arith}
use lib.ListN.{take, drop, length-drop}
use lib.Seq.{length-take-le}
use Rattle.text_print.proofs.Parts.{copied-part}
use Rattle.text_print.proofs.read_some.Goals as goal

pub returns : goal.returns
returns c =
    let a = c.args in
    let input = a.input.now in
    let n = c.min-n.result in
    let e : a.at + n - a.at ≡ n = omega arith in
    let long = length-take-le n (drop a.at input) (omega (arith, c.min-n.ensures, length-drop a.at input)) in (
      c.min-n.ensures,
      rw (rw e at c.copy_from_slice.ensures.after)
          (rw long at (copied-part a.buffer.now a.kept (a.kept + n - a.kept) (take n (drop a.at input))
          (omega (arith, long)))),
    )
