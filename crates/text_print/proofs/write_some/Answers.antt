-- `text_print::write_some` meets its contract.
use native.Mathlib.Omega.{arith}
use lib.ListN.{take}
use lib.Seq.{length-take-le}
use Rattle.text_rows.proofs.Pasted.{replaced}
use Rattle.text_print.proofs.write_some.Goals as goal

pub returns-then-write : goal.returns-then-write
returns-then-write c =
    let a = c.args in
    let text = a.text.now in
    let long = length-take-le a.n text c.requires.0 in
    rw (c.if-write.true, c.copy_from_slice.ensures.after)
    (replaced (take a.n text) a.out.now a.to _ (omega (arith, long)) (omega (arith, long, c.requires.1)))
