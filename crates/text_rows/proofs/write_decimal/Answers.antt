-- `text_rows::write_decimal` meets its contract: the digits stand at the end of their array.
use mathlib.Core.Path.{sym, ◌∙◌}
use native.Mathlib.Omega.{arith}
use lib.ListN.{length-take}
use Rattle.base_buffers.proofs.Stores.{loosened, take_rest}
use Rattle.text_rows.proofs.write_decimal.Goals as goal

pub returns : goal.returns
returns c =
    let s = c.spell-from in
    let e = take_rest s.new.digits 20 s.result (omega (arith, s.auto.digits)) ∙ s.ensures.1 in
    rw (sym e) (loosened c.write.ensures (simp length-take (omega arith)))

pub spell-from-requires : goal.spell-from-requires
spell-from-requires c = omega arith

pub write-requires : goal.write-requires
write-requires c = omega arith
