-- `radio_erp2::put_ids` meets its contract: two parts are lent.
use mathlib.Core.Path.{◌∙◌}
use Prim.Native.Nat.{◌+◌}
use native.Mathlib.Omega.{arith}
use Rattle.block_layout.specs.BigEndian.{be}
use Rattle.base_buffers.proofs.Segments.{begin, lend_sized, done}
use Rattle.radio_erp2.proofs.Rows.{ids_is}
use Rattle.radio_erp2.proofs.put_ids.Goals as goal

pub returns : goal.returns
returns c =
    let a = c.args in
    let z = a.z in
    let originator =
    lend_sized (begin a.out.now) _ (λ w. be w a.t.originator) z.originator
    c.put_number.ensures c.put_number.auto.out (omega arith) (omega (arith, c.requires)) in
    let both =
    lend_sized originator _ (λ w. be w c.from.result) (z.originator + z.destination)
    c.put_number-2.ensures c.put_number-2.auto.out (omega arith) (omega (arith, c.requires)) in
    done both c.requires ∙ ids_is a.t z _ (c.from.ensures ∙ c.unwrap_or.ensures)
