-- `radio_erp2::put_head` meets its contract: a byte is stored and three parts are lent.
use mathlib.Core.Path.{◌∙◌}
use Prim.Native.Nat.{◌+◌}
use native.Mathlib.Omega.{arith}
use Rattle.block_layout.specs.BigEndian.{be}
use Rattle.base_buffers.proofs.Segments.{begin, store, lend_sized, done}
use Rattle.radio_erp2.proofs.Rows.{head_is}
use Rattle.radio_erp2.proofs.put_head.Goals as goal

pub returns : goal.returns
returns c =
    let a = c.args in
    let z = a.z in
    let size = store (begin a.out.now) a.size (omega (arith, c.requires)) in
    let header =
    lend_sized size _ (λ w. be w c.header_byte.result) (1 + z.header)
    c.put_number.ensures c.put_number.auto.out (omega arith) (omega (arith, c.requires)) in
    let extension =
    lend_sized header _ (λ w. be w c.extension_byte.result) (1 + z.header + z.extension)
    c.put_number-2.ensures c.put_number-2.auto.out (omega arith) (omega (arith, c.requires)) in
    let subtype =
    lend_sized extension _ (λ w. be w c.from.result) (1 + z.header + z.extension + z.subtype)
    c.put_number-3.ensures c.put_number-3.auto.out (omega arith) (omega (arith, c.requires)) in
    done subtype c.requires
    ∙ head_is a.t z a.size _ _ _ c.header_byte.ensures c.extension_byte.ensures (c.from.ensures ∙ c.unwrap_or.ensures)
