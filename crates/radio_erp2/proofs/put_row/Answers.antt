-- `radio_erp2::put_row` meets its contract: three parts are lent, and the CRC is stored.
use mathlib.Core.Path.{refl, ap}
use Prim.Native.Nat.{ℕ, ◌+◌}
use native.Mathlib.Omega.{arith}
use Rattle.base_buffers.proofs.Segments.{begin, lend}
use Rattle.radio_erp2.specs.Private.{before_ids, id_bytes, data_bytes}
use Rattle.radio_erp2.proofs.Rows.{row_is, plain_is, sealed_is}
use Rattle.radio_erp2.proofs.put_row.Goals as goal

pub returns-then-z-ne1 : goal.returns-then-z-ne1
returns-then-z-ne1 c =
    let a = c.args in
    let z = a.z in
    let size = c.overhead.result + a.t.len in
    let ids = 1 + z.header + z.extension + z.subtype in
    let rest = ids + z.originator + z.destination in
    let end = rest + a.t.len + z.optional in
    let head =
    lend (begin a.out.now) _ (before_ids a.t z size) ids
    c.put_head.ensures c.put_head.auto.out (omega arith) (omega (arith, c.requires.room)) in
    let with_ids =
    lend head _ (id_bytes a.t z) rest
    c.put_ids.ensures c.put_ids.auto.out (omega arith) (omega (arith, c.requires.room)) in
    let row =
    lend with_ids _ (data_bytes a.t z) end
    c.put_data.ensures c.put_data.auto.out (omega arith) (omega (arith, c.requires.room)) in
    plain_is a.t z a.out.now _ _ size end (ap (λ (n : ℕ). n + a.t.len) c.overhead.ensures)
    (row_is a.t z size) row c.requires.crc c.if-z-ne1.true refl

pub returns : goal.returns
returns c =
    let a = c.args in
    let z = a.z in
    let size = c.overhead.result + a.t.len in
    let ids = 1 + z.header + z.extension + z.subtype in
    let rest = ids + z.originator + z.destination in
    let end = rest + a.t.len + z.optional in
    let head =
    lend (begin a.out.now) _ (before_ids a.t z size) ids
    c.put_head.ensures c.put_head.auto.out (omega arith) (omega (arith, c.requires.room)) in
    let with_ids =
    lend head _ (id_bytes a.t z) rest
    c.put_ids.ensures c.put_ids.auto.out (omega arith) (omega (arith, c.requires.room)) in
    let row =
    lend with_ids _ (data_bytes a.t z) end
    c.put_data.ensures c.put_data.auto.out (omega arith) (omega (arith, c.requires.room)) in
    sealed_is a.t z a.out.now _ _ size end (ap (λ (n : ℕ). n + a.t.len) c.overhead.ensures)
    (row_is a.t z size) row c.if-z-ne1.false
    (omega (arith, c.requires.room, c.if-z-ne1.false)) refl _ c.crc8-crc.ensures
