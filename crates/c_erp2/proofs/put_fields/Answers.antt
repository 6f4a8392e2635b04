-- `c_erp2::put_fields` meets its contract: three parts are lent.
use native.Mathlib.Omega.{arith}
use Rattle.base_buffers.specs.Buffer.{resized}
use Rattle.base_buffers.proofs.Segments.{begin, lend, lend_sized, done}
use Rattle.c_erp2.specs.Fields.{head_bytes, fields_bytes}
use Rattle.c_erp2.proofs.put_fields.Goals as goal

pub returns : goal.returns
unfolding fields_bytes
returns c =
    let a = c.args in
    let long = c.requires.0 in
    let head =
    lend (begin a.out.now) _ (head_bytes a.t) 11 c.put_head.ensures c.put_head.auto.out
    (omega arith) (omega (arith, long)) in
    let payload =
    lend_sized head _ (λ w. resized w a.t.payload) 261 c.put_bytes.ensures c.put_bytes.auto.out
    (omega arith) (omega (arith, long)) in
    let optional =
    lend_sized payload _ (λ w. resized w a.t.optional) 276 c.put_bytes-2.ensures c.put_bytes-2.auto.out
    (omega arith) (omega (arith, long)) in
    done optional long
