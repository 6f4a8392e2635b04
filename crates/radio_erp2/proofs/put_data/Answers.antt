-- `radio_erp2::put_data` meets its contract: two parts are lent.
use mathlib.Core.Path.{◌≡◌, ◌∙◌}
use Prim.Native.Nat.{◌+◌, ◌-◌}
use native.Mathlib.Omega.{arith}
use borrow.Author.Rules.{rules}
use lib.ListN.{length}
use Rattle.base_buffers.specs.Buffer.{part, resized}
use Rattle.base_buffers.proofs.Segments.{begin, lend_sized, done}
use Rattle.radio_erp2.proofs.Rows.{data_is}
use Rattle.radio_erp2.proofs.put_data.Goals as goal

pub returns : goal.returns
returns c =
    let t = c.args.t in
    let z = c.args.z in
    let v = c.requires in
    let payload-long : length t.payload ≡ 250 = search rules in
    let optional-long : length t.optional ≡ 15 = search rules in
    let payload =
    lend_sized (begin c.args.out.now) _ (λ w. resized w (part 0 (t.len - 0) t.payload)) t.len
    c.put_bytes.ensures c.put_bytes.auto.out (omega arith) (omega (arith, v.0)) in
    let both =
    lend_sized payload _ (λ w. resized w (part 0 (z.optional - 0) t.optional)) (t.len + z.optional)
    c.put_bytes-2.ensures c.put_bytes-2.auto.out (omega arith) (omega (arith, v.0)) in
    done both v.0 ∙ data_is t z payload-long optional-long v.1 v.2
