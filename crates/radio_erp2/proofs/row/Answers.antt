-- `radio_erp2::row` meets its contract: each call answers for one part.
use mathlib.Core.Path.{◌≡◌, ap, ◌∙◌}
use Prim.Native.Nat.{◌+◌, ◌≤◌}
use native.Mathlib.Omega.{arith}
use Rattle.base_lists.specs.Lists.{padded}
use Rattle.base_buffers.specs.Buffer.{part}
use Rattle.block_layout.specs.BigEndian.{unbe}
use Rattle.block_layout.proofs.BigEndian.{field_lt}
use Rattle.base_buffers.proofs.Segments.{part-ends}
use Rattle.radio_erp2_model.specs.Header.{header_fields}
use Rattle.radio_erp2_model.specs.Sizes.{extension_at, subtype_at, originator_at, destination_at, payload_at}
use Rattle.radio_erp2.proofs.Parts.{part-short, four_lt, then_cond, number-part}
use Rattle.radio_erp2.proofs.row.Goals as goal

pub overflow_cast-id : goal.overflow_cast-id
overflow_cast-id c =
    let a = c.args in
    let s = a.s.now in
    let z = a.z in
    let few : z.destination ≤ 8 = omega (arith, c.requires.destination) in
    let low = field_lt (destination_at z) z.destination s (λ i. omega (arith, c.type_inv.s i)) in
    record {
      fits =
          rw (c.read_number-id.ensures, number-part (destination_at z) z.destination s few)
          (four_lt z.destination _ c.requires.destination low);
    }

pub padded-requires-2 : goal.padded-requires-2
padded-requires-2 c =
    let a = c.args in
    (omega arith, part-short (payload_at a.z + a.n) a.z.optional 15 a.s.now c.requires.optional)

-- from the last call back to the first: each field is the number that its part spells, or its part
pub returns : goal.returns
returns c =
    let a = c.args in
    let s = a.s.now in
    let z = a.z in
    let h : c.header_of-h.result ≡ header_fields (unbe (part 1 z.header s))
    = c.header_of-h.ensures
    ∙ ap header_fields (c.small.ensures ∙ ap unbe (part-ends 1 z.header s)) in
    let e : c.small-e.result ≡ unbe (part (extension_at z) z.extension s)
    = c.small-e.ensures ∙ ap unbe (part-ends (extension_at z) z.extension s) in
    let v : c.small-value.result ≡ unbe (part (subtype_at z) z.subtype s)
    = c.small-value.ensures ∙ ap unbe (part-ends (subtype_at z) z.subtype s) in
    let f : c.read_number-from.result ≡ unbe (part (originator_at z) z.originator s)
    = c.read_number-from.ensures ∙ number-part (originator_at z) z.originator s c.requires.originator in
    let few : z.destination ≤ 8 = omega (arith, c.requires.destination) in
    let i : c.read_number-id.result ≡ unbe (part (destination_at z) z.destination s)
    = c.read_number-id.ensures ∙ number-part (destination_at z) z.destination s few in
    let p : c.padded.result ≡ padded 250 (part (payload_at z) a.n s)
    = c.padded.ensures ∙ ap (padded 250) (part-ends (payload_at z) a.n s) in
    let o : c.padded-2.result ≡ padded 15 (part (payload_at z + a.n) z.optional s)
    = c.padded-2.ensures ∙ ap (padded 15) (part-ends (payload_at z + a.n) z.optional s) in
    simp (c.then_some.ensures, c.then_some-2.ensures, c.then_some-3.ensures, then_cond, h, e, v, f, i, p, o)
