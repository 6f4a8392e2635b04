-- The claims of specs/Claims.antt.
use mathlib.Core.Path.{◌≡◌, refl, sym, ap, ◌∙◌}
use mathlib.Core.List.{List}
use Prim.Native.Nat.{ℕ, ◌+◌, ◌-◌, ◌^◌, ◌≤◌, ◌<◌}
use native.Mathlib.Nat.{pow-le-pow_right}
use native.Mathlib.Omega.{arith}
use lib.Seq.{take-append_seam}
use Rattle.base_buffers.specs.Buffer.{part}
use Rattle.block_layout.specs.BigEndian.{Bytes}
use Rattle.base_buffers.proofs.Buffer.{padded-length}
use Rattle.base_buffers.proofs.Segments.{part_length}
use Rattle.block_layout.proofs.BigEndian.{field_lt}
use Rattle.radio_telegram.specs.Output.{Result, written, result_bytes}
use Rattle.radio_erp2_model.specs.declared.Telegram.{Telegram}
use Rattle.radio_erp2_model.specs.declared.Sizes.{Sizes}
use Rattle.radio_erp2_model.specs.Sizes.{overhead, subtype_at, destination_at, payload_at}
use Rattle.radio_erp2_model.specs.Reading.{max_data, max_optional, length_byte, sizes_in, fields_of, Read, read_of}
use Rattle.radio_erp2_model.specs.Building.{is_short_form, erp2_bytes, build_of}
use Rattle.radio_erp2_model.specs.Bounds.{Placed}
use Rattle.radio_erp2_model.specs.Claims.{BuildRead, Shaped, normal_of, ReadBuilt, NormalRead, Figures}
use Rattle.radio_erp2_model.proofs.Sound.{Sound, check_facts}
use Rattle.radio_erp2_model.proofs.Placing.{placed}
use Rattle.radio_erp2_model.proofs.Optionals.{number_below}
use Rattle.radio_erp2_model.proofs.Accepted.{build_fields}
use Rattle.radio_erp2_model.proofs.Facts.{build_facts}
use Rattle.radio_erp2_model.proofs.BuildBack.{built_reads}

written-bytes : (xs out : List ℕ) → result_bytes (written xs out) ≡ xs
written-bytes xs out = take-append_seam xs _

-- ROUND TRIP: what is read builds the same bytes
pub build_read : BuildRead
unfolding read_of
build_read s out b e h = rw e (build_fields s (check_facts s e) b out h)

-- ROUND TRIP: what is built reads back
pub read_built : ReadBuilt
unfolding read_of
read_built t shape out e =
    let b = build_facts t out e in
    let r = built_reads t shape b.0 (is_short_form t) refl in
    let s : result_bytes (build_of t out) ≡ erp2_bytes t = ap result_bytes b.1 ∙ written-bytes (erp2_bytes t) out in
    rw (s, r.checks) (ap (λ (u : Telegram). record { number = 0; telegram = u }) r.fields)

-- ---- what is read is in normal form

-- a number of at most w bytes
narrow : (n k w : ℕ) → k ≤ w → n < 256 ^ k → n < 256 ^ w
narrow n k w h l =
    let p : 256 ^ k ≤ 256 ^ w = pow-le-pow_right (omega arith) h in
    omega arith

module _ (s : List ℕ) (v : Sound s) (b : Bytes s) where
  abbrev z : Sizes
  z = sizes_in s

  abbrev rest : ℕ
  rest = length_byte s - overhead z

  place : Placed s z rest
  place = placed s (record { long = v.long; fits = v.fits }) (b 0)

  read_shaped : Shaped (fields_of s)
  unfolding fields_of
  read_shaped =
      let payload = part_length (payload_at z) rest s (omega (arith, place.long)) in
      let optional = part_length (payload_at z + rest) z.optional s (omega (arith, place.long)) in
      record {
        payload = padded-length max_data (part (payload_at z) rest s) (omega (arith, payload, place.payload));
        optional =
            padded-length max_optional (part (payload_at z + rest) z.optional s)
            (omega (arith, optional, place.optional));
        value =
            number_below _ _ _ (narrow _ z.subtype 1 place.subtype (field_lt (subtype_at z) z.subtype s b));
        id =
            number_below _ _ _
            (narrow _ z.destination 4 place.destination (field_lt (destination_at z) z.destination s b));
      }

-- build what is read, and read it back
pub normal_read : NormalRead
unfolding read_of
normal_read s b e =
    let t = (read_of s).telegram in
    let built : build_of t s ≡ written s s = build_read s s b e (omega arith) in
    let shape : Shaped t = rw e (read_shaped s (check_facts s e) b) in
    let back : read_of (result_bytes (build_of t s)) ≡ record { number = 0; telegram = normal_of t }
    = read_built t shape s (ap (λ (r : Result). r.number) built) in
    let same : read_of (result_bytes (build_of t s)) ≡ read_of s =
    ap (λ (r : Result). read_of (result_bytes r)) built ∙ ap read_of (written-bytes s s) in
    ap (λ (r : Read). r.telegram) (sym back ∙ same)

-- the tables are those of 004
pub figures : Figures
figures = record { short = refl; forms = refl; control = refl; allowed = refl; reserved = refl; optional = refl }
