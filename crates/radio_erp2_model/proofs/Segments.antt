-- A telegram's bytes as a list of segments, one for each field: the part where a field stands is the field. One law over the segments and an
-- index (`part-nth`) says it of each.
use mathlib.Core.Path.{◌≡◌}
use mathlib.Core.List.{List, [], ◌∷◌, ◌++◌, append_assoc, append-nil, flatten}
use Prim.Native.Nat.{ℕ, ◌+◌}
use native.Mathlib.Omega.{arith}
use lib.ListN.{length, get_or, length-append}
use Rattle.std.specs.Prelude.{unwrap_or}
use Rattle.base_buffers.specs.Buffer.{part}
use Rattle.block_layout.specs.BigEndian.{be}
use Rattle.base_buffers.proofs.Segments.{start, part-nth}
use Rattle.block_layout.proofs.BigEndian.{be-length}
use Rattle.radio_erp2_model.specs.declared.Telegram.{Telegram}
use Rattle.radio_erp2_model.specs.declared.Sizes.{Sizes}
use Rattle.radio_erp2_model.specs.Header.{header_byte, extension_byte}
use Rattle.radio_erp2_model.specs.Sizes.{extension_at, subtype_at, originator_at, destination_at, payload_at}
use Rattle.radio_erp2_model.specs.Building.{sizes_for, telegram_size, data_of, optional_of, body_of, seal_of, erp2_bytes}
use Rattle.radio_erp2_model.proofs.Facts.{Lengths}

joined : (l : ℕ) (A B C D E F G H : List ℕ)
    → l ∷ ((A ++ B ++ C ++ D ++ E ++ F ++ G) ++ H) ≡ flatten ((l ∷ []) ∷ A ∷ B ∷ C ∷ D ∷ E ∷ F ∷ G ∷ H ∷ [])
unfolding flatten
joined l A B C D E F G H = simp (append_assoc, append-nil)

module _ (t : Telegram) where
  abbrev z : Sizes
  z = sizes_for t

  abbrev pub header_field : List ℕ
  header_field = be z.header (header_byte t.header)

  abbrev pub extension_field : List ℕ
  extension_field = be z.extension (extension_byte t.extension)

  abbrev pub subtype_field : List ℕ
  subtype_field = be z.subtype (unwrap_or t.subtype 0)

  abbrev pub originator_field : List ℕ
  originator_field = be z.originator t.originator

  abbrev pub destination_field : List ℕ
  destination_field = be z.destination (unwrap_or t.destination 0)

  abbrev segments : List (List ℕ)
  segments =
      (telegram_size t ∷ []) ∷ header_field ∷ extension_field ∷ subtype_field
      ∷ originator_field ∷ destination_field ∷ data_of t ∷ optional_of t ∷ seal_of t ∷ []

  is_segments : erp2_bytes t ≡ flatten segments
  unfolding erp2_bytes body_of
  is_segments =
      joined (telegram_size t) header_field extension_field subtype_field originator_field destination_field
      (data_of t) (optional_of t) (seal_of t)

  segment : (k a n : ℕ) → start k segments ≡ a → length (get_or segments k []) ≡ n
      → part a n (erp2_bytes t) ≡ get_or segments k []
  segment k a n e h = rw is_segments (part-nth k segments a n e h)

  -- ---- how long each is

  header-length : length header_field ≡ z.header
  header-length = be-length z.header (header_byte t.header)

  extension-length : length extension_field ≡ z.extension
  extension-length = be-length z.extension (extension_byte t.extension)

  subtype-length : length subtype_field ≡ z.subtype
  subtype-length = be-length z.subtype (unwrap_or t.subtype 0)

  originator-length : length originator_field ≡ z.originator
  originator-length = be-length z.originator t.originator

  destination-length : length destination_field ≡ z.destination
  destination-length = be-length z.destination (unwrap_or t.destination 0)

  -- ---- where each stands

  pub part-header : part 1 z.header (erp2_bytes t) ≡ header_field
  part-header = segment 1 1 z.header (omega arith) header-length

  pub part-extension : part (extension_at z) z.extension (erp2_bytes t) ≡ extension_field
  part-extension = segment 2 (extension_at z) z.extension (omega (arith, header-length)) extension-length

  pub part-subtype : part (subtype_at z) z.subtype (erp2_bytes t) ≡ subtype_field
  part-subtype = segment 3 (subtype_at z) z.subtype (omega (arith, header-length, extension-length)) subtype-length

  pub part-originator : part (originator_at z) z.originator (erp2_bytes t) ≡ originator_field
  part-originator =
      segment 4 (originator_at z) z.originator
      (omega (arith, header-length, extension-length, subtype-length)) originator-length

  pub part-destination : part (destination_at z) z.destination (erp2_bytes t) ≡ destination_field
  part-destination =
      segment 5 (destination_at z) z.destination
      (omega (arith, header-length, extension-length, subtype-length, originator-length))
      destination-length

  -- the start of the data, in segments
  data_start : start 6 segments ≡ payload_at z
  data_start = omega (arith, header-length, extension-length, subtype-length, originator-length, destination-length)

  module _ (l : Lengths t) where
    pub part-payload : part (payload_at z) t.len (erp2_bytes t) ≡ data_of t
    part-payload = segment 6 (payload_at z) t.len data_start l.payload

    pub part-optional : part (payload_at z + t.len) z.optional (erp2_bytes t) ≡ optional_of t
    part-optional = segment 7 (payload_at z + t.len) z.optional (omega (arith, data_start, l.payload)) l.optional

    pub built_length : length (erp2_bytes t) ≡ 1 + telegram_size t
    unfolding erp2_bytes body_of telegram_size
    built_length = simp (length-append, be-length, l.payload, l.optional, l.seal) (omega arith)
