-- What is written part by part is the row.
use mathlib.Core.Path.{◌≡◌, ap, ◌∙◌}
use mathlib.Core.List.{List, [], ◌∷◌, ◌++◌, append_assoc, append-nil}
use Prim.Native.Nat.{ℕ, ◌+◌, ◌-◌, ◌≤◌, ◌<◌}
use native.Mathlib.Omega.{arith}
use lib.ListN.{length, take, drop, set}
use lib.Seq.{take_at, length-take-le}
use Rattle.std.specs.Prelude.{unwrap_or}
use Rattle.base_buffers.specs.Buffer.{part, resized}
use Rattle.block_layout.specs.BigEndian.{be}
use Rattle.base_buffers.proofs.Buffer.{resized_whole}
use Rattle.base_buffers.proofs.Segments.{Begun, store}
use Rattle.base_crc8.specs.Crc8.{crc_of}
use borrow.Author.Tests.{eq-eqb, ne_eqb}
use Rattle.radio_erp2_model.specs.declared.Telegram.{Telegram}
use Rattle.radio_erp2_model.specs.declared.Sizes.{Sizes}
use Rattle.radio_erp2_model.specs.Header.{header_byte, extension_byte}
use Rattle.radio_erp2_model.specs.Sizes.{overhead}
use Rattle.radio_erp2_model.specs.Building.{bytes_by_size}
use Rattle.radio_erp2.specs.Private.{before_ids, id_bytes, data_bytes, row_written}

seven : (A B C D E F G : List ℕ) → (A ++ B ++ C) ++ (D ++ E) ++ (F ++ G) ≡ A ++ B ++ C ++ D ++ E ++ F ++ G
seven A B C D E F G = simp append_assoc

joined : (s : ℕ) (A B C D E F G : List ℕ)
    → ((s ∷ []) ++ A ++ B ++ C) ++ (D ++ E) ++ (F ++ G) ≡ s ∷ (A ++ B ++ C ++ D ++ E ++ F ++ G)
joined s A B C D E F G = ap (λ (l : List ℕ). s ∷ l) (seven A B C D E F G)

width : (a w : ℕ) → a + w - a ≡ w
width a w = omega arith

module _ (t : Telegram) (z : Sizes) where
  pub ids_is : (n : ℕ) → n ≡ unwrap_or t.destination 0 → ([] ++ be (z.originator - 0) t.originator) ++ be
      (z.originator + z.destination - z.originator) n ≡ id_bytes t z
  unfolding id_bytes
  ids_is n e =
      let o : z.originator - 0 ≡ z.originator = omega arith in
      rw (e, o, width z.originator z.destination)

  pub head_is : (size h e v : ℕ) → h ≡ header_byte t.header → e ≡ extension_byte t.extension → v ≡ unwrap_or t.subtype 0
      → (([] ++ (size ∷ [])) ++ be (1 + z.header - 1) h ++ be (1 + z.header + z.extension - (1 + z.header)) e)
      ++ be (1 + z.header + z.extension + z.subtype - (1 + z.header + z.extension)) v
      ≡ before_ids t z size
  unfolding before_ids
  head_is size h e v p q r =
      rw (
        p,
        q,
        r,
        width 1 z.header,
        width (1 + z.header) z.extension,
        width (1 + z.header + z.extension) z.subtype,
      )

  -- data of its own length, and optional data
  module _ (payload : length t.payload ≡ 250) (optional : length t.optional ≡ 15)
      (n : t.len ≤ 250) (p : z.optional ≤ 15) where
    pub data_is : [] ++ resized (t.len - 0) (part 0 (t.len - 0) t.payload)
        ++ resized (t.len + z.optional - t.len)
        (part 0 (z.optional - 0) t.optional) ≡ data_bytes t z
    unfolding data_bytes
    data_is =
        let a : t.len - 0 ≡ t.len = omega arith in
        let c : z.optional - 0 ≡ z.optional = omega arith in
        rw (
          c,
          a,
          width t.len z.optional,
          resized_whole t.len (take t.len t.payload) (length-take-le t.len t.payload (omega arith)),
          resized_whole z.optional (take z.optional t.optional)
              (length-take-le z.optional t.optional (omega arith)),
        )

  -- the three parts are the length byte and the row
  pub row_is : (size : ℕ) → before_ids t z size ++ id_bytes t z ++ data_bytes t z ≡ size ∷ bytes_by_size t z
  unfolding before_ids id_bytes data_bytes
  row_is size =
      joined size (be z.header (header_byte t.header))
      (be z.extension (extension_byte t.extension)) (be z.subtype (unwrap_or t.subtype 0))
      (be z.originator t.originator) (be z.destination (unwrap_or t.destination 0))
      (take t.len t.payload) (take z.optional t.optional)

  -- ---- what the output then holds

  module _ (orig xs front : List ℕ) (size end : ℕ) (e : size ≡ overhead z + t.len)
      (f : front ≡ size ∷ bytes_by_size t z) (b : Begun orig front end xs) where
    pub plain_is : z.crc ≤ 1 → (z.crc ≡ 1 → ⊥) → end
        ≡ 1 + z.header + z.extension + z.subtype + z.originator + z.destination + t.len + z.optional
        → xs ≡ row_written t z orig
    unfolding row_written
    plain_is h n k =
        let c : z.crc ≡ 0 = omega arith in
        let m : end ≡ 1 + overhead z + t.len = omega arith in
        rw (ne_eqb z.crc 1 n, append-nil (bytes_by_size t z))
        (b.is ∙ ap (λ (x : List ℕ). x ++ drop end orig) f ∙ ap (λ (y : ℕ). (y ∷ bytes_by_size t z) ++ drop end orig) e
        ∙ ap
        (λ (y : ℕ). ((overhead z + t.len) ∷ bytes_by_size t z) ++ drop y orig) m)

    behind : part 1 (end - 1) xs ≡ bytes_by_size t z
    behind =
        let l : length front ≡ end = b.long in
        let r : length (size ∷ bytes_by_size t z) ≡ end = rw f at l in
        rw (b.is, f) (take_at (bytes_by_size t z) (drop end orig) (end - 1) (omega arith))

    pub sealed_is : z.crc ≡ 1 → end < length orig → end
        ≡ 1 + z.header + z.extension + z.subtype + z.originator + z.destination + t.len + z.optional
        → (c : ℕ) → c ≡ crc_of (part 1 (end - 1) xs) → set xs end c ≡ row_written t z orig
    unfolding row_written
    sealed_is h n k c g =
        let m : end + 1 ≡ 1 + overhead z + t.len = omega arith in
        let w = (store b c n).is in
        rw (eq-eqb z.crc 1 h)
        (w ∙ ap (λ (x : List ℕ). (x ++ (c ∷ [])) ++ drop (end + 1) orig) f ∙ ap
        (λ (y : ℕ). (size ∷ (bytes_by_size t z ++ (y ∷ []))) ++ drop (end + 1) orig) (g ∙ ap crc_of behind)
        ∙ ap (λ (y : ℕ). (y ∷ (bytes_by_size t z ++ (crc_of (bytes_by_size t z) ∷ []))) ++ drop (end + 1) orig) e
        ∙ ap (λ (y : ℕ). ((overhead z + t.len) ∷ (bytes_by_size t z ++ (crc_of (bytes_by_size t z) ∷ [])))
        ++ drop y orig)
        m)
