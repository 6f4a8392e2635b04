-- The claims on salvage.
--     Done, done              what the number 0 says
--     kept, intact, salvaged-again, untouched     the claims; `accounted` stands in Rows
use Prim.Native.Nat.{ℕ, ◌*◌, ◌/◌, ◌%◌, ◌≤◌, ◌<◌}
use native.Mathlib.Omega.{arith}
use mathlib.Core.Path.{◌≡◌, refl, sym, ap, ap₂, ◌∙◌}
use mathlib.Core.Bool.{Bool, true, false}
use mathlib.Core.List.{List, ◌++◌}
use lib.Dec.{ltb, eqb}
use lib.ListN.{length, take, drop, length-append, length-drop}
use lib.Seq.{take_at, drop_at}
use borrow.Author.Tests.{eqb-true, leb-true, ltb-false, le-ltb}
use Rattle.base_lists.proofs.Choice.{both}
use Rattle.base_refusal.specs.Number.{number_of}
use Rattle.base_refusal.specs.declared.Refusal.TheVariants.{ShortOutput, Size}
use Rattle.block_layout.specs.Block.{block_length}
use Rattle.archive_model.specs.Buffer.{max_blocks, is_whole, rows_in, buffer_of}
use Rattle.archive_model.specs.Append.{verdict}
use Rattle.archive_model.proofs.Buffers.{buffer-length, rows_in_lem}
use Rattle.archive_model.proofs.Cursor.{verdict_facts, blocks_of, is_exact, written-verdict}
use Rattle.archive_repack_model.specs.Repack.{sound_rows, dropped, fronted, Salvaged, salvage_of}
use Rattle.archive_repack_model.specs.Claims.{salvaged_front, RowsKept, Intact, SalvagedAgain, Untouched}
use Rattle.archive_repack_model.proofs.Rows.{sound_rows-fit, sound_rows_few, intact_rows, intact_dropped}

-- ---- the three answers

abbrev as_it_was : ℕ → List ℕ → List ℕ → Salvaged
as_it_was number output positions =
    record { number = number; count = 0; rows = 0; output = output; positions = positions }

abbrev salvaged : List ℕ → List ℕ → List ℕ → Salvaged
salvaged buffer output positions = record {
  number = 0;
  count = length (dropped buffer);
  rows = length (sound_rows buffer);
  output = fronted (buffer_of (length buffer) (sound_rows buffer)) output;
  positions = fronted (dropped buffer) positions;
}

module _ (buffer output positions : List ℕ) where
  pub record Done : Type 0 where
    pub whole : is_whole (length buffer) ≡ true
    pub fits : length buffer ≤ length output
    pub listed : length (dropped buffer) ≤ length positions
    pub is : salvage_of buffer output positions ≡ salvaged buffer output positions

  -- done, or as it was
  pub data Answered : Type 0 where
    well : Done → Answered
    refused : (n : ℕ) → 0 < n → salvage_of buffer output positions ≡ as_it_was n output positions → Answered

  pub answered : Answered
  unfolding salvage_of
  answered =
      go (is_whole (length buffer)) (ltb (length output) (length buffer))
      (ltb (length positions) (length (dropped buffer))) refl refl refl
    where
      go : (w s l : Bool) → is_whole (length buffer) ≡ w → ltb (length output) (length buffer) ≡ s
          → ltb (length positions) (length (dropped buffer)) ≡ l → Answered
      go false s l e f g = refused (number_of Size) (omega arith) (rw e)
      go true true l e f g = refused (number_of ShortOutput) (omega arith) (rw (e, f))
      go true false true e f g = refused (number_of ShortOutput) (omega arith) (rw (e, f, g))
      go true false false e f g = well (record {
        whole = e;
        fits = ltb-false (length output) (length buffer) f;
        listed = ltb-false (length positions) (length (dropped buffer)) g;
        is = rw (e, f, g);
      })

  pub done : (salvage_of buffer output positions).number ≡ 0 → Done
  done z = go answered
    where
      go : Answered → Done
      go (well d) = d
      go (refused n h e) = absurd (omega (arith, h, sym (ap (λ (s : Salvaged). s.number) e) ∙ z))

-- a buffer of whole blocks
whole_length : (n : ℕ) → is_whole n ≡ true → (n ≡ block_length * (n / block_length)) × (n / block_length ≤ max_blocks)
unfolding is_whole
whole_length n w =
    let b = both (eqb (n % block_length) 0) _ w in
    let e : n % block_length ≡ 0 = eqb-true (n % block_length) 0 b.0 in
    (omega arith, leb-true (n / block_length) max_blocks b.1)

module _ (buffer : List ℕ) (w : is_whole (length buffer) ≡ true) where
  abbrev m : ℕ
  m = length buffer / block_length

  written_is : buffer_of (length buffer) (sound_rows buffer) ≡ buffer_of (block_length * m) (sound_rows buffer)
  written_is = ap (λ (n : ℕ). buffer_of n (sound_rows buffer)) (whole_length (length buffer) w).0

  pub salvaged_length : length (buffer_of (length buffer) (sound_rows buffer)) ≡ length buffer
  salvaged_length =
      ap length written_is ∙ buffer-length (sound_rows buffer) m (sound_rows-fit buffer) (sound_rows_few buffer)
      ∙ sym (whole_length (length buffer) w).0

  salvaged_verdict : (verdict (buffer_of (length buffer) (sound_rows buffer))).number ≡ 0
  salvaged_verdict =
      rw written_is
      (written-verdict (sound_rows buffer) m (sound_rows-fit buffer)
      (sound_rows_few buffer) (whole_length (length buffer) w).1)

  salvaged_rows : rows_in (buffer_of (length buffer) (sound_rows buffer)) ≡ sound_rows buffer
  salvaged_rows = rw written_is (rows_in_lem (sound_rows buffer) m (sound_rows-fit buffer) (sound_rows_few buffer))

-- what was written
front_is : (buffer output positions : List ℕ) → (salvage_of buffer output positions).number ≡ 0
    → salvaged_front buffer output positions ≡ buffer_of (length buffer) (sound_rows buffer)
front_is buffer output positions z =
    let d = done buffer output positions z in
    let written = buffer_of (length buffer) (sound_rows buffer) in
    ap (λ (s : Salvaged). take (length buffer) s.output) d.is
    ∙ take_at written (drop (length written) output) (length buffer) (salvaged_length buffer d.whole)

pub kept : RowsKept
kept buffer output positions z =
    let d = done buffer output positions z in
    let e = front_is buffer output positions z in
    rw e (salvaged_verdict buffer d.whole, salvaged_rows buffer d.whole)

pub intact : Intact
unfolding salvage_of
intact buffer output positions v fits =
    let written : buffer_of (length buffer) (sound_rows buffer) ≡ buffer =
    ap₂ buffer_of (blocks_of buffer v).0 (intact_rows buffer v) ∙ is_exact buffer v in
    let none = intact_dropped buffer v in
    let listed : length (dropped buffer) ≤ length positions = omega (arith, ap length none) in
    rw (
      (verdict_facts buffer v).0,
      le-ltb (length output) (length buffer) fits,
      le-ltb (length positions) (length (dropped buffer)) listed,
      none,
      written,
      intact_rows buffer v,
    )

pub salvaged_again : SalvagedAgain
salvaged_again buffer output positions output2 positions2 z fits =
    let d = done buffer output positions z in
    let front = salvaged_front buffer output positions in
    let long : length front ≡ length buffer =
    ap length (front_is buffer output positions z) ∙ salvaged_length buffer d.whole in
    let k = kept buffer output positions z in
    let rows : length (rows_in front) ≡ (salvage_of buffer output positions).rows =
    ap length k.1 ∙ sym (ap (λ (s : Salvaged). s.rows) d.is) in
    intact front output2 positions2 k.0 (omega (arith, long, fits))
    ∙ ap₂ (λ (r n : ℕ).
    record { number = 0; count = 0; rows = r; output = front ++ drop n output2; positions = positions2 })
    rows long

-- a front that was put, and what stands behind it
fronted-length : (xs old : List ℕ) → length xs ≤ length old → length (fronted xs old) ≡ length old
fronted-length xs old h = length-append xs (drop (length xs) old) ∙ omega (arith, length-drop (length xs) old)

pub untouched : (buffer output positions : List ℕ) → Untouched buffer output positions
untouched buffer output positions = go (answered buffer output positions)
  where
    go : Answered buffer output positions → Untouched buffer output positions
    go (refused n h e) = record {
      output_length = rw e;
      list_length = rw e;
      output_past = rw e;
      list_past = rw e;
      refused = λ z. rw e (refl, refl);
    }
    go (well d) =
        let written = buffer_of (length buffer) (sound_rows buffer) in
        let long = salvaged_length buffer d.whole in
        record {
          output_length = rw d.is (fronted-length written output (omega (arith, long, d.fits)));
          list_length = rw d.is (fronted-length (dropped buffer) positions d.listed);
          output_past =
              rw d.is
              (drop_at written (drop (length written) output) (length buffer) long
              ∙ ap (λ (n : ℕ). drop n output) long);
          list_past =
              rw d.is
              (drop_at (dropped buffer) (drop (length (dropped buffer)) positions) (length (dropped buffer)) refl);
          refused = λ z. absurd (z (rw d.is));
        }
