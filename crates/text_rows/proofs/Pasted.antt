-- Laws of texts that are written in blocks, which may meet.
use mathlib.Core.Path.{◌≡◌, refl, sym, ap, ◌∙◌}
use mathlib.Core.List.{List, [], ◌∷◌, ◌++◌, append_assoc}
use Prim.Native.Nat.{ℕ, zero, suc, ◌+◌, ◌-◌, ◌*◌, ◌/◌, ◌%◌, ◌≤◌, ◌<◌}
use native.Mathlib.Omega.{arith}
use native.Mathlib.Decide.{dec_lt}
use native.Mathlib.Nat.{add-zero, zero-add}
use borrow.Rule.Slice.PartMut.{put_mid}
use lib.ListN.{length, get_or, set, take, drop, length-set}
use lib.Seq.{sets, length-sets, get_or-set_same, get_or-set_other, ext_get_or}
use Rattle.std.proofs.lemmas.List.{drop-drop}
use Rattle.std.proofs.lemmas.List.Edits.{sets-eq}
use Rattle.text_lines.specs.Private.{CopiedPart}
use Rattle.text_rows.specs.Text.{hex_digit_of, hex_text}
use Rattle.text_rows.specs.Private.{DigitsOf}

-- ---- stores, place by place

sets-out : (vs l : List ℕ) (i k : ℕ) → (i ≤ k → k < i + length vs → ⊥) → get_or (sets l i vs) k 0 ≡ get_or l k 0
sets-out [] l i k h = refl
sets-out (v ∷ vs) l i k h =
    sets-out vs (set l i v) (suc i) k (λ a b. h (omega arith) (omega arith))
    ∙ get_or-set_other l i k v 0 (λ e. h (omega arith) (omega arith))

sets_in : (vs l : List ℕ) (i k : ℕ) → i + length vs ≤ length l
    → k < length vs → get_or (sets l i vs) (i + k) 0 ≡ get_or vs k 0
sets_in [] l i k h m = absurd (omega arith)
sets_in (v ∷ vs) l i zero h m =
    rw add-zero (sets-out vs (set l i v) (suc i) i (λ a b. omega arith) ∙ get_or-set_same l i v 0 (omega arith))
sets_in (v ∷ vs) l i (suc k) h m =
    let e : i + suc k ≡ suc i + k = omega arith in
    rw e (sets_in vs (set l i v) (suc i) k (simp length-set (omega arith)) (omega arith))

-- a part that is replaced as a whole
pub replaced : (s l : List ℕ) (at k : ℕ) → k ≡ length s → at + length s ≤ length l → put_mid at k l s ≡ sets l at s
replaced s l at k e h =
    rw e
    (ap (λ (z : List ℕ). take at l ++ (s ++ z)) (drop-drop (length s) at l)
    ∙ sym (append_assoc (take at l) s (drop (at + length s) l)) ∙ sym (sets-eq s l at h))

-- ---- a text of which the first p characters are written

pub record Pasting (src out : List ℕ) (at p : ℕ) (new : List ℕ) : Type 0 where
  pub long : length new ≡ length out
  pub inside : (k : ℕ) → k < p → get_or new (at + k) 0 ≡ get_or src k 0
  pub outside : (k : ℕ) → (at ≤ k → k < at + p → ⊥) → get_or new k 0 ≡ get_or out k 0

pub paste_first : {src out new : List ℕ} {at w : ℕ} → CopiedPart src 0 w out at new → Pasting src out at w new
paste_first b = record { long = b.long; inside = λ k h. rw zero-add at (b.inside k h); outside = b.outside }

-- a block that begins where the text is written, or before, and ends where it is not, or there
pub paste_next : {src out mid new : List ℕ} {at p f w : ℕ} → Pasting src out at p mid
    → f ≤ p → p ≤ f + w → CopiedPart src f w mid (at + f) new
    → Pasting src out at (f + w) new
paste_next {at = at} {f = f} a l m b =
    record {
      long = b.long ∙ a.long;
      inside = λ k h. elim (dec_lt k f) [
        | yes i ↦ (b.outside (at + k) (λ x y. omega arith) ∙ a.inside k (omega arith))
        | no i ↦
            (let e : at + f + (k - f) ≡ at + k = omega arith in
            let g : f + (k - f) ≡ k = omega arith in
            rw (e, g) at (b.inside (k - f) (omega arith)))
      ];
      outside =
          λ k h. b.outside k (λ x y. h (omega arith) (omega arith))
          ∙ a.outside k (λ x y. h (omega arith) (omega arith));
    }

pub pasted : {src out new : List ℕ} {at p : ℕ} → Pasting src out at p new
    → length src ≡ p → at + p ≤ length out → new ≡ sets out at src
pasted {src} {out} {new} {at} {p} a size fits =
    ext_get_or 0 new (sets out at src) (a.long ∙ sym (length-sets out at src))
    (λ k h. elim (dec_lt k at) [
      | yes l ↦ (a.outside k (λ x y. omega arith) ∙ sym (sets-out src out at k (λ x y. omega arith)))
      | no l ↦ elim (dec_lt k (at + p)) [
        | yes m ↦
            (let e : at + (k - at) ≡ k = omega arith in
            (rw e at (a.inside (k - at) (omega arith)))
            ∙ sym (rw e at (sets_in src out at (k - at) (omega arith) (omega arith))))
        | no m ↦ (a.outside k (λ x y. omega arith) ∙ sym (sets-out src out at k (λ x y. omega arith)))
      ]
    ])

-- by an array
pub through : {s c d out new : List ℕ} {from n at : ℕ} → CopiedPart s from n c 0 d
    → CopiedPart d 0 n out at new → CopiedPart s from n out at new
through a b = record { long = b.long; inside = λ k h. b.inside k h ∙ a.inside k h; outside = b.outside }

-- ---- digits

text-high : (s : List ℕ) (m : ℕ) → m < length s → get_or (hex_text s) (2 * m) 0 ≡ hex_digit_of (get_or s m 0 / 16)
unfolding hex_text
text-high [] m h = absurd (omega arith)
text-high (b ∷ s) zero h = refl
text-high (b ∷ s) (suc m) h =
    let e : 2 * suc m ≡ suc (suc (2 * m)) = omega arith in
    rw e (text-high s m (omega arith))

text-low : (s : List ℕ) (m : ℕ) → m < length s → get_or (hex_text s) (2 * m + 1) 0 ≡ hex_digit_of (get_or s m 0 % 16)
unfolding hex_text
text-low [] m h = absurd (omega arith)
text-low (b ∷ s) zero h = refl
text-low (b ∷ s) (suc m) h =
    let e : 2 * suc m + 1 ≡ suc (suc (2 * m + 1)) = omega arith in
    rw e (text-low s m (omega arith))

pub digits-put : {s d out new : List ℕ} {from at : ℕ} → from + 8 ≤ length s
    → DigitsOf s from d → CopiedPart d 0 16 out at new
    → CopiedPart (hex_text s) (2 * from) 16 out at new
digits-put {s} {d} {from = from} fits w b =
    record {
      long = b.long;
      inside = λ k h. (rw zero-add at (b.inside k h)) ∙ digit k h;
      outside = b.outside;
    }
  where
    digit : (k : ℕ) → k < 16 → get_or d k 0 ≡ get_or (hex_text s) (2 * from + k) 0
    digit k h = elim (dec_lt (k % 2) 1) [
      | yes l ↦
          (let e : 2 * (k / 2) ≡ k = omega arith in
          let f : 2 * (from + k / 2) ≡ 2 * from + k = omega arith in
          (rw e at (w.high (k / 2) (omega arith))) ∙ sym (rw f at (text-high s (from + k / 2) (omega arith))))
      | no l ↦
          (let e : 2 * (k / 2) + 1 ≡ k = omega arith in
          let f : 2 * (from + k / 2) + 1 ≡ 2 * from + k = omega arith in
          (rw e at (w.low (k / 2) (omega arith))) ∙ sym (rw f at (text-low s (from + k / 2) (omega arith))))
    ]

-- two stores a turn
module _ (f : ℕ → ℕ) (d : List ℕ) (k x y : ℕ) (fits : 2 * k + 1 < length d) where
  pub high_next : ((j : ℕ) → j < k → get_or d (2 * j) 0 ≡ f j) → x ≡ f k → (j : ℕ)
      → j < k + 1 → get_or (set (set d (2 * k) x) (2 * k + 1) y) (2 * j) 0 ≡ f j
  high_next done e j h =
      get_or-set_other (set d (2 * k) x) (2 * k + 1) (2 * j) y 0 (λ z. omega arith)
      ∙ elim (dec_lt j k) [
        | yes l ↦ (get_or-set_other d (2 * k) (2 * j) x 0 (λ z. omega arith) ∙ done j l)
        | no l ↦
            (let s : j ≡ k = omega arith in
            rw s (get_or-set_same d (2 * k) x 0 (omega arith) ∙ e))
      ]

  pub low_next : ((j : ℕ) → j < k → get_or d (2 * j + 1) 0 ≡ f j) → y ≡ f k → (j : ℕ)
      → j < k + 1 → get_or (set (set d (2 * k) x) (2 * k + 1) y) (2 * j + 1) 0 ≡ f j
  low_next done e j h = elim (dec_lt j k) [
    | yes l ↦
        (get_or-set_other (set d (2 * k) x) (2 * k + 1) (2 * j + 1) y 0 (λ z. omega arith)
        ∙ get_or-set_other d (2 * k) (2 * j + 1) x 0 (λ z. omega arith)
        ∙ done j l)
    | no l ↦
        (let s : j ≡ k = omega arith in
        rw s (get_or-set_same (set d (2 * k) x) (2 * k + 1) y 0 (simp length-set (omega arith)) ∙ e))
  ]
