-- Lists that are zero filled to a length: one element more, and a list more.
use Rattle.std.specs.Prelude.{Ok, Err}
use mathlib.Core.Path.{◌≡◌, refl, sym, ap, ◌∙◌}
use mathlib.Core.Bool.{Bool, true, false, cond}
use mathlib.Core.List.{List, [], ◌∷◌, ◌++◌, append_assoc, append-nil}
use Prim.Native.Nat.{ℕ, zero, suc, ◌+◌, ◌-◌, ◌≤◌, ◌<◌}
use native.Mathlib.Nat.{add-sub_cancel, sub_self, sub-add-eq, le_of_eq}
use native.Mathlib.Numerals.{add-one}
use native.Mathlib.Omega.{arith}
use lib.Dec.{ltb}
use lib.ListN.{length, take, drop, set, replicate, length-append, length-drop, length-replicate}
use lib.Seq.{drop-cons, set-append_seam, take-append_seam, drop-append_seam, take_all, take-length}
use borrow.Rule.Slice.PartMut.{mid_of, put_mid}
use Rattle.radio_telegram.specs.declared.frame.Frame.{Frame}
use borrow.Author.Tests.{lt-ltb, le-ltb, ltb-false}
use Rattle.base_refusal.specs.declared.Refusal.TheVariants.{TooLong, ShortOutput}
use Rattle.base_refusal.proofs.Numbers.{refused-number}
use Rattle.base_lists.specs.Lists.{padded}
use Rattle.base_lists.proofs.Padded.{drop-replicate}
use Rattle.radio_erp1.specs.Subtelegram.{max_length}
use Rattle.radio_telegram.specs.Frame.{frame_of}
use Rattle.radio_telegram.specs.Private.{Extended}
use Rattle.radio_telegram.specs.Output.{Result, result_of, refused, written, put_of}

replicate_cons : (n a : ℕ) → 0 < n → replicate n a ≡ a ∷ replicate (n - 1) a
replicate_cons zero a h = absurd (omega arith)
replicate_cons (suc n) a h = rw (← add-one n, add-sub_cancel)

take-replicate : (n a : ℕ) → take n (replicate n a) ≡ replicate n a
take-replicate n a = take_all n (replicate n a) (le_of_eq (length-replicate n a))

module _ (m : ℕ) (xs : List ℕ) where
  pub padded_push : (b : ℕ) → length xs < m → set (padded m xs) (length xs) b ≡ padded m (xs ++ (b ∷ []))
  padded_push b h =
      rw (replicate_cons (m - length xs) 0 (omega arith), set-append_seam)
      (simp (append_assoc, length-append, sub-add-eq))

  pub padded_append : (ys : List ℕ) → length xs + length ys ≤ m
      → put_mid (length xs) (m - length xs) (padded m xs)
      (take (length ys) ys ++ drop (length ys) (mid_of (length xs) (m - length xs) (padded m xs)))
      ≡ padded m (xs ++ ys)
  padded_append ys h =
      simp (
        take-append_seam,
        drop-append_seam,
        take-length,
        take-replicate,
        drop-replicate,
        sub_self,
        length-append,
        sub-add-eq,
        append_assoc,
        append-nil,
      )

pub frame_push : (f : Frame) (b : ℕ) → f.len < 21
    → Extended f (record { len = f.len + 1; bytes = set f.bytes f.len b }) (b ∷ [])
unfolding frame_of
frame_push f b h = record {
  len = refl;
  bytes = λ xs e.
      let k : length xs < 21 = rw e at h in
      rw e (λ i. record { len = sym (length-append xs (b ∷ [])) i; bytes = padded_push 21 xs b k i });
}

pub frame_append : (f : Frame) (src last : List ℕ) (n : ℕ) → f.len + length src ≤ 21 → n ≡ length src
    → last ≡ take (length src) src ++ drop (length src) (mid_of f.len (21 - f.len) f.bytes)
    → Extended f (record { len = f.len + n; bytes = put_mid f.len (21 - f.len) f.bytes last }) src
unfolding frame_of
frame_append f src last n h p q = record {
  len = rw p;
  bytes = λ xs e.
      let k : length xs + length src ≤ 21 = rw e at h in
      rw (p, q, e) (λ i. record { len = sym (length-append xs src) i; bytes = padded_append 21 xs src k i });
}

pub frame-len : (f : Frame) (xs : List ℕ) → f ≡ frame_of xs → f.len ≡ length xs
unfolding frame_of
frame-len f xs e = ap (λ (g : Frame). g.len) e

pub frame-take : (f : Frame) (xs : List ℕ) → f ≡ frame_of xs → take f.len f.bytes ≡ xs
unfolding frame_of
frame-take f xs e = rw e (take-append_seam xs _)

-- ---- what was written to the front of an output

module _ (xs out : List ℕ) where
  pub written-length : length xs ≤ length out → length (written xs out).output ≡ length out
  written-length h = simp (length-append, length-drop) (omega arith)

  module _ {n : ℕ} (e : length xs ≡ n) where
    -- one byte more
    pub written_push : (b : ℕ) → n < length out
        → set (written xs out).output n b ≡ (written (xs ++ (b ∷ [])) out).output
    written_push b h =
        rw (← e, drop-cons out (length xs) 0 (rw e h), set-append_seam)
        (simp (append_assoc, length-append, add-one))

    pub written_front : take n (written xs out).output ≡ xs
    written_front = rw (← e) (take-append_seam xs (drop (length xs) out))

-- what was written to an empty frame
pub frame-written : (xs : List ℕ) {n : ℕ} {out : List ℕ}
    → record { number = 0; len = n; output = out } ≡ written xs (replicate max_length 0)
    → record { len = n; bytes = out } ≡ frame_of xs
unfolding frame_of
frame-written xs e =
    ap (λ (r : Result). record { len = r.len; bytes = r.output }) e ∙ rw (drop-replicate (length xs) max_length 0)

-- ---- the answers of a write

-- an answer 0 did not take a refusal's way
pub unrefused : (b : Bool) (n : ℕ) (out : List ℕ) (r : Result) → (n ≡ 0 → ⊥)
    → (cond b (refused n out) r).number ≡ 0 → (b ≡ false) × (r.number ≡ 0)
unrefused true n out r z e = absurd (z e)
unrefused false n out r z e = (refl, e)

module _ (xs out : List ℕ) where
  pub put_facts : (put_of xs out).number ≡ 0 → (length xs ≤ max_length) × (length xs ≤ length out)
  unfolding put_of
  put_facts e =
      let p = unrefused (ltb max_length (length xs)) _ out _ (refused-number TooLong) e in
      let q = unrefused (ltb (length out) (length xs)) _ out (written xs out) (refused-number ShortOutput) p.1 in
      (ltb-false _ _ p.0, ltb-false _ _ q.0)

  module _ (fits : length xs ≤ max_length) where
    pub put-short : length out < length xs → result_of (Err ShortOutput) out ≡ put_of xs out
    unfolding put_of
    put-short h = simp (le-ltb _ _ fits, lt-ltb _ _ h)

    pub put_written : length xs ≤ length out → put_of xs out ≡ written xs out
    unfolding put_of
    put_written h = simp (le-ltb _ _ fits, le-ltb _ _ h)

    pub put_all : (src last : List ℕ) (r : ℕ) → src ≡ xs → length src ≤ length out → r ≡ length src
        → last ≡ take (length src) src ++ drop (length src) out → result_of (Ok r) last ≡ put_of xs out
    put_all src last r e h p q = rw (p, q, e, take-length) (sym (put_written (rw e at h)))
