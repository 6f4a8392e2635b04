-- What two of one telegram share: their length, and every byte before STATUS.
use Prim.Native.Nat.{ℕ, ◌+◌, ◌-◌, ◌*◌, ◌≤◌, ◌<◌}
use native.Mathlib.Omega.{arith}
use mathlib.Core.Path.{◌≡◌, sym, ◌∙◌, ap, subst}
use mathlib.Core.Bool.{true, false}
use mathlib.Core.List.{List}
use lib.Dec.{T, eqb}
use lib.ListN.{length, get_or, take}
use lib.Seq.{get_or-take}
use borrow.Author.Tests.{eqb-true}
use Rattle.base_lists.specs.Lists.{equal, padded}
use Rattle.base_lists.proofs.Choice.{both}
use Rattle.base_lists.proofs.Equal.{equal_eq}
use Rattle.radio_erp1.specs.Status.{upper_of}
use Rattle.radio_erp1.specs.Subtelegram.{min_length, max_length, status_of, before_status}
use Rattle.radio_erp1.specs.Same.{is_same}
use Rattle.radio_erp1.proofs.Checks.{front_at}
use Rattle.base_buffers.specs.Buffer.{part, resized}
use Rattle.base_buffers.proofs.Segments.{part_at}
use Rattle.base_buffers.proofs.Buffer.{resized-length, padded_at}
use Rattle.collector_state.specs.Private.{shown_at}
use Rattle.collector_state.proofs.Inside.{fails}

module _ (a b : List ℕ) (same : is_same a b ≡ true) where
  pub same_length : length a ≡ length b
  unfolding is_same
  same_length = eqb-true _ _ (both (eqb (length a) (length b)) _ same).0

  module _ (low : min_length ≤ length a) where
    same_front : take (length a - 2) a ≡ take (length a - 2) b
    unfolding is_same
    same_front =
        let e =
        (both (eqb (upper_of (status_of a)) (upper_of (status_of b)))
        (equal (before_status a) (before_status b)) (both (eqb (length a) (length b)) _ same).1).1 in
        let long = same_length in
        let f = equal_eq (before_status a) (before_status b) (subst T (sym e) tt) in
        sym (front_at a (omega arith)) ∙ f ∙ front_at b (omega arith) ∙ ap (λ (n : ℕ). take (n - 2) b) (sym long)

    pub same_at : (k : ℕ) → k < length a - 2 → get_or a k 0 ≡ get_or b k 0
    same_at k h =
        sym (get_or-take (length a - 2) a k 0 h)
        ∙ ap (λ (l : List ℕ). get_or l k 0) same_front ∙ get_or-take (length a - 2) b k 0 h

-- ---- a byte that an entry shows is the one that stands there, also past the array's end

resized_at : (n : ℕ) (xs : List ℕ) (k : ℕ) → k < n → get_or (resized n xs) k 0 ≡ get_or xs k 0
unfolding resized
resized_at n xs k h = get_or-take n (padded n xs) k 0 h ∙ padded_at n xs k

-- an entry with another byte before STATUS is another telegram, whatever its length is
module _ (lens bytes : List ℕ) (i : ℕ) (xs : List ℕ) (low : min_length ≤ length xs)
    (high : length xs ≤ max_length) (k : ℕ) (before : k < length xs - 2) where
  pub other_byte : (get_or bytes (max_length * i + k) 0 ≡ get_or xs k 0 → ⊥)
      → is_same (shown_at lens bytes i) xs ≡ false
  other_byte n = fails (is_same (shown_at lens bytes i) xs) differs
    where
      differs : is_same (shown_at lens bytes i) xs ≡ true → ⊥
      differs e =
          let long = same_length (shown_at lens bytes i) xs e in
          let len : length (shown_at lens bytes i) ≡ get_or lens i 0 = resized-length (get_or lens i 0) _ in
          let shown =
          resized_at (get_or lens i 0) (part (max_length * i) max_length bytes) k (omega arith)
          ∙ part_at (max_length * i) max_length bytes k 0 (omega arith) in
          n (sym shown ∙ same_at (shown_at lens bytes i) xs e (omega arith) k (omega arith))
