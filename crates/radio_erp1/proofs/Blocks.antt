-- Laws of bytes that are compared in blocks, which may meet.
use Rattle.std.proofs.Common.{◌≡◌, ℕ, ◌+◌, ◌-◌, ◌<◌, ◌≤◌, Bool, true, false, ◌&&◌, eqb, List, length, get_or, take, sym, refl, ap, ◌∙◌, zero-add, arith, length-take-le, get_or-take, ext_get_or, below_more, eq-eqb, eqb-true}
use mathlib.Core.Bool.{false≢true}
use native.Mathlib.Decide.{dec_lt}
use Rattle.base_lists.specs.Lists.{equal}
use Rattle.base_lists.proofs.Choice.{both}
use Rattle.base_lists.proofs.Tests.{and-true}
use Rattle.base_lists.proofs.Equal.{equal-said}
use Rattle.radio_erp1.specs.Private.{SameBytes}

-- ---- a block, byte by byte

pub agrees_none : (a b : List ℕ) (from : ℕ) → SameBytes a b from 0 true
agrees_none a b from = record { same = λ t k h. absurd (omega arith); all = λ h. refl }

pub agrees_next : {a b : List ℕ} {from k : ℕ} {r : Bool} → SameBytes a b from k r
    → SameBytes a b from (k + 1) (r && eqb (get_or a (from + k) 0) (get_or b (from + k) 0))
agrees_next {a} {b} {from} {k} {r} w =
    record {
      same = λ t.
          let u = both r (eqb (get_or a (from + k) 0) (get_or b (from + k) 0)) t in
          below_more _ k (w.same u.0) (eqb-true (get_or a (from + k) 0) (get_or b (from + k) 0) u.1);
      all =
          λ h. and-true (w.all (λ j i. h j (omega arith)))
          (eq-eqb (get_or a (from + k) 0) (get_or b (from + k) 0) (h k (omega arith)));
    }

-- ---- two blocks, the last bytes and the first

module _ (a b : List ℕ) (n w : ℕ) (la : n ≤ length a) (lb : n ≤ length b) where
  at : take n a ≡ take n b → (k : ℕ) → k < n → get_or a k 0 ≡ get_or b k 0
  at e k h = sym (get_or-take n a k 0 h) ∙ ap (λ l. get_or l k 0) e ∙ get_or-take n b k 0 h

  pub differ : {from : ℕ} → from + w ≤ n → SameBytes a b from w false → false ≡ equal (take n a) (take n b)
  differ {from} f d =
      sym (equal-said false (take n a) (take n b)
      ((λ t. absurd (false≢true t)), (λ e. d.all (λ k h. at e (from + k) (omega arith)))))

  pub agreed : {r : Bool} → w ≤ n → n ≤ w + w → SameBytes a b (n - w) w true
      → SameBytes a b 0 w r → r ≡ equal (take n a) (take n b)
  agreed {r} few many back front =
      sym (equal-said r (take n a) (take n b) (
        (λ t. ext_get_or 0 (take n a) (take n b)
            (length-take-le n a la ∙ sym (length-take-le n b lb)) (λ k h. each t k (size k h))),
        (λ e. front.all (λ k h. at e (0 + k) (omega arith))),
      ))
    where
      size : (k : ℕ) → k < length (take n a) → k < n
      size k h = omega (arith, length-take-le n a la)

      same : r ≡ true → (k : ℕ) → k < n → get_or a k 0 ≡ get_or b k 0
      same t k h = elim (dec_lt k w) [
        | yes l ↦ (rw zero-add at (front.same t k l))
        | no l ↦
            (let e : n - w + (k - (n - w)) ≡ k = omega arith in
            rw e at (back.same refl (k - (n - w)) (omega arith)))
      ]

      each : r ≡ true → (k : ℕ) → k < n → get_or (take n a) k 0 ≡ get_or (take n b) k 0
      each t k h = get_or-take n a k 0 h ∙ same t k h ∙ sym (get_or-take n b k 0 h)
