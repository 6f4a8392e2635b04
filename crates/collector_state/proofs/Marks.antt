-- Marks: the same telegrams have the same, so that an entry whose mark no entry before it has is no copy of one.
use Rattle.std.specs.Prelude.{Some, None, Result, Ok, Err, is_err, ⊤}
use Prim.Native.Nat.{ℕ, zero, suc, ◌+◌, ◌-◌, ◌*◌, ◌≤◌, ◌<◌}
use native.Mathlib.Decide.{dec_lt}
use native.Mathlib.Numerals.{add-one}
use native.Mathlib.Omega.{arith}
use mathlib.Core.Path.{◌≡◌, refl, sym, ◌∙◌, ap}
use mathlib.Core.Bool.{Bool, true, false, cond, false≢true}
use mathlib.Core.List.{List}
use lib.Dec.{eqb}
use lib.ListN.{length, get_or, set, length-set}
use lib.Seq.{get_or-set_same, get_or-set_other}
use borrow.Author.Tests.{eqb-true, eqb-false}
use Rattle.base_lists.proofs.Tests.{by_test}
use Rattle.base_refusal.specs.Number.{outcome_number}
use Rattle.base_refusal.specs.declared.Refusal.{Refusal}
use Rattle.radio_erp1.specs.Subtelegram.{min_length, max_length, check_of, is_valid}
use Rattle.radio_erp1.specs.Same.{is_same}
use Rattle.radio_erp1.proofs.Checks.{check_facts, not_valid}
use Rattle.base_buffers.specs.Buffer.{part}
use Rattle.base_buffers.proofs.Buffer.{resized-length}
use Rattle.collector_model.specs.View.{opened_by}
use Rattle.collector_model.specs.Acceptable.{is_copy_of}
use Rattle.collector_model.proofs.Check.{valid-length}
use Rattle.collector_state.specs.Collector.{Columns, entry_at, entries_at}
use Rattle.collector_state.specs.Admission.{has_copy}
use Rattle.collector_state.specs.Private.{shown_at, marks, mark_of, mark_in, Repeated, is_repeated_at}
use Rattle.collector_state.proofs.Inside.{fails}
use Rattle.collector_state.proofs.Arrays.{not_same, has_none, has_more}
use Rattle.collector_state.proofs.Copies.{same_length, same_at}

same_mark : (a b : List ℕ) → is_same a b ≡ true → min_length ≤ length a → mark_of a ≡ mark_of b
unfolding mark_of
same_mark a b same low =
    let at = same_at a b same low in
    rw (at (length a - 3) (omega arith), at (length a - 4) (omega arith), at 1 (omega arith), same_length a b same)

-- ---- the table of those seen

-- it has the mark of each of the first i entries
pub record Marked (lens bytes : List ℕ) (i : ℕ) (seen : List Bool) : Type 0 where
  pub long : length seen ≡ marks
  pub each : (j : ℕ) → j < i → get_or seen (mark_of (shown_at lens bytes j)) false ≡ true

pub marked_none : (lens bytes : List ℕ) (seen : List Bool) → length seen ≡ marks → Marked lens bytes 0 seen
marked_none lens bytes seen long = record { long = long; each = λ j h. absurd (omega arith) }

module _ (lens bytes : List ℕ) (i : ℕ) (seen : List Bool) (m : Marked lens bytes i seen) where
  abbrev mark_at : ℕ → ℕ
  mark_at j = mark_of (shown_at lens bytes j)

  pub marked_more : (mark : ℕ) → mark ≡ mark_at i → mark < marks → Marked lens bytes (i + 1) (set seen mark true)
  marked_more mark e h =
      let long = m.long in
      record {
        long = length-set seen mark true ∙ m.long;
        each = λ j k. by_test (eqb (mark_at j) mark) (λ q. hit j (eqb-true _ _ q)) (λ q. other j k (eqb-false _ _ q));
      }
    where
      hit : (j : ℕ) → mark_at j ≡ mark → get_or (set seen mark true) (mark_at j) false ≡ true
      hit j q = let long = m.long in rw q (get_or-set_same seen mark true false (omega arith))

      other : (j : ℕ) → j < i + 1 → (mark_at j ≡ mark → ⊥) → get_or (set seen mark true) (mark_at j) false ≡ true
      other j k n = elim (dec_lt j i) [
        | yes l ↦ get_or-set_other seen mark (mark_at j) true false n ∙ m.each j l
        | no l ↦ let s : j ≡ i = omega arith in absurd (n (ap mark_at s ∙ sym e))
      ]

-- a mark that was not seen is that of no copy
module _ (a : Columns) (i : ℕ) (seen : List Bool) (m : Marked a.lens a.bytes i seen)
    (valid : is_valid (entry_at a i).bytes ≡ true)
    (unseen : get_or seen (mark_of (entry_at a i).bytes) false ≡ false) where
  low : min_length ≤ length (entry_at a i).bytes
  low = (check_facts (entry_at a i).bytes (eqb-true _ 0 valid)).low

  no_copy_before : (j : ℕ) → j < i → is_copy_of (entry_at a j) (opened_by (entry_at a i)) ≡ false
  no_copy_before j h =
      not_same a j (opened_by (entry_at a i)) (fails (is_same (entry_at a j).bytes (entry_at a i).bytes) seen_twice)
    where
      seen_twice : is_same (entry_at a j).bytes (entry_at a i).bytes ≡ true → ⊥
      seen_twice e =
          let long = same_length (entry_at a j).bytes (entry_at a i).bytes e in
          let enough = low in
          false≢true
          (sym unseen
          ∙ ap (λ (n : ℕ). get_or seen n false)
          (sym (same_mark (entry_at a j).bytes (entry_at a i).bytes e (omega arith)))
          ∙ m.each j h)

  up_to : (k : ℕ) → k ≤ i → has_copy (entries_at a k) (opened_by (entry_at a i)) ≡ false
  up_to zero h = has_none a (opened_by (entry_at a i))
  up_to (suc k) h =
      rw (← add-one) (has_more a k (opened_by (entry_at a i)) (up_to k (omega arith)) (no_copy_before k (omega arith)))

  pub new-mark : is_repeated_at a i ≡ false
  new-mark = up_to i (omega arith)

-- ---- an entry's mark

pub mark-low : (s : List ℕ) → mark_of s < marks
unfolding mark_of
mark-low s = omega arith

pub mark_valid : (s : List ℕ) {m : ℕ} → Some m ≡ mark_in s → (is_valid s ≡ true) × (m ≡ mark_of s)
mark_valid s {m} = go (is_valid s)
  where
    go : (b : Bool) → Some m ≡ cond b (Some (mark_of s)) None → (b ≡ true) × (m ≡ mark_of s)
    go true e = (refl, cc)
    go false e = cc

pub unmarked : (s : List ℕ) → None ≡ mark_in s → is_valid s ≡ false
unmarked s = go (is_valid s)
  where
    go : (b : Bool) → None ≡ cond b (Some (mark_of s)) None → b ≡ false
    go true e = cc
    go false e = refl

-- what the check says
pub passes : (r : Result ⊤ Refusal) (s : List ℕ) → outcome_number r ≡ check_of s → is_err r ≡ false → check_of s ≡ 0
passes (Ok tt) s e f = sym e
passes (Err why) s e f = cc

pub refuses : (r : Result ⊤ Refusal) (s : List ℕ) → outcome_number r ≡ check_of s → is_err r ≡ true → is_valid s ≡ false
refuses (Ok tt) s e f = cc
refuses (Err why) s e f = not_valid s why e

-- a length over 21 is not that of a valid entry
module _ (lens bytes : List ℕ) (i : ℕ) where
  shown-length : length (shown_at lens bytes i) ≡ get_or lens i 0
  shown-length = resized-length (get_or lens i 0) (part (max_length * i) max_length bytes)

  pub long-not-valid : max_length < get_or lens i 0 → is_valid (shown_at lens bytes i) ≡ false
  long-not-valid h =
      fails (is_valid (shown_at lens bytes i))
      (λ e. omega (arith, valid-length (shown_at lens bytes i) e, shown-length))

  pub valid-len : is_valid (shown_at lens bytes i) ≡ true
      → (min_length ≤ get_or lens i 0) × (get_or lens i 0 ≤ max_length)
  valid-len e =
      let f = check_facts (shown_at lens bytes i) (eqb-true _ 0 e) in
      (omega (arith, f.low, shown-length), omega (arith, f.high, shown-length))

-- ---- what the search tells, where a mark was seen

module _ {seen known r : Bool} (q : Repeated seen known r) where
  pub is_known : r ≡ true → known ≡ true
  is_known e = by_test seen (λ z. sym (q.old z) ∙ e) (λ z. absurd (false≢true (sym (q.new z) ∙ e)))

  pub not_known : r ≡ false → (seen ≡ false → known ≡ false) → known ≡ false
  not_known e unseen = by_test seen (λ z. sym (q.old z) ∙ e) unseen
