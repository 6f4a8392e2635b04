-- The test of a state by its parts: the times, telegrams each new after those before it, and totals that are summed.
use Prim.Native.Nat.{ℕ, ◌+◌, ◌-◌, ◌≤◌, ◌<◌}
use native.Mathlib.Omega.{arith}
use mathlib.Core.Path.{◌≡◌, refl, sym, ◌∙◌, ap}
use mathlib.Core.Bool.{and-false, Bool, true, false, not, ◌&&◌, false≢true}
use mathlib.Core.List.{List, ◌∷◌, ◌++◌}
use lib.Dec.{leb, eqb}
use lib.ListN.{length}
use borrow.Author.Tests.{le-leb, lt-leb, leb-true, eqb-true, eq-eqb, ne_eqb, not-true}
use Rattle.base_lists.specs.Lists.{any, all, pairwise}
use Rattle.base_lists.proofs.Choice.{both}
use Rattle.base_lists.proofs.Pairwise.{all_and, pairwise_and}
use Rattle.base_lists.proofs.Tests.{and-true, all_last, none, pairwise_last}
use Rattle.radio_erp1.specs.Subtelegram.{is_valid}
use Rattle.collector_model.specs.declared.Totals.{Totals}
use Rattle.collector_model.specs.View.{Entry, View, opened_by, capacity, is_open}
use Rattle.collector_model.specs.Acceptable.{is_copy_of, is_entry, may_follow, is_summed, acceptable}
use Rattle.collector_state.specs.Collector.{Columns, entry_at, entries_at}
use Rattle.collector_state.specs.Admission.{has_copy}
use Rattle.collector_state.specs.Private.{are_timely, are_telegrams, is_repeated_at, shown_at}
use Rattle.collector_state.proofs.Inside.{same_test, fails, all_inside, pairwise-inside, none_any}
use Rattle.collector_state.proofs.Times.{is_ordered}
use Rattle.collector_state.proofs.Arrays.{entries_none, entries-more, entries-inside}

-- ---- the telegrams

-- entry i is valid, and no entry before it is the same telegram
unfoldable pub is_new_at : Columns → ℕ → Bool
is_new_at a i = is_valid (shown_at a.lens a.bytes i) && not (is_repeated_at a i)

pub telegrams_none : (a : Columns) → are_telegrams (entries_at a 0) ≡ true
unfolding are_telegrams
telegrams_none a = rw (entries_none a)

module _ (a : Columns) (i : ℕ) where
  abbrev before : List Entry
  before = entries_at a i

  abbrev entry : Entry
  entry = entry_at a i

  pub telegrams-more : are_telegrams (entries_at a i) ≡ true
      → is_new_at a i ≡ true → are_telegrams (entries_at a (i + 1)) ≡ true
  unfolding are_telegrams is_new_at has_copy
  telegrams-more h n =
      let w =
      both (all (λ e. is_valid e.bytes) before)
      (pairwise (λ e later. not (is_copy_of e (opened_by later))) before) h in
      let v = both (is_valid entry.bytes) (not (any (λ e. is_copy_of e (opened_by entry)) before)) n in
      rw (entries-more a i)
      (and-true (all_last (λ e. is_valid e.bytes) before entry w.0 v.0)
      (pairwise_last (λ e later. not (is_copy_of e (opened_by later))) before entry w.1
      (none (λ e. is_copy_of e (opened_by entry)) before (not-true _ v.1))))

  pub telegrams-not : (count : ℕ) → i < count → is_new_at a i ≡ false → are_telegrams (entries_at a count) ≡ false
  unfolding are_telegrams is_new_at has_copy
  telegrams-not count k n = fails _ (λ h. false≢true (sym n ∙ new (entries-inside a i count k) h))
    where
      new : (rest : List Entry) × (entries_at a count ≡ before ++ (entry ∷ rest))
          → are_telegrams (entries_at a count) ≡ true → is_new_at a i ≡ true
      new s h =
          let g = rw s.1 at h in
          let l = before ++ (entry ∷ s.0) in
          let w =
          both (all (λ e. is_valid e.bytes) l) (pairwise (λ e later. not (is_copy_of e (opened_by later))) l) g in
          and-true (all_inside (λ e. is_valid e.bytes) before entry s.0 w.0)
          (ap not (none_any (λ e. is_copy_of e (opened_by entry)) before
          (pairwise-inside (λ e later. not (is_copy_of e (opened_by later))) before entry s.0 w.1)))

  -- by its parts
  pub new-not-valid : is_valid (shown_at a.lens a.bytes i) ≡ false → is_new_at a i ≡ false
  unfolding is_new_at
  new-not-valid e = rw e

  pub new-repeated : is_repeated_at a i ≡ true → is_new_at a i ≡ false
  unfolding is_new_at
  new-repeated e = rw e (and-false (is_valid (shown_at a.lens a.bytes i)))

  pub new_both : is_valid (shown_at a.lens a.bytes i) ≡ true → is_repeated_at a i ≡ false → is_new_at a i ≡ true
  unfolding is_new_at
  new_both e f = rw (e, f)

-- ---- all of it

arranged : (v t o d x : Bool) → ((v && t) && ((o && d) && x)) ≡ ((t && o) && ((v && d) && x))
arranged true true true d x = refl
arranged true true false d x = refl
arranged true false o d x = refl
arranged false true true d x = refl
arranged false true false d x = refl
arranged false false o d x = refl

acceptable_by : (v : View) → acceptable v
    ≡ (leb (length v.entries) capacity
    && (are_timely v.latest v.entries
    && (are_telegrams v.entries
    && (is_summed v.totals
    && leb (length v.entries) v.totals.kept))))
unfolding acceptable are_timely are_telegrams
acceptable_by v =
    ap (λ (b : Bool). leb (length v.entries) capacity && b)
    (rw (
      all_and (λ e. is_valid e.bytes) (λ e. leb e.time v.latest && is_open v.latest e) v.entries,
      pairwise_and is_ordered (λ e later. not (is_copy_of e (opened_by later))) v.entries,
    )
    (arranged (all (λ e. is_valid e.bytes) v.entries)
    (all (λ e. leb e.time v.latest && is_open v.latest e) v.entries)
    (pairwise is_ordered v.entries) (pairwise (λ e later. not (is_copy_of e (opened_by later))) v.entries) _))

-- each return of the test, in its order
module _ (v : View) (count : ℕ) (long : length v.entries ≡ count) where
  pub too_many : capacity < count → false ≡ acceptable v
  too_many h = sym (acceptable_by v ∙ rw (long, lt-leb _ _ h))

  module _ (b : count ≤ capacity) where
    tested : acceptable v
        ≡ (are_timely v.latest v.entries
        && (are_telegrams v.entries && (is_summed v.totals && leb count v.totals.kept)))
    tested = acceptable_by v ∙ rw (long, le-leb _ _ b)

    pub not-timely : are_timely v.latest v.entries ≡ false → false ≡ acceptable v
    not-timely h = sym (tested ∙ rw h)

    module _ (timely : are_timely v.latest v.entries ≡ true) where
      pub not-telegrams : are_telegrams v.entries ≡ false → false ≡ acceptable v
      not-telegrams h = sym (tested ∙ rw (timely, h))

      module _ (telegrams : are_telegrams v.entries ≡ true) where
        pub not-summed : is_summed v.totals ≡ false → false ≡ acceptable v
        not-summed h = sym (tested ∙ rw (timely, telegrams, h))

        pub all_passed : is_summed v.totals ≡ true → leb count v.totals.kept ≡ acceptable v
        all_passed h = sym (tested ∙ rw (timely, telegrams, h))

-- ---- what is known of an acceptable state

module _ (v : View) (ok : acceptable v ≡ true) where
  pub accepted_few : length v.entries ≤ capacity
  unfolding acceptable
  accepted_few = leb-true _ _ (both (leb (length v.entries) capacity) _ ok).0

  listed : all (is_entry v.latest) v.entries
      && (pairwise may_follow v.entries && (is_summed v.totals && leb (length v.entries) v.totals.kept))
      ≡ true
  unfolding acceptable
  listed = (both (leb (length v.entries) capacity) _ ok).1

  pub accepted-each : all (is_entry v.latest) v.entries ≡ true
  accepted-each = (both (all (is_entry v.latest) v.entries) _ listed).0

  pub accepted-order : pairwise may_follow v.entries ≡ true
  accepted-order =
      (both (pairwise may_follow v.entries) _ (both (all (is_entry v.latest) v.entries) _ listed).1).0

  pub accepted-summed : is_summed v.totals ≡ true
  accepted-summed =
      (both (is_summed v.totals) _
      (both (pairwise may_follow v.entries) _ (both (all (is_entry v.latest) v.entries) _ listed).1).1).0
