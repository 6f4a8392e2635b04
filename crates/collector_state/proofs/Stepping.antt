-- A reception that is admitted as the test of the state says is a step of the model: the times of an acceptable state never fall, so that its open
-- telegrams are those from the first open one on.
use Prim.Native.Nat.{ℕ, ◌-◌, ◌^◌, ◌<◌}
use native.Mathlib.Omega.{arith}
use mathlib.Core.Path.{◌≡◌, refl, sym, ap}
use mathlib.Core.Bool.{Bool, true, false, cond, not}
use mathlib.Core.List.{List, [], ◌∷◌}
use lib.Dec.{leb, ltb, eqb}
use lib.ListN.{length}
use borrow.Author.Tests.{le-leb, leb-true}
use Rattle.base_lists.specs.Lists.{keep, all, pairwise}
use Rattle.base_lists.proofs.Choice.{both}
use Rattle.base_lists.proofs.Keep.{keep-every}
use Rattle.base_lists.proofs.Tests.{by_test, all_both}
use Rattle.radio_erp1.specs.Subtelegram.{is_valid}
use Rattle.base_refusal.specs.declared.Refusal.TheVariants.{Full}
use Rattle.collector_model.specs.Answer.{Kept, Copy, Loose, is_accepted}
use Rattle.collector_model.specs.View.{Reception, Entry, View, opened_by, capacity, maturity, is_open, still_open}
use Rattle.collector_model.specs.Acceptable.{is_copy_of, may_follow, acceptable}
use Rattle.collector_model.specs.Step.{StepOutcome, max_count, is_known, is_crowded, classify, tally, entries_after, advance, step}
use Rattle.collector_model.proofs.Returns.{step_unacceptable}
use Rattle.collector_model.proofs.Invariant.{good_acceptable, good_of, good_advance, classified}
use Rattle.collector_state.specs.Collector.{Columns, columns_with, columns_after}
use Rattle.collector_state.specs.Admission.{has_copy, reception_check, answer_for, is_safe, number_on, latest_after, open_from, left_after, answer_on, entries_with, admitted, not_admitted, admission, columns_admitted, Tested, ToldRightly}
use Rattle.collector_state.proofs.Accepting.{accepted_few, accepted-order, accepted-summed}

-- ---- the open telegrams

later_open : (t : ℕ) (e later : Entry) → is_open t e ≡ true → may_follow e later ≡ true → is_open t later ≡ true
later_open t e later o f =
    le-leb (t - later.time) maturity
    (omega (
      arith,
      leb-true (t - e.time) maturity o,
      leb-true e.time later.time (both (leb e.time later.time) (not (is_copy_of e (opened_by later))) f).0,
    ))

open_kept : (t : ℕ) (l : List Entry) → pairwise may_follow l ≡ true → open_from t l ≡ keep (is_open t) l
open_kept t [] order = refl
open_kept t (e ∷ l) order =
    let w = both (all (may_follow e) l) (pairwise may_follow l) order in
    by_test (is_open t e)
    (λ o. rw o (ap (λ (m : List Entry). e ∷ m)
    (sym (keep-every (is_open t) l
    (all_both (may_follow e) (may_follow e) (is_open t) (λ x p _. later_open t e x o p) l w.0 w.0)))))
    (λ o. rw o (open_kept t l w.1))

-- ---- an acceptable view

module _ (v : View) (r : Reception) (ok : acceptable v ≡ true) where
  abbrev number : ℕ
  number = number_on v r

  -- 8 before all else
  full_step : leb max_count v.totals.received ≡ true → not_admitted Full v ≡ step v r
  unfolding step classify advance
  full_step e = rw (ok, e)

  classify_by : leb max_count v.totals.received ≡ false
      → classify v r ≡ answer_for number (is_known v r) (is_crowded v r)
  unfolding classify reception_check answer_for
  classify_by a =
      by_test (is_valid r.bytes)
      (λ b. by_test (ltb r.time v.latest) (λ c. rw (ok, a, b, c)) (λ c. rw (ok, a, b, c)))
      (λ b. rw (ok, a, b) (rw b))

  left-kept : (t : ℕ) → open_from t v.entries ≡ keep (is_open t) v.entries
  left-kept t = open_kept t v.entries (accepted-order v ok)

  answered : leb max_count v.totals.received ≡ false → answer_on v r ≡ classify v r
  unfolding answer_for has_copy
  answered a = by_test (eqb number 0) (λ e. rw (classify_by a, e, left-kept r.time)) (λ e. rw (classify_by a, e))

  advanced : (known crowded : Bool)
      → (let a = answer_for number known crowded in
      record { latest = latest_after v r; totals = tally a v.totals; entries = entries_with a r (left_after v r) }
      ≡ advance v r a)
  unfolding advance answer_for
  advanced known crowded =
      by_test (eqb number 0) (λ e. rw (e, left-kept r.time) (accepted known crowded)) (λ e. rw e)
    where
      accepted : (known crowded : Bool)
          → (let a = cond known Copy (cond crowded Loose Kept) in
          ◌≡◌ {A = View}
          (record {
            latest = r.time;
            totals = tally a v.totals;
            entries = entries_with a r (still_open r.time v);
          })
          (record {
            latest = cond (is_accepted a) r.time v.latest;
            totals = tally a v.totals;
            entries = entries_after v r a;
          }))
      accepted true crowded = refl
      accepted false true = refl
      accepted false false = refl

  stepped : leb max_count v.totals.received ≡ false → admitted v r ≡ step v r
  unfolding admitted step
  stepped a = rw (advanced (has_copy (left_after v r) r) (leb capacity (length (left_after v r))), answered a)

  -- a refused reception leaves every entry where it stands, and another the open ones
  columns-stepped : (a : Columns)
      → cond (is_accepted (answer_on v r)) (columns_with (answer_on v r) r (length v.entries) (left_after v r) a) a
      ≡ cond (is_accepted (answer_on v r))
      (columns_with (answer_on v r) r (length v.entries) (still_open r.time v) a) a
  unfolding answer_for
  columns-stepped a = by_test (eqb number 0) (λ e. rw (e, left-kept r.time)) (λ e. rw e)

  safe : is_safe v ≡ true
  safe = rw (le-leb _ _ (accepted_few v ok), accepted-summed v ok)

-- ---- the laws

module _ (v : View) (r : Reception) where
  pub admission-step : admission (acceptable v) v r ≡ step v r
  unfolding admission
  admission-step =
      by_test (acceptable v)
      (λ ok. by_test (leb max_count v.totals.received) (λ e. rw (ok, safe v r ok, e) (full_step v r ok e))
      (λ e. rw (ok, safe v r ok, e) (stepped v r ok e)))
      (λ bad. rw bad (step_unacceptable v bad r))

  pub admission-fit : (fit : Bool) → fit ≡ acceptable v → admission fit v r ≡ step v r
  admission-fit fit e = rw e admission-step

  -- every element of the columns too
  pub columns-fit : (fit : Bool) (a : Columns) → fit ≡ acceptable v → columns_admitted fit v r a ≡ columns_after v r a
  unfolding columns_admitted columns_after admitted
  columns-fit fit a e =
      rw (admission-fit fit e)
      (by_test (acceptable v)
      (λ ok. by_test (leb max_count v.totals.received) (λ f. rw (← (full_step v r ok f)))
      (λ f. rw (← (stepped v r ok f)) (columns-stepped v r ok a)))
      (λ bad. rw (← (step_unacceptable v bad r))))

-- ---- a run of receptions, of which the first state alone is tested

pub tested_next : (fit : Bool) {v : View} (r : Reception)
    → Tested fit v → r.time < 2 ^ 64 → Tested fit (step v r).next
unfolding step advance
tested_next true {v} r k small =
    let g = good_advance v r (good_of v (sym k.said) k.fits) small (classified v r) in
    record {
      said = sym (good_acceptable g);
      fits = record { latest = g.entries.fits; received = g.totals.fits; copies = g.entries.copies };
    }
tested_next false {v} r k small =
    let stays : (step v r).next ≡ v = sym (ap (λ (o : StepOutcome). o.next) (step_unacceptable v (sym k.said) r)) in
    rw stays k

pub told_rightly : ToldRightly
told_rightly =
    record {
      is_step = λ fit v r e. admission-fit v r fit e;
      elements = λ fit v r a e. columns-fit v r fit a e;
      goes_on = λ fit v r k small. tested_next fit r k small;
    }
