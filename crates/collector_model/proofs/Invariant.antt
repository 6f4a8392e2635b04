-- Every view that a collector started fresh comes to is acceptable, with numbers of 64 bits: a step keeps it so.
use Prim.Native.Nat.{ℕ, ◌+◌, ◌-◌, ◌^◌, ◌≤◌, ◌<◌}
use native.Mathlib.Omega.{arith}
use mathlib.Core.Path.{◌≡◌, refl}
use mathlib.Core.Bool.{Bool, true, false, not, ◌&&◌, false≢true}
use mathlib.Core.List.{List, [], ◌∷◌, ◌++◌}
use lib.ListN.{length, length-append}
use lib.Dec.{leb, ltb}
use borrow.Author.Tests.{le-leb, leb-true, leb-false, ltb-false, eq-eqb, eqb-true, not-true, not-false}
use Rattle.base_lists.specs.Lists.{keep, any, all, pairwise}
use Rattle.base_lists.proofs.Choice.{both}
use Rattle.base_lists.proofs.Pairwise.{pairwise-keep}
use Rattle.base_lists.proofs.Tests.{and-true, branch, length-keep, all_keep, all_last, all_both, none, pairwise_last}
use Rattle.base_refusal.specs.Number.{number_of}
use Rattle.base_refusal.specs.declared.Refusal.TheVariants as refusal
use Rattle.radio_erp1.specs.Subtelegram.{is_valid}
use Rattle.collector_model.specs.declared.Totals.{Totals}
use Rattle.collector_model.specs.Answer.{Shown, Kept, Copy, Loose, Refused, is_accepted}
use Rattle.collector_model.specs.View.{Reception, Entry, View, opened, recount, maturity, capacity, ceiling, capped, is_open, still_open, fresh}
use Rattle.collector_model.specs.Acceptable.{is_copy_of, is_entry, may_follow, is_summed, acceptable}
use Rattle.collector_model.specs.Exact.{Fits}
use Rattle.collector_model.specs.Step.{max_count, is_known, is_crowded, classify, credit, advance}
use Rattle.collector_model.proofs.Check.{Failed, length_wrong, sum_wrong, crc_wrong, nested, check_failed}
use Rattle.collector_model.proofs.Copies.{length-credit, all_credit, pairwise-credit}

-- totals over that many entries
pub record GoodTotals (n : Totals) (used : ℕ) : Type 0 where
  pub sum : n.received ≡ n.kept + n.copies + n.loose + n.damaged + n.late
  pub enough : used ≤ n.kept
  pub fits : n.received < 2 ^ 64

-- entries at that latest time
pub record GoodEntries (latest : ℕ) (l : List Entry) : Type 0 where
  pub each : all (is_entry latest) l ≡ true
  pub order : pairwise may_follow l ≡ true
  pub few : length l ≤ capacity
  pub copies : all (λ e. leb e.copies ceiling) l ≡ true
  pub fits : latest < 2 ^ 64

pub record Good (v : View) : Type 0 where
  pub entries : GoodEntries v.latest v.entries
  pub totals : GoodTotals v.totals (length v.entries)

pub good_acceptable : {v : View} → Good v → acceptable v ≡ true
unfolding acceptable
good_acceptable g =
    and-true (le-leb _ _ g.entries.few)
    (and-true g.entries.each
    (and-true g.entries.order
    (and-true (eq-eqb _ _ g.totals.sum)
    (le-leb _ _ g.totals.enough))))

pub good_of : (v : View) → acceptable v ≡ true → Fits v → Good v
unfolding acceptable
good_of v e f =
    let b = both (leb (length v.entries) capacity) _ e in
    let c = both (all (is_entry v.latest) v.entries) _ b.1 in
    let d = both (pairwise may_follow v.entries) _ c.1 in
    let k = both (is_summed v.totals) _ d.1 in
    record {
      entries = record { each = c.0; order = d.0; few = leb-true _ _ b.0; copies = f.copies; fits = f.latest };
      totals = record { sum = eqb-true _ _ k.0; enough = leb-true _ _ k.1; fits = f.received };
    }

pub good_fresh : Good fresh
unfolding fresh
good_fresh = record {
  entries = record { each = refl; order = refl; few = omega arith; copies = refl; fits = omega arith };
  totals = omega arith;
}

-- ---- entries

entry : (latest : ℕ) (e : Entry) → is_valid e.bytes ≡ true
    → e.time ≤ latest → is_open latest e ≡ true → is_entry latest e ≡ true
entry latest e p q o = and-true p (and-true (le-leb e.time latest q) o)

-- what is known of one
pub entry-valid : (latest : ℕ) (e : Entry) → is_entry latest e ≡ true → is_valid e.bytes ≡ true
entry-valid latest e p = (both (is_valid e.bytes) (leb e.time latest && is_open latest e) p).0

pub entry_before : (latest : ℕ) (e : Entry) → is_entry latest e ≡ true → e.time ≤ latest
entry_before latest e p =
    leb-true e.time latest
    (both (leb e.time latest) (is_open latest e)
    (both (is_valid e.bytes) (leb e.time latest && is_open latest e) p).1).0

-- at a later time t the entries no longer open are gone
module _ {latest t : ℕ} {l : List Entry} (g : GoodEntries latest l) (h : latest ≤ t) (fits : t < 2 ^ 64) where
  still-entry : (e : Entry) → is_entry latest e ≡ true → is_open t e ≡ true → is_entry t e ≡ true
  still-entry e p o = entry t e (entry-valid latest e p) (omega (arith, entry_before latest e p)) o

  good_still : GoodEntries t (keep (is_open t) l)
  good_still = record {
    each = all_keep (is_entry latest) (is_open t) (is_entry t) still-entry l g.each;
    order = pairwise-keep may_follow (is_open t) l g.order;
    few = omega (arith, length-keep (is_open t) l);
    copies =
        all_keep (λ e. leb e.copies ceiling) (is_open t) (λ e. leb e.copies ceiling) (λ e p _. p) l g.copies;
    fits = fits;
  }

-- at the end there is room for another telegram
module _ {l : List Entry} (r : Reception) (g : GoodEntries r.time l) where
  follow : (e : Entry) → is_entry r.time e ≡ true → not (is_copy_of e r) ≡ true → may_follow e (opened r) ≡ true
  follow e p q = and-true (le-leb e.time r.time (entry_before r.time e p)) q

  good_add : is_valid r.bytes ≡ true → any (λ e. is_copy_of e r) l ≡ false
      → length l < capacity → GoodEntries r.time (l ++ (opened r ∷ []))
  good_add valid new room = record {
    each =
        all_last (is_entry r.time) l (opened r) g.each
        (entry r.time (opened r) valid (omega arith) (le-leb (r.time - r.time) maturity (omega arith)));
    order =
        pairwise_last may_follow l (opened r) g.order
        (all_both (is_entry r.time) (λ e. not (is_copy_of e r))
        (λ e. may_follow e (opened r)) follow l g.each (none (λ e. is_copy_of e r) l new));
    few = omega (arith, length-append l (opened r ∷ []));
    copies = all_last (λ e. leb e.copies ceiling) l (opened r) g.copies refl;
    fits = g.fits;
  }

-- one more copy for one of them
abbrev more : ℕ → ℕ
more n = capped (n + 1)

follows_left : (f : ℕ → ℕ) (e later : Entry) → may_follow e later ≡ true → may_follow (recount f e) later ≡ true
unfolding is_copy_of
follows_left f e later h = h

follows_right : (f : ℕ → ℕ) (e later : Entry) → may_follow e later ≡ true → may_follow e (recount f later) ≡ true
follows_right f e later h = h

module _ {latest : ℕ} {l : List Entry} (q : Entry → Bool) (g : GoodEntries latest l) where
  good_credit : GoodEntries latest (credit more q l)
  good_credit = record {
    each = all_credit more q (is_entry latest) (λ e h. h) l g.each;
    order = pairwise-credit more q may_follow (follows_left more) (follows_right more) l g.order;
    few = omega (arith, length-credit more q l);
    copies =
        all_credit more q (λ e. leb e.copies ceiling)
        (λ e _. le-leb (more e.copies) ceiling (omega arith)) l g.copies;
    fits = g.fits;
  }

-- ---- a step

module _ (v : View) (r : Reception) where
  -- what an answer tells of the view and the reception
  pub data Classified : Shown → Type 0 where
    unacceptable : Classified (Refused (number_of refusal.NotAccepted))
    full : Classified (Refused (number_of refusal.Full))
    damaged : {n : ℕ} → Failed n → v.totals.received < max_count → Classified (Refused n)
    late : v.totals.received < max_count → Classified (Refused (number_of refusal.Late))
    copy : v.totals.received < max_count → v.latest ≤ r.time → Classified Copy
    loose : v.totals.received < max_count → v.latest ≤ r.time → Classified Loose
    kept : v.totals.received < max_count → v.latest ≤ r.time → is_valid r.bytes ≡ true
        → is_known v r ≡ false → is_crowded v r ≡ false → Classified Kept

  pub classified : Classified (classify v r)
  unfolding classify
  classified =
      branch Classified (not (acceptable v)) (λ _. unacceptable)
      λ _. branch Classified (leb max_count v.totals.received) (λ _. full)
      λ m. branch Classified (not (is_valid r.bytes))
      (λ w. damaged (check_failed r.bytes (not-true _ w)) (leb-false _ _ m))
      λ w. branch Classified (ltb r.time v.latest) (λ _. late (leb-false _ _ m))
      λ t. branch Classified (is_known v r) (λ _. copy (leb-false _ _ m) (ltb-false _ _ t))
      λ c. branch Classified (is_crowded v r) (λ _. loose (leb-false _ _ m) (ltb-false _ _ t))
      λ l. kept (leb-false _ _ m) (ltb-false _ _ t) (not-false _ w) c l

  -- an accepted reception is not earlier than one before it
  pub accepted-time : {a : Shown} → Classified a → is_accepted a ≡ true → v.latest ≤ r.time
  accepted-time unacceptable e = absurd (false≢true e)
  accepted-time full e = absurd (false≢true e)
  accepted-time (damaged f m) e = absurd (false≢true e)
  accepted-time (late m) e = absurd (false≢true e)
  accepted-time (copy m t) e = t
  accepted-time (loose m t) e = t
  accepted-time (kept m t w c l) e = t

  module _ (g : Good v) (small : r.time < 2 ^ 64) where
    pub good_advance : {a : Shown} → Classified a → Good (advance v r a)
    unfolding advance
    good_advance unacceptable = g
    good_advance full = g
    good_advance (damaged length_wrong m) = record { entries = g.entries; totals = omega arith }
    good_advance (damaged sum_wrong m) = record { entries = g.entries; totals = omega arith }
    good_advance (damaged crc_wrong m) = record { entries = g.entries; totals = omega arith }
    good_advance (damaged nested m) = record { entries = g.entries; totals = omega arith }
    good_advance (late m) = record { entries = g.entries; totals = omega arith }
    good_advance (copy m t) = record {
      entries = good_credit (λ e. is_copy_of e r) (good_still g.entries t small);
      totals =
          omega (
            arith,
            length-credit more (λ e. is_copy_of e r) (still_open r.time v),
            length-keep (is_open r.time) v.entries,
          );
    }
    good_advance (loose m t) = record {
      entries = good_still g.entries t small;
      totals = omega (arith, length-keep (is_open r.time) v.entries);
    }
    good_advance (kept m t w c l) = record {
      entries =
          good_add r (good_still g.entries t small) w c (leb-false capacity (length (still_open r.time v)) l);
      totals =
          omega (
            arith,
            length-keep (is_open r.time) v.entries,
            length-append (still_open r.time v) (opened r ∷ []),
          );
    }
