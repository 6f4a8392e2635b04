-- Of telegrams in order of time the latest decides, and is credited: where an earlier one is no more than 40 ms back, so is it. The reference
-- model's are in order, since one that it answers Kept is not behind.
use Prim.Native.Nat.{ℕ, ◌+◌, ◌-◌, ◌≤◌, max}
use native.Mathlib.Omega.{arith}
use mathlib.Core.Path.{◌≡◌, refl, sym, ◌∙◌, ap}
use mathlib.Core.Bool.{Bool, true, false, not, ◌&&◌, ◌||◌, false≢true, or-false}
use mathlib.Core.List.{List, [], ◌∷◌, nil≢cons}
use lib.Dec.{leb, eqb}
use borrow.Author.Tests.{le-leb, leb-true, ltb-false}
use Rattle.base_lists.specs.Lists.{keep, any, all, pairwise}
use Rattle.base_lists.proofs.Choice.{both, neither}
use Rattle.base_lists.proofs.Pairwise.{pairwise-keep}
use Rattle.base_lists.proofs.Tests.{branch, by_test, all_both, all_last, pairwise_last, any_and}
use Rattle.radio_erp1.specs.Subtelegram.{is_valid}
use Rattle.radio_erp1.specs.Same.{is_same}
use Rattle.radio_telegram.specs.Repeater.{level_of}
use Rattle.collector_model.specs.Answer.{Shown, Kept, Copy, Loose, Refused, is_kept, is_received}
use Rattle.collector_model.specs.View.{Reception, Entry, opened, tx_maturity, is_open}
use Rattle.collector_model.specs.Acceptable.{is_echo, is_copy_of}
use Rattle.collector_model.specs.Step.{max_count}
use Rattle.collector_model.specs.Reference.{Logged, answers, is_open_copy, kept_of, open_at, is_behind, latest_of, answer_to, log_of}
use Rattle.collector_model.specs.Several.{in_time}
use Rattle.collector_model.specs.Latest.{last_of, latest_same, LatestDecides, CreditsLatest, LatestCredited}
use Rattle.collector_model.proofs.Copies.{all_credit, pairwise-credit}
use Rattle.collector_model.proofs.Simulation.{behind_latest}

-- ---- a list in order

-- a test that a later one passes with an earlier one is settled by the last
any_last : (q : Entry → Bool) → ((e later : Entry) → in_time e later ≡ true → q e ≡ true → q later ≡ true)
    → (l : List Entry) → pairwise in_time l ≡ true → any q l ≡ any q (last_of l)
any_last q up [] s = refl
any_last q up (x ∷ []) s = refl
any_last q up (x ∷ y ∷ l) s =
    let w = both (all (in_time x) (y ∷ l)) (pairwise in_time (y ∷ l)) s in
    go (q x) (q y) (up x y (both (in_time x y) (all (in_time x) l) w.0).0) (any_last q up (y ∷ l) w.1)
  where
    go : (b c : Bool) → (b ≡ true → c ≡ true) → (c || any q l) ≡ any q (last_of (y ∷ l))
        → (b || (c || any q l)) ≡ any q (last_of (y ∷ l))
    go true true k ih = ih
    go true false k ih = absurd (false≢true (k refl))
    go false c k ih = ih

later_echo : (r : Reception) (e later : Entry) → in_time e later ≡ true → is_echo e r ≡ true → is_echo later r ≡ true
later_echo r e later h = go (not (eqb (level_of r.bytes) 0))
  where
    go : (b : Bool) → (b || leb (r.time - e.time) tx_maturity) ≡ true
        → (b || leb (r.time - later.time) tx_maturity) ≡ true
    go true k = refl
    go false k =
        le-leb (r.time - later.time) tx_maturity
        (omega (arith, leb-true (r.time - e.time) tx_maturity k, leb-true e.time later.time h))

pub by_the_latest : (r : Reception) (l : List Entry) → pairwise in_time l ≡ true
    → any (λ e. is_copy_of e r) l ≡ any (λ e. is_echo e r) (latest_same l r)
unfolding is_copy_of
by_the_latest r l s =
    any_and (λ e. is_same e.bytes r.bytes) (λ e. is_echo e r) l
    ∙ any_last (λ e. is_echo e r) (later_echo r) (keep (λ e. is_same e.bytes r.bytes) l)
    (pairwise-keep in_time (λ e. is_same e.bytes r.bytes) l s)

-- ---- which is credited

copy-says : (e : Entry) (r : Reception) → is_copy_of e r ≡ true
    → (is_same e.bytes r.bytes ≡ true) × (is_echo e r ≡ true)
unfolding is_copy_of
copy-says e r h = both (is_same e.bytes r.bytes) (is_echo e r) h

-- after one of which r is an echo, it is a copy of every same telegram
later-copies : (r : Reception) (x : Entry) → is_echo x r ≡ true → (l : List Entry) → all (in_time x) l ≡ true
    → any (λ e. is_same e.bytes r.bytes) l ≡ any (λ e. is_copy_of e r) l
unfolding is_copy_of
later-copies r x h [] s = refl
later-copies r x h (y ∷ l) s =
    let w = both (in_time x y) (all (in_time x) l) s in
    go (is_same y.bytes r.bytes) (is_echo y r) (later_echo r x y w.0 h) (later-copies r x h l w.1)
  where
    go : (b c : Bool) {m n : Bool} → c ≡ true → m ≡ n → (b || m) ≡ ((b && c) || n)
    go true true e ih = refl
    go true false e ih = absurd (false≢true e)
    go false c e ih = ih

last_more : (x : Entry) (l : List Entry) {z : Entry} → last_of l ≡ z ∷ [] → last_of (x ∷ l) ≡ z ∷ []
last_more x [] e = absurd (nil≢cons e)
last_more x (y ∷ l) e = e

none_kept : (p : Entry → Bool) (l : List Entry) → any p l ≡ false → keep p l ≡ []
none_kept p [] e = refl
none_kept p (x ∷ l) e = let w = neither (p x) (any p l) e in rw w.0 (none_kept p l w.1)

credits_latest : (more : ℕ → ℕ) (r : Reception) (l : List Entry)
    → pairwise in_time l ≡ true → any (λ e. is_copy_of e r) l ≡ true
    → CreditsLatest more r l
credits_latest more r [] s e = absurd (false≢true e)
credits_latest more r (x ∷ l) s e =
    let same : Entry → Bool = λ y. is_same y.bytes r.bytes in
    let w = both (all (in_time x) l) (pairwise in_time l) s in
    by_test (any (λ y. is_copy_of y r) l)
    (λ t.
    let c = credits_latest more r l w.1 t in
    record {
      before = x ∷ c.before;
      latest = c.latest;
      after = c.after;
      place = ap (λ m. x ∷ m) c.place;
      named =
          branch (λ m. last_of m ≡ c.latest ∷ []) (same x) (λ _. last_more x (keep same l) c.named) (λ _. c.named);
      last = c.last;
      credited = rw t (ap (λ m. x ∷ m) c.credited);
    })
    (λ f.
    let is : is_copy_of x r ≡ true = sym (or-false (is_copy_of x r)) ∙ ap (λ b. is_copy_of x r || b) (sym f) ∙ e in
    let y = copy-says x r is in
    let none : any same l ≡ false = later-copies r x y.1 l w.0 ∙ f in
    record {
      before = [];
      latest = x;
      after = l;
      place = refl;
      named = rw (y.0, none_kept same l none);
      last = none;
      credited = rw (f, is);
    })

-- ---- the reference model's list

-- one that is Kept is not before the latest
kept-latest : (log : List Logged) (r : Reception) → is_kept (answer_to log r) ≡ true → latest_of log ≤ r.time
unfolding answer_to
kept-latest log r =
    branch (λ a. is_kept a ≡ true → latest_of log ≤ r.time)
    (leb max_count (answers is_received log)) (λ _ e. absurd (false≢true e))
    λ _. branch (λ a. is_kept a ≡ true → latest_of log ≤ r.time)
    (not (is_valid r.bytes)) (λ _ e. absurd (false≢true e))
    λ _. branch (λ a. is_kept a ≡ true → latest_of log ≤ r.time) (is_behind r.time log) (λ _ e. absurd (false≢true e))
    λ b e. ltb-false r.time (latest_of log) (sym (behind_latest r.time log) ∙ b)

pub record Ordered (log : List Logged) : Type 0 where
  pub order : pairwise in_time (kept_of log) ≡ true
  pub low : all (λ e. leb e.time (latest_of log)) (kept_of log) ≡ true

wider : {m n : ℕ} (l : List Entry) → m ≤ n → all (λ e. leb e.time m) l ≡ true → all (λ e. leb e.time n) l ≡ true
wider {m} {n} l h a =
    all_both (λ e. leb e.time m) (λ e. leb e.time m) (λ e. leb e.time n)
    (λ e p _. le-leb e.time n (omega (arith, leb-true e.time m p))) l a a

up : (log : List Logged) (r : Reception) → latest_of log ≤ max r.time (latest_of log)
up log r = omega arith

ordered-more : (log : List Logged) (r : Reception) (a : Shown) → (is_kept a ≡ true → latest_of log ≤ r.time)
    → Ordered log → Ordered (record { reception = r; answer = a } ∷ log)
ordered-more log r Kept h o =
    let m = h refl in
    record {
      order = pairwise_last in_time (kept_of log) (opened r) o.order (wider (kept_of log) m o.low);
      low =
          all_last (λ e. leb e.time (max r.time (latest_of log)))
          (kept_of log) (opened r) (wider (kept_of log) (up log r) o.low)
          (le-leb r.time (max r.time (latest_of log)) (omega arith));
    }
ordered-more log r Copy h o =
    let below : Entry → Bool = λ e. leb e.time (max r.time (latest_of log)) in
    record {
      order = pairwise-credit (λ n. n + 1) (is_open_copy r) in_time (λ x y k. k) (λ x y k. k) (kept_of log) o.order;
      low =
          all_credit (λ n. n + 1) (is_open_copy r) below (λ e k. k)
          (kept_of log) (wider (kept_of log) (up log r) o.low);
    }
ordered-more log r Loose h o = record { order = o.order; low = wider (kept_of log) (up log r) o.low }
ordered-more log r (Refused n) h o = record { order = o.order; low = o.low }

pub ordered : (past : List Reception) → Ordered (log_of past)
ordered [] = record { order = refl; low = refl }
ordered (r ∷ past) = ordered-more (log_of past) r (answer_to (log_of past) r) (kept-latest (log_of past) r)
    (ordered past)

open_ordered : (past : List Reception) (t : ℕ) → pairwise in_time (open_at t (log_of past)) ≡ true
open_ordered past t = pairwise-keep in_time (is_open t) (kept_of (log_of past)) (ordered past).order

pub latest_decides : LatestDecides
latest_decides past r = by_the_latest r (open_at r.time (log_of past)) (open_ordered past r.time)

pub latest-credited : LatestCredited
latest-credited more past r e = credits_latest more r (open_at r.time (log_of past)) (open_ordered past r.time) e
