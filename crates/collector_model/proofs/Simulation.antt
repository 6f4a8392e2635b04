-- A step from the reference model's view gives its answer, and its view after one more reception.
use Prim.Native.Nat.{ℕ, ◌+◌, ◌-◌, ◌^◌, ◌≤◌, ◌<◌, max}
use native.Mathlib.Omega.{arith}
use native.Mathlib.Nat.{max-eq_left}
use mathlib.Core.Path.{◌≡◌, refl, sym, ◌∙◌, ap}
use mathlib.Core.Bool.{Bool, true, false, cond, ◌&&◌, ◌||◌}
use mathlib.Core.List.{List, [], ◌∷◌, map, map-append}
use lib.Dec.{leb, ltb}
use lib.ListN.{length, get_or, length-map}
use borrow.Author.Tests.{le-leb, leb-true, leb-false, ltb-true, ltb-false, lt-ltb, le-ltb}
use Rattle.base_lists.specs.Lists.{keep, any}
use Rattle.base_lists.proofs.Choice.{both}
use Rattle.base_lists.proofs.Members.{all_of}
use Rattle.base_lists.proofs.Keep.{keep-map}
use Rattle.base_lists.proofs.Tests.{by_test, keep-keep, keep_last, any_map, get_d_map}
use Rattle.collector_model.specs.Answer.{Shown, Kept, Copy, Loose, Refused, is_accepted}
use Rattle.collector_model.specs.View.{Reception, Entry, View, opened, recount, capped, maturity, is_open}
use Rattle.collector_model.specs.Acceptable.{is_copy_of, acceptable}
use Rattle.collector_model.specs.Step.{classify, credit, advance, sent_for, step}
use Rattle.collector_model.specs.Heard.{copies_in, copies_of}
use Rattle.collector_model.specs.Reference.{Logged, totals_of, latest_of, is_open_copy, kept_of, open_at, is_behind, model_view, heard_by, answer_to, sent_with}
use Rattle.collector_model.proofs.Copies.{keep-credit, credit_and, credit_cap}
use Rattle.collector_model.proofs.Invariant.{Good, good_acceptable, good_advance, accepted-time, classified}

-- a later time leaves open only what was open before
pub open_before : {t u : ℕ} → t ≤ u → (e : Entry) → is_open u e ≡ true → is_open t e ≡ true
open_before {t} {u} h e o = le-leb (t - e.time) maturity (omega (arith, leb-true (u - e.time) maturity o))

open_now : (e : Entry) → is_open e.time e ≡ true
open_now e = le-leb (e.time - e.time) maturity (omega arith)

still_open : {t u : ℕ} → t ≤ u → (log : List Logged) → keep (is_open u) (open_at t log) ≡ open_at u log
still_open {t} {u} h log = keep-keep (is_open u) (is_open t) (open_before h) (kept_of log)

-- one before it has a time above t: the latest has
ltb-max : (t a b : ℕ) → (ltb t a || ltb t b) ≡ ltb t (max a b)
ltb-max t a b = go (ltb t a) refl (ltb t b) refl
  where
    go : (x : Bool) → ltb t a ≡ x → (y : Bool) → ltb t b ≡ y → (x || y) ≡ ltb t (max a b)
    go true p y q = sym (lt-ltb t (max a b) (omega (arith, ltb-true t a p)))
    go false p true q = sym (lt-ltb t (max a b) (omega (arith, ltb-true t b q)))
    go false p false q = sym (le-ltb t (max a b) (omega (arith, ltb-false t a p, ltb-false t b q)))

pub behind_latest : (t : ℕ) (log : List Logged) → is_behind t log ≡ ltb t (latest_of log)
behind_latest t [] = sym (le-ltb t 0 (omega arith))
behind_latest t (e ∷ log) = go (is_accepted e.answer) (behind_latest t log)
  where
    go : (b : Bool) → is_behind t log ≡ ltb t (latest_of log)
        → ((b && ltb t e.reception.time) || is_behind t log)
        ≡ ltb t (cond b (max e.reception.time (latest_of log)) (latest_of log))
    go true ih = ap (λ x. ltb t e.reception.time || x) ih ∙ ltb-max t e.reception.time (latest_of log)
    go false ih = ih

pub same_sent : (setting : ℕ) (a : Shown) (r : Reception) → sent_for setting a r ≡ sent_with setting a r
unfolding sent_for
same_sent setting Kept r = refl
same_sent setting Copy r = refl
same_sent setting Loose r = refl
same_sent setting (Refused n) r = refl

-- to test whether one is a copy, and which is open, no count matters
capped-copy : (r : Reception) (e : Entry) → is_copy_of (recount capped e) r ≡ is_copy_of e r
unfolding is_copy_of
capped-copy r e = refl

any_capped : (r : Reception) (l : List Entry)
    → any (λ e. is_copy_of e r) (map (recount capped) l) ≡ any (λ e. is_copy_of e r) l
any_capped r l = any_map (recount capped) (λ e. is_copy_of e r) l ∙ (λ i. any (λ e. capped-copy r e i) l)

still-capped : {t u : ℕ} → t ≤ u → (log : List Logged)
    → keep (is_open u) (map (recount capped) (open_at t log)) ≡ map (recount capped) (open_at u log)
still-capped {t} {u} h log =
    keep-map (is_open u) (recount capped) (open_at t log) ∙ ap (map (recount capped)) (still_open h log)

-- of the telegrams still open, a copy is one of the last of which it is a copy
credit_open : (r : Reception) (l : List Entry)
    → keep (is_open r.time) (credit (λ n. n + 1) (is_open_copy r) l)
    ≡ credit (λ n. n + 1) (λ e. is_copy_of e r) (keep (is_open r.time) l)
credit_open r l =
    keep-credit (λ n. n + 1) (is_open_copy r) (is_open r.time) (λ e. refl)
    (λ e. true) (λ e _ h. (both (is_open r.time e) (is_copy_of e r) h).0) l (all_of (λ e. true) l (λ e m. refl))
    ∙ credit_and (λ n. n + 1) (is_open r.time) (λ e. is_copy_of e r) l

module _ (log : List Logged) (r : Reception) where
  same_answer : acceptable (model_view log) ≡ true → classify (model_view log) r ≡ answer_to log r
  unfolding classify answer_to model_view totals_of
  same_answer ok =
      by_test (ltb r.time (latest_of log)) (λ e. rw (ok, behind_latest r.time log, e))
      (λ e.
      let l = open_at r.time log in
      let later : latest_of log ≤ r.time = ltb-false r.time (latest_of log) e in
      rw (ok, behind_latest r.time log, e, still-capped later log, any_capped r l, length-map l (recount capped)))

  same_view : (a : Shown) → (is_accepted a ≡ true → latest_of log ≤ r.time)
      → advance (model_view log) r a ≡ model_view (record { reception = r; answer = a } ∷ log)
  unfolding advance model_view totals_of
  same_view Kept h =
      rw (
        max-eq_left (h refl),
        still-capped (h refl) log,
        keep_last (is_open r.time) (kept_of log) (opened r) (open_now (opened r)),
        map-append (recount capped) (open_at r.time log) (opened r ∷ []),
      )
  same_view Copy h =
      rw (
        max-eq_left (h refl),
        still-capped (h refl) log,
        credit_open r (kept_of log),
        credit_cap (λ e. is_copy_of e r) (capped-copy r) (open_at r.time log),
      )
  same_view Loose h = rw (max-eq_left (h refl), still-capped (h refl) log)
  same_view (Refused n) h = refl

  -- the view after one more reception, and the step to it
  abbrev after : View
  after = model_view (record { reception = r; answer = answer_to log r } ∷ log)

  module _ (g : Good (model_view log)) where
    next_view : advance (model_view log) r (classify (model_view log) r) ≡ after
    unfolding model_view
    next_view =
        same_view (classify (model_view log) r) (accepted-time (model_view log) r (classified (model_view log) r))
        ∙ ap (λ a. model_view (record { reception = r; answer = a } ∷ log)) (same_answer (good_acceptable g))

    pub same_step : step (model_view log) r ≡ record { answer = answer_to log r; next = after }
    unfolding step model_view
    same_step = rw (next_view, same_answer (good_acceptable g))

    pub good_after : r.time < 2 ^ 64 → Good after
    good_after small = rw next_view at (good_advance (model_view log) r g small (classified (model_view log) r))

-- ---- an ask

counts-capped : (l : List Entry) → copies_in (map (recount capped) l) ≡ map capped (copies_in l)
counts-capped [] = refl
counts-capped (x ∷ l) = ap (λ (m : List ℕ). capped x.copies ∷ m) (counts-capped l)

pub same_heard : (log : List Logged) (k : ℕ) → Good (model_view log) → copies_of (model_view log) k ≡ heard_by log k
unfolding copies_of heard_by model_view
same_heard log k g =
    let l = open_at (latest_of log) log in
    let open_length : length (map (recount capped) l) ≡ length l = length-map l (recount capped) in
    let count-length : length (copies_in l) ≡ length l = length-map l (λ e. e.copies) in
    by_test (leb (length l) k)
    (λ e. rw (good_acceptable g, open_length, count-length, e, le-ltb k (length l) (leb-true (length l) k e)))
    (λ e.
    let low : k < length l = leb-false (length l) k e in
    let at : get_or (map capped (copies_in l)) k 0 ≡ capped (get_or (copies_in l) k 0) =
    get_d_map capped (copies_in l) k 0 0 (omega (arith, count-length)) in
    rw (good_acceptable g, open_length, count-length, e, lt-ltb k (length l) low, counts-capped l, at))
