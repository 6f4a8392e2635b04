-- Telegrams are opened in order of time, so those that are closed stand before those that are open: what closes is the next part of all that were
-- opened. A copy counts for one that is open, and so the number of one that is closed stays.
use Prim.Native.Nat.{ℕ, ◌+◌, ◌-◌, ◌≤◌}
use native.Mathlib.Omega.{arith}
use native.Mathlib.Nat.{max-eq_left}
use mathlib.Core.Path.{◌≡◌, refl, sym, ◌∙◌, ap, ap₂}
use mathlib.Core.Bool.{Bool, true, false, cond, not, false≢true}
use mathlib.Core.List.{List, [], ◌∷◌, ◌++◌, map, append-nil, append_assoc, map-append}
use lib.Dec.{leb}
use lib.ListN.{length, length-map}
use borrow.Author.Tests.{le-leb, ltb-false, not-true}
use Rattle.base_lists.specs.Lists.{keep, all, pairwise, up_from}
use Rattle.base_lists.proofs.Choice.{both}
use Rattle.base_lists.proofs.Keep.{keep_append, keep-map, keep-every}
use Rattle.base_lists.proofs.Members.{all_of}
use Rattle.base_lists.proofs.Tests.{branch, by_test, all_both, keep-keep, keep_swap}
use Rattle.radio_erp1.specs.Subtelegram.{is_valid}
use Rattle.collector_model.specs.Answer.{Shown, Kept, Copy, Loose, Refused, is_kept, is_accepted, is_received}
use Rattle.collector_model.specs.View.{Reception, Entry, View, opened, opened_by, recount, maturity, capped, is_open, fresh}
use Rattle.collector_model.specs.Acceptable.{is_copy_of}
use Rattle.collector_model.specs.Step.{StepOutcome, max_count, step}
use Rattle.collector_model.specs.Burst.{after_all}
use Rattle.collector_model.specs.Heard.{copies_in}
use Rattle.collector_model.specs.Reference.{Logged, answers, is_open_copy, kept_after, kept_of, open_at, is_behind, latest_of, answer_to, log_of, model_view, past_after}
use Rattle.collector_model.specs.History.{Call, Timely, IsHistory, Seen, burst_taken}
use Rattle.collector_model.specs.Division.{receptions_of, past_of}
use Rattle.collector_model.specs.Copies.{copy_answers}
use Rattle.collector_model.specs.States.{Shows, ended, received, saved, restored, resumed, delivered, asked, looked, left_by}
use Rattle.collector_model.proofs.Copies.{keep-other}
use Rattle.collector_model.proofs.Invariant.{Good, good_fresh}
use Rattle.collector_model.proofs.Simulation.{behind_latest, open_before, same_step, good_after}
use Rattle.collector_model.proofs.Theorem.{burst_after, burst_good, taken-timely, fresh-model}
use Rattle.collector_model.proofs.States.{past-joined, left-model}
use Rattle.collector_model.proofs.Struck.{bare}
use Rattle.collector_model.proofs.Latest.{ordered}
use Rattle.collector_model.specs.Several.{in_time}
use Rattle.collector_model.proofs.Counting.{open_later, numbers_are-answers}
use Rattle.history_rows.specs.Closings.{closed_at, closed_by, closings, kept_receptions, ClosedOnce, closed_from, closings_from, EachOnce, ViewsClosedOnce}
use Rattle.history_rows.specs.Closings.{closings_of, StatesClosedOnce}
use Rattle.history_rows.proofs.Thinned.{opened-credit, capped-openings}

-- ---- a list in order of time

abbrev is_shut : ℕ → Entry → Bool
is_shut t e = not (is_open t e)

none_shut : (t : ℕ) (l : List Entry) → all (is_open t) l ≡ true → closed_at t l ≡ []
none_shut t [] e = refl
none_shut t (x ∷ l) e = let w = both (is_open t x) (all (is_open t) l) e in rw w.0 (none_shut t l w.1)

-- those that are closed stand first
closed_first : (t : ℕ) (l : List Entry) → pairwise in_time l ≡ true → closed_at t l ++ keep (is_open t) l ≡ l
closed_first t [] s = refl
closed_first t (x ∷ l) s =
    let w = both (all (in_time x) l) (pairwise in_time l) s in
    by_test (is_open t x)
    (λ e.
    let rest : all (is_open t) l ≡ true =
    all_both (in_time x) (in_time x) (is_open t) (λ y k _. open_later t x y k e) l w.0 w.0 in
    rw (e, none_shut t l rest, keep-every (is_open t) l rest))
    (λ e. rw e (ap (λ (m : List Entry). x ∷ m) (closed_first t l w.1)))

-- what was closed stays closed
shut_after : {t u : ℕ} → t ≤ u → (e : Entry) → is_shut t e ≡ true → is_shut u e ≡ true
shut_after {t} {u} h e p = go (is_open u e) refl
  where
    go : (b : Bool) → is_open u e ≡ b → not b ≡ true
    go true o = absurd (false≢true (sym (not-true (is_open t e) p) ∙ open_before h e o))
    go false o = refl

-- at a later time more are closed: the first of those that were open
closed-more : {t u : ℕ} → t ≤ u → (l : List Entry) → pairwise in_time l ≡ true
    → closed_at t l ++ closed_at u (keep (is_open t) l) ≡ closed_at u l
closed-more {t} {u} h l s =
    ap (λ (m : List Entry). m ++ closed_at u (keep (is_open t) l))
    (sym (keep_swap (is_shut u) (is_shut t) l ∙ keep-keep (is_shut t) (is_shut u) (shut_after h) l))
    ∙ sym (keep_append (is_shut u) (closed_at t l) (keep (is_open t) l))
    ∙ ap (closed_at u) (closed_first t l s)

-- ---- the reference model

accepted-latest : (log : List Logged) (r : Reception) → is_accepted (answer_to log r) ≡ true → latest_of log ≤ r.time
unfolding answer_to
accepted-latest log r =
    let P : Shown → Type 0 = λ a. is_accepted a ≡ true → latest_of log ≤ r.time in
    branch P (leb max_count (answers is_received log)) (λ _ e. absurd (false≢true e))
    λ _. branch P (not (is_valid r.bytes)) (λ _ e. absurd (false≢true e))
    λ _. branch P (is_behind r.time log) (λ _ e. absurd (false≢true e))
    λ b e. ltb-false r.time (latest_of log) (sym (behind_latest r.time log) ∙ b)

-- what closed so far is every telegram that is closed at the latest time
closed_so_far : (past : List Reception) → closings past ≡ closed_at (latest_of (log_of past)) (kept_of (log_of past))
closed_so_far [] = refl
closed_so_far (r ∷ past) = go (answer_to (log_of past) r) (accepted-latest (log_of past) r) (closed_so_far past)
  where
    -- of the telegrams opened before
    so_far : closings past ≡ closed_at (latest_of (log_of past)) (kept_of (log_of past))
        → latest_of (log_of past) ≤ r.time
        → closings past ++ closed_at r.time (open_at (latest_of (log_of past)) (log_of past))
        ≡ closed_at r.time (kept_of (log_of past))
    so_far ih h =
        ap (λ (m : List Entry). m ++ closed_at r.time (open_at (latest_of (log_of past)) (log_of past))) ih
        ∙ closed-more h (kept_of (log_of past)) (ordered past).order

    not_shut : (e : Entry) → is_open_copy r e ≡ true → is_shut r.time e ≡ false
    not_shut e h = ap not (both (is_open r.time e) (is_copy_of e r) h).0

    go : (a : Shown) → (is_accepted a ≡ true → latest_of (log_of past) ≤ r.time)
        → closings past ≡ closed_at (latest_of (log_of past)) (kept_of (log_of past))
        → closings past ++ closed_by (log_of past) r a
        ≡ closed_at (latest_of (record { reception = r; answer = a } ∷ log_of past))
        (kept_after (kept_of (log_of past)) r a)
    go Kept h ih =
        let now : is_open r.time (opened r) ≡ true = le-leb (r.time - r.time) maturity (omega arith) in
        rw (max-eq_left (h refl), keep_append (is_shut r.time) (kept_of (log_of past)) (opened r ∷ []), now)
        (so_far ih (h refl) ∙ sym (append-nil (closed_at r.time (kept_of (log_of past)))))
    go Copy h ih =
        rw (
          max-eq_left (h refl),
          keep-other (λ n. n + 1) (is_open_copy r) (is_shut r.time) (λ e. refl)
              (λ e. true) (λ e _ k. not_shut e k) (kept_of (log_of past))
              (all_of (λ e. true) (kept_of (log_of past)) (λ e m. refl)),
        ) (so_far ih (h refl))
    go Loose h ih = rw (max-eq_left (h refl)) (so_far ih (h refl))
    go (Refused n) h ih = append-nil (closings past) ∙ ih

pub closed_once : ClosedOnce
closed_once past =
    ap (λ (m : List Entry). m ++ open_at (latest_of (log_of past)) (log_of past)) (closed_so_far past)
    ∙ closed_first (latest_of (log_of past)) (kept_of (log_of past)) (ordered past).order

-- ---- what was opened is what was answered KEPT

kept-receptions : (log : List Logged) → map opened_by (kept_of log) ≡ kept_receptions log
kept-receptions [] = refl
kept-receptions (e ∷ log) = go e.reception e.answer (kept-receptions log)
  where
    go : (r : Reception) (a : Shown) → map opened_by (kept_of log) ≡ kept_receptions log
        → map opened_by (kept_after (kept_of log) r a) ≡ kept_receptions log ++ cond (is_kept a) (r ∷ []) []
    go r Kept ih = map-append opened_by (kept_of log) (opened r ∷ []) ∙ ap (λ (l : List Reception). l ++ (r ∷ [])) ih
    go r Copy ih = opened-credit (λ n. n + 1) (is_open_copy r) (kept_of log) ∙ ih
        ∙ sym (append-nil (kept_receptions log))
    go r Loose ih = ih ∙ sym (append-nil (kept_receptions log))
    go r (Refused n) ih = ih ∙ sym (append-nil (kept_receptions log))

-- ---- to the ceiling

abbrev cap : List Entry → List Entry
cap l = map (recount capped) l

capped-counts : (f : ℕ → ℕ) (l : List Entry) (ns : List ℕ)
    → copies_in l ≡ map f ns → copies_in (cap l) ≡ map (λ n. capped (f n)) ns
capped-counts f l ns e = counts l ∙ ap (map capped) e ∙ twice ns
  where
    counts : (m : List Entry) → copies_in (cap m) ≡ map capped (copies_in m)
    counts [] = refl
    counts (x ∷ m) = ap (λ (k : List ℕ). capped x.copies ∷ k) (counts m)

    twice : (ks : List ℕ) → map capped (map f ks) ≡ map (λ n. capped (f n)) ks
    twice [] = refl
    twice (k ∷ ks) = ap (λ (m : List ℕ). capped (f k) ∷ m) (twice ks)

each_once : (past : List Reception) → EachOnce (cap (kept_of (log_of past))) past
each_once past =
    let l = kept_of (log_of past) in
    let f : ℕ → ℕ = λ n. copy_answers n (log_of past) in
    record {
      receptions = capped-openings l ∙ kept-receptions (log_of past);
      copies =
          capped-counts f l (up_from 0 (length l)) (numbers_are-answers past)
          ∙ ap (λ (n : ℕ). map (λ k. capped (f k)) (up_from 0 n)) (sym (length-map l (recount capped)));
    }

-- ---- views

closed-view : (log : List Logged) (r : Reception) (a : Shown)
    → closed_from (model_view log) r a ≡ cap (closed_by log r a)
unfolding model_view
closed-view log r a = go (is_accepted a)
  where
    go : (b : Bool)
        → cond b (closed_at r.time (cap (open_at (latest_of log) log))) []
        ≡ cap (cond b (closed_at r.time (open_at (latest_of log) log)) [])
    go true = keep-map (is_shut r.time) (recount capped) (open_at (latest_of log) log)
    go false = refl

-- what closes from a view of the reference model stands behind what closed before
closings-more : (past : List Reception) (r : Reception) (rest : List Entry)
    → cap (closings past) ++ (closed_from (model_view (log_of past)) r (answer_to (log_of past) r) ++ rest)
    ≡ cap (closings (r ∷ past)) ++ rest
closings-more past r rest =
    let a = answer_to (log_of past) r in
    ap (λ (m : List Entry). cap (closings past) ++ (m ++ rest)) (closed-view (log_of past) r a)
    ∙ sym (append_assoc (cap (closings past)) (cap (closed_by (log_of past) r a)) rest)
    ∙ ap (λ (m : List Entry). m ++ rest) (sym
    (map-append (recount capped) (closings past) (closed_by (log_of past) r a)))

closings-from : (past rs : List Reception) → Good (model_view (log_of past)) → Timely rs
    → cap (closings past) ++ closings_from (model_view (log_of past)) rs ≡ cap (closings (past_after past rs))
closings-from past [] g t = append-nil (cap (closings past))
closings-from past (r ∷ rs) g t =
    ap (λ (o : StepOutcome). cap (closings past)
    ++ (closed_from (model_view (log_of past)) r o.answer ++ closings_from o.next rs))
    (same_step (log_of past) r g)
    ∙ closings-more past r (closings_from (model_view (log_of (r ∷ past))) rs)
    ∙ closings-from (r ∷ past) rs (good_after (log_of past) r g t.0) t.1

-- with what is still open they are all that was opened
all_opened : (past : List Reception)
    → cap (closings past) ++ (model_view (log_of past)).entries ≡ cap (kept_of (log_of past))
unfolding model_view
all_opened past =
    sym (map-append (recount capped) (closings past) (open_at (latest_of (log_of past)) (log_of past)))
    ∙ ap cap (closed_once past)

once : (past : List Reception) (l : List Entry) (v : View) → l ≡ cap (closings past)
    → v ≡ model_view (log_of past) → EachOnce (l ++ v.entries) past
once past l v e f = rw (e, f, all_opened past) (each_once past)

fresh_good : Good (model_view (log_of []))
fresh_good = rw fresh-model at good_fresh

pub views_closed_once : ViewsClosedOnce
views_closed_once rs t =
    once (past_after [] rs) (closings_from fresh rs) (after_all fresh rs)
    (ap (λ (v : View). closings_from v rs) fresh-model ∙ closings-from [] rs fresh_good t)
    (ap (λ (v : View). after_all v rs) fresh-model ∙ burst_after [] rs fresh_good t)

-- ---- states

module _ {State : Type 0} (view : State → View) where
  closings-shown : (past : List Reception) {c : State} {h : List Call} {l : List Seen} (t : Shows view c h l)
      → view c ≡ model_view (log_of past) → Good (model_view (log_of past)) → IsHistory h
      → cap (closings past) ++ closings_of view t ≡ cap (closings (past_after past (bare (receptions_of h))))
  closings-shown past ended e g ok = append-nil (cap (closings past))
  closings-shown past (received {c = c} {r = r} {a = a} f s t) e g ok =
      let is : a ≡ answer_to (log_of past) r =
      ap (λ (o : StepOutcome). o.answer) f ∙ ap (λ (v : View). (step v r).answer) e
      ∙ ap (λ (o : StepOutcome). o.answer) (same_step (log_of past) r g) in
      ap₂ (λ (v : View) (b : Shown). cap (closings past) ++ (closed_from v r b ++ closings_of view t)) e is
      ∙ closings-more past r (closings_of view t)
      ∙ closings-shown (r ∷ past) t (left-model view past (received f s ended) e g (ok.0, tt))
      (good_after (log_of past) r g ok.0) ok.1
  closings-shown past (saved f t) e g ok = closings-shown past t e g ok
  closings-shown past (restored f t) e g ok =
      closings-shown past t (left-model view past (restored f ended) e g (ok.0, tt)) g ok.1
  closings-shown past (resumed f from k t) e g ok =
      closings-shown past t (left-model view past (resumed f from k ended) e g (ok.0, tt)) g ok.1
  closings-shown past (delivered {setting = setting} {rs = rs} {places = places} {h = h} f t) e g ok =
      let whole = burst_taken setting rs places in
      let timely = taken-timely setting rs places ok.0 in
      ap (λ (v : View). cap (closings past) ++ (closings_from v whole ++ closings_of view t)) e
      ∙ sym (append_assoc (cap (closings past)) (closings_from (model_view (log_of past)) whole) (closings_of view t))
      ∙ ap (λ (m : List Entry). m ++ closings_of view t) (closings-from past whole g timely)
      ∙ closings-shown (past_after past whole) t
      (left-model view past (delivered {rs = rs} {places = places} f ended) e g (ok.0, tt)
      ∙ ap (λ (p : List Reception). model_view (log_of p)) (past-joined setting past whole []))
      (burst_good past whole g timely) ok.1
      ∙ ap (λ (p : List Reception). cap (closings p)) (sym (past-joined setting past whole (receptions_of h)))
  closings-shown past (asked f t) e g ok = closings-shown past t e g ok
  closings-shown past (looked t) e g ok = closings-shown past t e g ok

  pub states-closed_once : StatesClosedOnce view
  states-closed_once h ok c from l t =
      once (past_of h) (closings_of view t) (view (left_by view t))
      (closings-shown [] t (from ∙ fresh-model) fresh_good ok) (left-model view [] t (from ∙ fresh-model) fresh_good ok)
