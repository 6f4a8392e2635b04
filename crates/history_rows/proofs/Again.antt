-- Rows are given again: from the image a run of the reference model that is handed rows alone keeps step with the whole one.
use Prim.Native.Nat.{ℕ, zero, suc, ◌^◌, ◌≤◌, ◌<◌, max}
use native.Mathlib.Omega.{arith}
use mathlib.Core.Path.{◌≡◌, refl, sym, ◌∙◌, ap, ap₂}
use mathlib.Core.Bool.{Bool, true, false, cond, not, false≢true}
use mathlib.Core.List.{List, [], ◌∷◌, ◌++◌, map}
use lib.Dec.{leb, ltb}
use lib.ListN.{length, take, length-append}
use borrow.Author.Tests.{leb-true, lt-leb, ltb-true, ltb-false, lt-ltb, le-ltb, not-false}
use Rattle.base_lists.specs.Lists.{all}
use Rattle.base_lists.proofs.Choice.{both}
use Rattle.base_lists.proofs.Tests.{and-true, branch, by_test, count-length}
use Rattle.radio_erp1.specs.Subtelegram.{is_valid}
use Rattle.collector_model.specs.Answer.{Shown, is_accepted, is_received}
use Rattle.collector_model.specs.View.{Reception, View, opened_by, fresh}
use Rattle.collector_model.specs.Acceptable.{acceptable}
use Rattle.collector_model.specs.Step.{StepOutcome, max_count, classify, step}
use Rattle.collector_model.specs.Burst.{after_all}
use Rattle.collector_model.specs.Image.{RestoreResult, image_of, restore_of}
use Rattle.collector_model.specs.Reference.{Logged, answers, kept_of, open_at, latest_of, answer_to, log_of, model_view, past_after}
use Rattle.collector_model.specs.History.{Timely}
use Rattle.collector_model.proofs.Invariant.{Good, good_fresh}
use Rattle.collector_model.proofs.Simulation.{behind_latest, same_step, good_after}
use Rattle.collector_model.proofs.Theorem.{restore_image, burst_after, burst_good, fresh-model}
use Rattle.collector_model.proofs.Isolation.{length_log}
use Rattle.history_rows.specs.Rows.{is_row_answer, log_since, rows_in_log, alone}
use Rattle.history_rows.specs.Again.{logged_rows_from, is_fit_reception, RowsFit, FirstRows, GivenAgain, RowsGoOn}
use Rattle.history_rows.proofs.Thinned.{Thinned, same_open, same_any, same_length, same_after, thinned_same, thinned_answer, thinned_row, thinned_other}
use Rattle.history_rows.proofs.Rows.{rows_thinned}

-- ---- the first rows

pub first_rows : FirstRows
first_rows v rs zero = (0, refl)
first_rows v [] (suc j) = (0, refl)
first_rows v (r ∷ rs) (suc j) =
    go (is_row_answer (step v r).answer) refl (first_rows (step v r).next rs j) (first_rows (step v r).next rs (suc j))
  where
    go : (b : Bool) → is_row_answer (step v r).answer ≡ b
        → (k : ℕ) × (logged_rows_from (step v r).next (take k rs) ≡ take j (logged_rows_from (step v r).next rs))
        → (k : ℕ) × (logged_rows_from (step v r).next (take k rs) ≡ take (suc j) (logged_rows_from (step v r).next rs))
        → (k : ℕ) × (logged_rows_from v (take k (r ∷ rs)) ≡ take (suc j) (logged_rows_from v (r ∷ rs)))
    go true e m n =
        (suc m.0, rw e (ap (λ (l : List Logged). record { reception = r; answer = (step v r).answer } ∷ l) m.1))
    go false e m n = (suc n.0, rw e n.1)

-- what is a row is valid, whatever the view
row-valid : (v : View) (r : Reception) → is_row_answer (classify v r) ≡ true → is_valid r.bytes ≡ true
unfolding classify
row-valid v r =
    let P : Shown → Type 0 = λ a. is_row_answer a ≡ true → is_valid r.bytes ≡ true in
    branch P (not (acceptable v)) (λ _ e. absurd (false≢true e))
    λ _. branch P (leb max_count v.totals.received) (λ _ e. absurd (false≢true e))
    λ _. branch P (not (is_valid r.bytes)) (λ _ e. absurd (false≢true e))
    λ w _. not-false (is_valid r.bytes) w

step-valid : (v : View) (r : Reception) → is_row_answer (step v r).answer ≡ true → is_valid r.bytes ≡ true
unfolding step
step-valid v r e = row-valid v r e

pub rows_fit : RowsFit
rows_fit v [] t = refl
rows_fit v (r ∷ rs) t = go (is_row_answer (step v r).answer) refl (rows_fit (step v r).next rs t.1)
  where
    go : (b : Bool) → is_row_answer (step v r).answer ≡ b
        → all is_fit_reception (logged_rows_from (step v r).next rs) ≡ true
        → all is_fit_reception
        (cond b (record { reception = r; answer = (step v r).answer } ∷ logged_rows_from (step v r).next rs)
        (logged_rows_from (step v r).next rs))
        ≡ true
    go true e ih = and-true (and-true (step-valid v r e) (lt-ltb r.time (2 ^ 64) t.0)) ih
    go false e ih = ih

-- ---- rows of the reference model, oldest first

abbrev rows_by : List Reception → List Reception → List Logged
rows_by past [] = []
rows_by past (r ∷ rs) =
    cond (is_row_answer (answer_to (log_of past) r))
    (record { reception = r; answer = answer_to (log_of past) r } ∷ rows_by (r ∷ past) rs) (rows_by (r ∷ past) rs)

rows_by_lem : (past rs : List Reception) → Good (model_view (log_of past))
    → Timely rs → logged_rows_from (model_view (log_of past)) rs ≡ rows_by past rs
rows_by_lem past [] g t = refl
rows_by_lem past (r ∷ rs) g t =
    ap (λ (o : StepOutcome). cond (is_row_answer o.answer)
    (record { reception = r; answer = o.answer } ∷ logged_rows_from o.next rs) (logged_rows_from o.next rs))
    (same_step (log_of past) r g)
    ∙ ap (λ (l : List Logged). cond (is_row_answer (answer_to (log_of past) r))
    (record { reception = r; answer = answer_to (log_of past) r } ∷ l) l)
    (rows_by_lem (r ∷ past) rs (good_after (log_of past) r g t.0) t.1)

abbrev receptions : List Logged → List Reception
receptions l = map (λ e. e.reception) l

rows-timely : (past rs : List Reception) (j : ℕ) → Timely rs → Timely (receptions (take j (rows_by past rs)))
rows-timely past rs zero t = tt
rows-timely past [] (suc j) t = tt
rows-timely past (r ∷ rs) (suc j) t =
    go (is_row_answer (answer_to (log_of past) r)) (rows-timely (r ∷ past) rs j t.1)
    (rows-timely (r ∷ past) rs (suc j) t.1)
  where
    go : (b : Bool) → Timely (receptions (take j (rows_by (r ∷ past) rs)))
        → Timely (receptions (take (suc j) (rows_by (r ∷ past) rs)))
        → Timely
        (receptions (take (suc j)
        (cond b (record { reception = r; answer = answer_to (log_of past) r } ∷ rows_by (r ∷ past) rs)
        (rows_by (r ∷ past) rs))))
    go true m n = (t.0, m)
    go false m n = n

rows_again : (p q rs : List Reception) (j : ℕ) → Thinned (log_of p) (log_of q)
    → rows_by q (receptions (take j (rows_by p rs))) ≡ take j (rows_by p rs)
rows_again p q rs zero h = refl
rows_again p q [] (suc j) h = refl
rows_again p q (r ∷ rs) (suc j) h =
    go (is_row_answer (answer_to (log_of p) r)) refl (λ q' k. rows_again (r ∷ p) q' rs j k)
    (λ k. rows_again (r ∷ p) q rs (suc j) k)
  where
    go : (b : Bool) → is_row_answer (answer_to (log_of p) r) ≡ b
        → ((q' : List Reception) → Thinned (log_of (r ∷ p)) (log_of q')
        → rows_by q' (receptions (take j (rows_by (r ∷ p) rs))) ≡ take j (rows_by (r ∷ p) rs))
        → (Thinned (log_of (r ∷ p)) (log_of q)
        → rows_by q (receptions (take (suc j) (rows_by (r ∷ p) rs))) ≡ take (suc j) (rows_by (r ∷ p) rs))
        → rows_by q (receptions (take (suc j) (rows_by p (r ∷ rs)))) ≡ take (suc j) (rows_by p (r ∷ rs))
    go true is m n =
        let a : answer_to (log_of p) r ≡ answer_to (log_of q) r = thinned_answer (log_of p) (log_of q) h r is in
        let is-thin : is_row_answer (answer_to (log_of q) r) ≡ true = ap is_row_answer (sym a) ∙ is in
        rw (is, is-thin) (ap₂ (λ (s : Shown) (l : List Logged). record { reception = r; answer = s } ∷ l) (sym a)
        (m (r ∷ q) (thinned_row (log_of p) (log_of q) h r is)))
    go false is m n = rw is (n (thinned_other (log_of p) (log_of q) h r (answer_to (log_of p) r) is))

fresh_good : Good (model_view (log_of []))
fresh_good = rw fresh-model at good_fresh

pub given_again : GivenAgain
given_again first more t u j =
    let p = past_after [] first in
    let good : Good (model_view (log_of p)) = burst_good [] first fresh_good t in
    let middle : after_all fresh first ≡ model_view (log_of p) =
    ap (λ (v : View). after_all v first) fresh-model ∙ burst_after [] first fresh_good t in
    let back : restore_of fresh (image_of (after_all fresh first)) ≡ record { number = 0; next = model_view (log_of p) }
    = ap (λ (v : View). restore_of fresh (image_of v)) middle ∙ restore_image good in
    let rows : logged_rows_from (after_all fresh first) more ≡ rows_by p more =
    ap (λ (v : View). logged_rows_from v more) middle ∙ rows_by_lem p more good u in
    record {
      number = ap (λ (q : RestoreResult). q.number) back;
      rows =
          ap₂ (λ (q : RestoreResult) (l : List Logged). logged_rows_from q.next (receptions (take j l))) back rows
          ∙ rows_by_lem p (receptions (take j (rows_by p more))) good (rows-timely p more j u)
          ∙ rows_again p p more j (thinned_same (log_of p)) ∙ ap (take j) (sym rows);
    }

-- ---- going on

-- the openings are the same, and so is the latest time where it is above `from`
pub record Follows (from : ℕ) (whole thin : List Logged) : Type 0 where
  pub openings : map opened_by (kept_of whole) ≡ map opened_by (kept_of thin)
  pub latest : latest_of whole ≡ max from (latest_of thin)

same_behind : (from a b t : ℕ) → a ≡ max from b → from ≤ t → ltb t a ≡ ltb t b
same_behind from a b t e h =
    by_test (ltb t b) (λ k. lt-ltb t a (omega (arith, e, h, ltb-true t b k)) ∙ sym k)
    (λ k. le-ltb t a (omega (arith, e, h, ltb-false t b k)) ∙ sym k)

module _ (from : ℕ) (whole thin : List Logged) (h : Follows from whole thin) (r : Reception) where
  opens : map opened_by (open_at r.time whole) ≡ map opened_by (open_at r.time thin)
  opens = same_open (kept_of whole) (kept_of thin) h.openings r.time

  pub follows_answer : answers is_received whole < max_count → answers is_received thin < max_count
      → from ≤ r.time → answer_to whole r ≡ answer_to thin r
  unfolding answer_to
  follows_answer m n k =
      rw (
        lt-leb max_count (answers is_received whole) m,
        lt-leb max_count (answers is_received thin) n,
        behind_latest r.time whole,
        behind_latest r.time thin,
        same_behind from (latest_of whole) (latest_of thin) r.time h.latest k,
        same_any (open_at r.time whole) (open_at r.time thin) opens r,
        same_length (open_at r.time whole) (open_at r.time thin) opens,
      )

  pub follows_more : (a : Shown)
      → Follows from (record { reception = r; answer = a } ∷ whole) (record { reception = r; answer = a } ∷ thin)
  follows_more a =
      record { openings = same_after (kept_of whole) (kept_of thin) h.openings r a; latest = go (is_accepted a) }
    where
      go : (b : Bool)
          → cond b (max r.time (latest_of whole)) (latest_of whole)
          ≡ max from (cond b (max r.time (latest_of thin)) (latest_of thin))
      go true = omega (arith, h.latest)
      go false = h.latest

pub low_count : (past : List Reception) → length past < max_count → answers is_received (log_of past) < max_count
low_count past h = omega (arith, count-length (λ e. is_received e.answer) (log_of past), length_log past)

record Going (from : ℕ) (p q next : List Reception) : Type 0 where
  answers : log_since p next ≡ log_since q next
  follows : Follows from (log_of (next ++ p)) (log_of (next ++ q))

going : (from : ℕ) (p q next : List Reception) → Follows from (log_of p) (log_of q) → length q ≤ length p
    → length (next ++ p) < 2 ^ 64 → all (λ r. leb from r.time) next ≡ true → Going from p q next
going from p q [] h less few t = record { answers = refl; follows = h }
going from p q (r ∷ next) h less few t =
    let w = both (leb from r.time) (all (λ s. leb from s.time) next) t in
    let g = going from p q next h less (omega (arith, few)) w.1 in
    let whole : length (next ++ p) < max_count = omega (arith, few) in
    let thin : length (next ++ q) < max_count = omega (arith, few, less, length-append next p, length-append next q) in
    let a : answer_to (log_of (next ++ p)) r ≡ answer_to (log_of (next ++ q)) r =
    follows_answer from (log_of (next ++ p)) (log_of (next ++ q))
    g.follows r (low_count (next ++ p) whole) (low_count (next ++ q) thin)
    (leb-true from r.time w.0) in
    record {
      answers = ap₂ (λ (s : Shown) (l : List Logged). record { reception = r; answer = s } ∷ l) a g.answers;
      follows =
          rw (← a)
          (follows_more from (log_of (next ++ p)) (log_of (next ++ q)) g.follows r (answer_to (log_of (next ++ p)) r));
    }

length-alone : (past more : List Reception) → length (alone (log_since past more)) ≤ length more
length-alone past [] = omega arith
length-alone past (r ∷ more) = go (is_row_answer (answer_to (log_of (more ++ past)) r)) (length-alone past more)
  where
    go : (b : Bool) → length (alone (log_since past more)) ≤ length more
        → length
        (receptions (cond b
        (record { reception = r; answer = answer_to (log_of (more ++ past)) r } ∷ rows_in_log (log_since past more))
        (rows_in_log (log_since past more))))
        ≤ suc (length more)
    go true ih = omega (arith, ih)
    go false ih = omega (arith, ih)

pub goes_on : RowsGoOn
goes_on past more next few t =
    let p = more ++ past in
    let q = alone (log_since past more) ++ past in
    let h = rows_thinned past more in
    let from = latest_of (log_of p) in
    let less : length q ≤ length p
    = omega (
      arith,
      length-append more past,
      length-append
          (alone (log_since past more)) past,
      length-alone past more,
    ) in
    let g = going from p q next (record { openings = h.openings; latest = omega (arith, h.latest) }) less few t in
    record {
      answers = g.answers;
      openings = same_open (kept_of (log_of (next ++ p))) (kept_of (log_of (next ++ q))) g.follows.openings;
    }
