-- A recovery that has no log: after the rows alone the openings are those of the whole run, and its latest time is the later of the two; from there on
-- both answer alike.
use Prim.Native.Nat.{ℕ, suc, ◌+◌, ◌^◌, ◌≤◌, ◌<◌}
use native.Mathlib.Omega.{arith}
use mathlib.Core.Path.{◌≡◌, refl, sym, ◌∙◌, ap, ap₂}
use mathlib.Core.Bool.{Bool, true, false, cond}
use mathlib.Core.List.{List, [], ◌∷◌}
use lib.Dec.{leb}
use lib.ListN.{length, length-map}
use borrow.Author.Tests.{leb-true}
use Rattle.base_lists.specs.Lists.{all}
use Rattle.base_lists.proofs.Choice.{both}
use Rattle.collector_model.specs.Answer.{Shown}
use Rattle.collector_model.specs.View.{Reception, View}
use Rattle.collector_model.specs.Step.{max_count}
use Rattle.collector_model.specs.Burst.{Replied}
use Rattle.collector_model.specs.Image.{RestoreResult, image_of, restore_of}
use Rattle.collector_model.specs.Reference.{latest_of, answer_to, sent_with, log_of, model_view, past_after}
use Rattle.collector_model.specs.Division.{Given, receptions_of, past_of}
use Rattle.collector_model.specs.States.{left_by}
use Rattle.collector_model.proofs.Invariant.{Good, good_fresh}
use Rattle.collector_model.proofs.Theorem.{restore_image, burst_good, fresh-model}
use Rattle.collector_model.proofs.Division.{replies_at}
use Rattle.collector_model.proofs.States.{left-model}
use Rattle.collector_model.proofs.Struck.{bare, one_by_one, receptions-one_by_one, AllTimely, history_timely}
use Rattle.history_rows.specs.Rows.{is_row_answer}
use Rattle.history_rows.specs.States.{rows_among, past_by}
use Rattle.history_rows.specs.Recovered.{RecoveredGoesOn}
use Rattle.history_rows.proofs.Thinned.{thinned_same}
use Rattle.history_rows.proofs.States.{both_runs, views_later, rows-timely, replies-from}
use Rattle.history_rows.proofs.Again.{Follows, follows_answer, follows_more, low_count}

length-past : (past rs : List Reception) → length (past_after past rs) ≡ length past + length rs
length-past past [] = omega arith
length-past past (r ∷ rs) = omega (arith, length-past (r ∷ past) rs)

length-rows : (past : List Reception) (gs : List Given) → length (rows_among past gs) ≤ length gs
length-rows past [] = omega arith
length-rows past (g ∷ gs) = go (is_row_answer (answer_to (log_of past) g.reception))
    (length-rows (g.reception ∷ past) gs)
  where
    go : (b : Bool) → length (rows_among (g.reception ∷ past) gs) ≤ length gs
        → length (cond b (g ∷ rows_among (g.reception ∷ past) gs) (rows_among (g.reception ∷ past) gs))
        ≤ suc (length gs)
    go true ih = omega (arith, ih)
    go false ih = omega (arith, ih)

-- both runs are handed the same
record Following (from : ℕ) (p q : List Reception) (gs : List Given) : Type 0 where
  replies : replies_at p gs ≡ replies_at q gs
  follows : Follows from (log_of (past_after p (bare gs))) (log_of (past_after q (bare gs)))

following : (from : ℕ) (p q : List Reception) (gs : List Given) → Follows from (log_of p) (log_of q)
    → length q ≤ length p
    → length p + length gs < 2 ^ 64 → all (λ g. leb from g.reception.time) gs ≡ true → Following from p q gs
following from p q [] h less few t = record { replies = refl; follows = h }
following from p q (g ∷ gs) h less few t =
    let r = g.reception in
    let w = both (leb from r.time) (all (λ x. leb from x.reception.time) gs) t in
    let whole : length p < max_count = omega (arith, few) in
    let thin : length q < max_count = omega (arith, few, less) in
    let a : answer_to (log_of p) r ≡ answer_to (log_of q) r =
    follows_answer from (log_of p) (log_of q) h r (low_count p whole)
    (low_count q thin) (leb-true from r.time w.0) in
    let more : Follows from (log_of (r ∷ p)) (log_of (r ∷ q)) =
    rw (← a) (follows_more from (log_of p) (log_of q) h r (answer_to (log_of p) r)) in
    let next = following from (r ∷ p) (r ∷ q) gs more (omega (arith, less)) (omega (arith, few)) w.1 in
    let reply : Shown → Replied = λ s. record { answer = s; sent = sent_with g.setting s r } in
    record {
      replies = ap₂ (λ (s : Shown) (l : List Replied). reply s ∷ l) a next.replies;
      follows = next.follows;
    }

fresh_good : Good (model_view (log_of []))
fresh_good = rw fresh-model at good_fresh

module _ {State : Type 0} (view : State → View) where
  pub recovered_goes_on : RecoveredGoesOn view
  recovered_goes_on h g f ok-h ok-g ok_f few late c d d' from-c from-d k l m x y s t w n e u z =
      let past = past_of h in
      let rows = rows_among past (receptions_of g) in
      let p = past_by past g in
      let q = past_after past (bare rows) in
      let good : Good (model_view (log_of past)) =
      burst_good [] (bare (receptions_of h)) fresh_good (history_timely h ok-h) in
      let middle : view (left_by view s) ≡ model_view (log_of past) =
      left-model view [] s (from-c ∙ fresh-model) fresh_good ok-h in
      let back : ◌≡◌ {A = RestoreResult} (record { number = n; next = view d' })
      (record { number = 0; next = model_view (log_of past) })
      = e ∙ ap₂ (λ (v w : View). restore_of v (image_of w)) from-d middle ∙ restore_image good in
      let rows_ok = rows-timely past (receptions_of g) (history_timely g ok-g) in
      let rows_few : AllTimely rows = rw (receptions-one_by_one rows) at (history_timely (one_by_one rows) rows_ok) in
      let left : view (left_by view t) ≡ model_view (log_of p) = left-model view past t middle good ok-g in
      let alone : view (left_by view u) ≡ model_view (log_of q)
      = left-model view past u (ap (λ (r : RestoreResult). r.next) back) good rows_ok
      ∙ ap (λ (gs : List Given). model_view (log_of (past_after past (bare gs)))) (receptions-one_by_one rows) in
      let good-p : Good (model_view (log_of p)) =
      burst_good past (bare (receptions_of g)) good (history_timely g ok-g) in
      let good-q : Good (model_view (log_of q)) = burst_good past (bare rows) good rows_few in
      let b =
      (both_runs past past (receptions_of g)
      (record { thinned = thinned_same (log_of past); newest = λ _. refl })).level.thinned in
      let less : length q ≤ length p
      = omega (
        arith,
        length-past past (bare rows),
        length-past past (bare (receptions_of g)),
        length-map rows (λ r. r.reception),
        length-map (receptions_of g) (λ r. r.reception),
        length-rows past (receptions_of g),
      ) in
      let low : length p + length (receptions_of f) < 2 ^ 64
      = omega (arith, few, length-past p (bare (receptions_of f)), length-map (receptions_of f) (λ r. r.reception)) in
      let o =
      following (latest_of (log_of p)) p q (receptions_of f)
      (record { openings = b.openings; latest = omega (arith, b.latest) }) less low late in
      let whole = log_of (past_by p f) in
      let thin = log_of (past_by q f) in
      record {
        replies = replies-from view p left good-p ok_f w ∙ o.replies ∙ sym (replies-from view q alone good-q ok_f z);
        openings =
            views_later whole thin o.follows.openings (omega (arith, o.follows.latest))
            (view (left_by view w)) (view (left_by view z))
            (left-model view p w left good-p ok_f) (left-model view q z alone good-q ok_f);
      }
