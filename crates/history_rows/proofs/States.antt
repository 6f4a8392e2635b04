-- A history and its rows alone, in the states of an implementation: the replies and what is left are the reference model's, whose two runs keep step.
use Prim.Native.Nat.{ℕ, ◌≤◌}
use mathlib.Core.Path.{◌≡◌, refl, sym, ◌∙◌, ap, ap₂}
use mathlib.Core.Bool.{Bool, true, false, cond, false≢true}
use mathlib.Core.List.{List, [], ◌∷◌, map}
use Rattle.base_lists.specs.Lists.{keep}
use Rattle.base_lists.proofs.Tests.{keep-keep}
use Rattle.collector_model.specs.Answer.{Shown}
use Rattle.collector_model.specs.View.{Reception, View, opened_by, is_open, still_open}
use Rattle.collector_model.specs.Burst.{Replied}
use Rattle.collector_model.specs.Image.{RestoreResult, image_of, restore_of}
use Rattle.collector_model.specs.Reference.{Logged, kept_of, open_at, latest_of, answer_to, sent_with, log_of, model_view, past_after}
use Rattle.collector_model.specs.History.{Call, IsHistory, Seen, run}
use Rattle.collector_model.specs.Division.{Given, receptions_of, past_of, replies_in}
use Rattle.collector_model.specs.States.{Shows, left_by}
use Rattle.collector_model.proofs.Invariant.{Good, good_fresh}
use Rattle.collector_model.proofs.Simulation.{open_before}
use Rattle.collector_model.proofs.Theorem.{restore_image, burst_good, same_run, fresh-model}
use Rattle.collector_model.proofs.Division.{replies_at, expected-replies}
use Rattle.collector_model.proofs.States.{shows-run, left-model}
use Rattle.collector_model.proofs.Struck.{bare, one_by_one, receptions-one_by_one, AllTimely, history_timely}
use Rattle.history_rows.specs.Rows.{is_row_answer}
use Rattle.history_rows.specs.States.{rows_among, row_calls, row_replies, past_by, last_time, ends_in_row, RowsShown, StatesRowsAlone, RestoredRowsAlone}
use Rattle.history_rows.proofs.Thinned.{Thinned, row-latest, capped-openings, opens_at, open_openings, same_open}
use Rattle.history_rows.proofs.Thinned.{thinned_same, thinned_answer, thinned_row, thinned_other}

-- ---- the two runs of the reference model

-- they keep step, and where the first ends with a row they have the same latest time
pub record Level (whole thin : List Logged) : Type 0 where
  pub thinned : Thinned whole thin
  pub newest : ends_in_row whole ≡ true → latest_of whole ≡ latest_of thin

pub record Both (p q : List Reception) (gs : List Given) : Type 0 where
  pub replies : row_replies (replies_at p gs) ≡ replies_at q (rows_among p gs)
  pub level : Level (log_of (past_after p (bare gs))) (log_of (past_after q (bare (rows_among p gs))))
  pub latest : latest_of (log_of (past_after q (bare (rows_among p gs))))
      ≡ last_time (latest_of (log_of q)) (rows_among p gs)

pub both_runs : (p q : List Reception) (gs : List Given) → Level (log_of p) (log_of q) → Both p q gs
both_runs p q [] h = record { replies = refl; level = h; latest = refl }
both_runs p q (g ∷ gs) h =
    go (is_row_answer (answer_to (log_of p) g.reception)) refl (λ q' k. both_runs (g.reception ∷ p) q' gs k)
  where
    reply : Shown → Replied
    reply a = record { answer = a; sent = sent_with g.setting a g.reception }

    go : (b : Bool) → is_row_answer (answer_to (log_of p) g.reception) ≡ b
        → ((q' : List Reception) → Level (log_of (g.reception ∷ p)) (log_of q') → Both (g.reception ∷ p) q' gs)
        → Both p q (g ∷ gs)
    go true is on =
        let r = g.reception in
        let a : answer_to (log_of p) r ≡ answer_to (log_of q) r = thinned_answer (log_of p) (log_of q) h.thinned r is in
        let is-thin : is_row_answer (answer_to (log_of q) r) ≡ true = ap is_row_answer (sym a) ∙ is in
        let now : latest_of (log_of (r ∷ q)) ≡ r.time = row-latest (log_of q) r is-thin in
        let next = on (r ∷ q) (record {
          thinned = thinned_row (log_of p) (log_of q) h.thinned r is;
          newest = λ _. row-latest (log_of p) r is ∙ sym now;
        }) in
        record {
          replies = rw is (ap₂ (λ (s : Shown) (l : List Replied). reply s ∷ l) a next.replies);
          level = rw is next.level;
          latest = rw is (next.latest ∙ ap (λ (t : ℕ). last_time t (rows_among (r ∷ p) gs)) now);
        }
    go false is on =
        let r = g.reception in
        let next = on q (record {
          thinned = thinned_other (log_of p) (log_of q) h.thinned r (answer_to (log_of p) r) is;
          newest = λ e. absurd (false≢true (sym is ∙ e));
        }) in
        record { replies = rw is next.replies; level = rw is next.level; latest = rw is next.latest }

-- ---- views

view-openings : (log : List Logged) → map opened_by (model_view log).entries
    ≡ map opened_by (open_at (latest_of log) log)
unfolding model_view
view-openings log = capped-openings (open_at (latest_of log) log)

view-latest : (log : List Logged) → (model_view log).latest ≡ latest_of log
unfolding model_view
view-latest log = refl

module _ (whole thin : List Logged) (e : map opened_by (kept_of whole) ≡ map opened_by (kept_of thin)) where
  same_openings : map opened_by (model_view thin).entries ≡ map opened_by (open_at (latest_of thin) whole)
  same_openings = view-openings thin ∙ sym (same_open (kept_of whole) (kept_of thin) e (latest_of thin))

  later-openings : latest_of thin ≤ latest_of whole
      → map opened_by (keep (is_open (latest_of whole)) (model_view thin).entries)
      ≡ map opened_by (model_view whole).entries
  later-openings low =
      let t = latest_of whole in
      open_openings t (model_view thin).entries ∙ ap (keep (opens_at t)) same_openings
      ∙ sym (open_openings t (open_at (latest_of thin) whole))
      ∙ ap (map opened_by) (keep-keep (is_open t) (is_open (latest_of thin)) (open_before low) (kept_of whole))
      ∙ sym (view-openings whole)

  -- of two views
  pub views_later : latest_of thin ≤ latest_of whole → (v w : View) → v ≡ model_view whole → w ≡ model_view thin
      → map opened_by (still_open v.latest w) ≡ map opened_by v.entries
  views_later low v w left alone =
      ap₂ (λ (x y : View). map opened_by (still_open x.latest y)) left alone
      ∙ ap (λ (t : ℕ). map opened_by (still_open t (model_view thin))) (view-latest whole)
      ∙ later-openings low ∙ sym (ap (λ (x : View). map opened_by x.entries) left)

module _ (whole thin : List Logged) (h : Level whole thin) where
  newest-openings : ends_in_row whole ≡ true
      → ((model_view thin).latest ≡ (model_view whole).latest)
      × (map opened_by (model_view thin).entries ≡ map opened_by (model_view whole).entries)
  newest-openings e =
      let same = h.newest e in (
        view-latest thin ∙ sym same ∙ sym (view-latest whole),
        same_openings whole thin h.thinned.openings
            ∙ ap (λ (t : ℕ). map opened_by (open_at t whole)) (sym same) ∙ sym (view-openings whole),
      )

-- ---- states

pub rows-timely : (past : List Reception) (gs : List Given) → AllTimely gs → IsHistory (one_by_one (rows_among past gs))
rows-timely past [] t = tt
rows-timely past (g ∷ gs) t =
    go (is_row_answer (answer_to (log_of past) g.reception)) (rows-timely (g.reception ∷ past) gs t.1)
  where
    go : (b : Bool) → IsHistory (one_by_one (rows_among (g.reception ∷ past) gs))
        → IsHistory (one_by_one (cond b (g ∷ rows_among (g.reception ∷ past) gs) (rows_among (g.reception ∷ past) gs)))
    go true ok = (t.0, ok)
    go false ok = ok

module _ {State : Type 0} (view : State → View) where
  pub replies-from : (past : List Reception) {c : State} {h : List Call} {l : List Seen}
      → view c ≡ model_view (log_of past)
      → Good (model_view (log_of past)) → IsHistory h → Shows view c h l
      → replies_in h l ≡ replies_at past (receptions_of h)
  replies-from past {h = h} e g ok t =
      ap (replies_in h) (shows-run view t ∙ ap (λ v. run v h) e ∙ same_run past h g ok) ∙ expected-replies past h

  -- from two states at which the reference model is after the past
  rows-from : (past : List Reception) → Good (model_view (log_of past)) → (h : List Call) → IsHistory h
      → (c d : State) → view c ≡ model_view (log_of past) → view d ≡ model_view (log_of past)
      → (l m : List Seen) (t : Shows view c h l) (u : Shows view d (row_calls past h) m)
      → RowsShown view past h l m (left_by view t) (left_by view u)
  rows-from past g h ok c d from-c from-d l m t u =
      let rows = rows_among past (receptions_of h) in
      let rows_ok : IsHistory (row_calls past h) = rows-timely past (receptions_of h) (history_timely h ok) in
      let b =
      both_runs past past (receptions_of h) (record { thinned = thinned_same (log_of past); newest = λ _. refl }) in
      let whole = log_of (past_by past h) in
      let thin = log_of (past_after past (bare rows)) in
      let left : view (left_by view t) ≡ model_view whole = left-model view past t from-c g ok in
      let alone : view (left_by view u) ≡ model_view thin
      = left-model view past u from-d g rows_ok
      ∙ ap (λ (gs : List Given). model_view (log_of (past_after past (bare gs)))) (receptions-one_by_one rows) in
      record {
        replies =
            ap row_replies (replies-from past from-c g ok t) ∙ b.replies
            ∙ ap (replies_at past) (sym (receptions-one_by_one rows)) ∙ sym (replies-from past from-d g rows_ok u);
        latest = ap (λ (v : View). v.latest) alone ∙ view-latest thin ∙ b.latest;
        openings =
            ap (λ (v : View). map opened_by v.entries) alone ∙ same_openings whole thin b.level.thinned.openings
            ∙ ap (λ (t : ℕ). map opened_by (open_at t whole)) b.latest;
        later =
            views_later whole thin b.level.thinned.openings b.level.thinned.latest
            (view (left_by view t)) (view (left_by view u)) left alone;
        newest = λ e.
            let n = newest-openings whole thin b.level e in (
              ap (λ (v : View). v.latest) alone ∙ n.0 ∙ sym (ap (λ (v : View). v.latest) left),
              ap (λ (v : View). map opened_by v.entries) alone ∙ n.1
                  ∙ sym (ap (λ (v : View). map opened_by v.entries) left),
            );
      }

  fresh_good : Good (model_view (log_of []))
  fresh_good = rw fresh-model at good_fresh

  pub states-rows-alone : StatesRowsAlone view
  states-rows-alone h ok c d from-c from-d l m t u =
      rows-from [] fresh_good h ok c d (from-c ∙ fresh-model) (from-d ∙ fresh-model) l m t u

  pub restored-rows-alone : RestoredRowsAlone view
  restored-rows-alone h g ok ok' c d d' from-c from-d k l m s t n e u =
      let past = past_of h in
      let good : Good (model_view (log_of past)) =
      burst_good [] (bare (receptions_of h)) fresh_good (history_timely h ok) in
      let middle : view (left_by view s) ≡ model_view (log_of past) =
      left-model view [] s (from-c ∙ fresh-model) fresh_good ok in
      let back : ◌≡◌ {A = RestoreResult} (record { number = n; next = view d' })
      (record { number = 0; next = model_view (log_of past) })
      = e ∙ ap₂ (λ (v w : View). restore_of v (image_of w)) from-d middle ∙ restore_image good in (
        ap (λ (q : RestoreResult). q.number) back,
        rows-from past good g ok' (left_by view s) d' middle (ap (λ (q : RestoreResult). q.next) back) l m t u,
      )
