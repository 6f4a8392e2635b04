-- The rows of a history alone, from fresh and from the middle.
use mathlib.Core.Path.{◌≡◌, refl, sym, ◌∙◌, ap, ap₂}
use mathlib.Core.Bool.{Bool, true, false}
use mathlib.Core.List.{List, [], ◌∷◌, ◌++◌, map, append-nil}
use Rattle.collector_model.specs.Answer.{Shown}
use Rattle.collector_model.specs.View.{Reception, opened_by}
use Rattle.collector_model.specs.Reference.{Logged, open_at, answer_to, log_of}
use Rattle.history_rows.specs.Rows.{is_row_answer, log_since, rows_in_log, alone, RowsAlone, RowsAloneSince}
use Rattle.history_rows.proofs.Thinned.{Thinned, thinned_same, thinned_open, thinned_answer, thinned_row, thinned_other}

-- both at once: the runs keep step
record Kept (past more : List Reception) : Type 0 where
  answers : rows_in_log (log_since past more) ≡ log_since past (alone (log_since past more))
  thinned : Thinned (log_of (more ++ past)) (log_of (alone (log_since past more) ++ past))

kept : (past more : List Reception) → Kept past more
kept past [] = record { answers = refl; thinned = thinned_same (log_of past) }
kept past (r ∷ more) = go (is_row_answer (answer_to (log_of (more ++ past)) r)) refl (kept past more)
  where
    go : (b : Bool) → is_row_answer (answer_to (log_of (more ++ past)) r) ≡ b → Kept past more → Kept past (r ∷ more)
    go true is k =
        let a : answer_to (log_of (more ++ past)) r ≡ answer_to (log_of (alone (log_since past more) ++ past)) r
        = thinned_answer (log_of (more ++ past)) (log_of (alone (log_since past more) ++ past)) k.thinned r is in
        record {
          answers =
              rw is (ap₂ (λ (s : Shown) (l : List Logged). record { reception = r; answer = s } ∷ l) a k.answers);
          thinned =
              rw is
              (thinned_row (log_of (more ++ past)) (log_of (alone (log_since past more) ++ past)) k.thinned r is);
        }
    go false is k = record {
      answers = rw is k.answers;
      thinned =
          rw is
          (thinned_other (log_of (more ++ past)) (log_of (alone (log_since past more) ++ past))
          k.thinned r (answer_to (log_of (more ++ past)) r) is);
    }

pub rows_thinned : (past more : List Reception)
    → Thinned (log_of (more ++ past)) (log_of (alone (log_since past more) ++ past))
rows_thinned past more = (kept past more).thinned

pub rows-alone_since : RowsAloneSince
rows-alone_since past more =
    let k = kept past more in
    record {
      answers = k.answers;
      openings = thinned_open (log_of (more ++ past)) (log_of (alone (log_since past more) ++ past)) k.thinned;
    }

log_since_none : (past : List Reception) → log_since [] past ≡ log_of past
log_since_none [] = refl
log_since_none (r ∷ past) =
    ap₂ (λ (p : List Reception) (l : List Logged). record { reception = r; answer = answer_to (log_of p) r } ∷ l)
    (append-nil past) (log_since_none past)

-- before all receptions the middle is the beginning
pub rows-alone : RowsAlone
rows-alone past =
    let k = rows-alone_since [] past in
    let e = log_since_none past in
    record {
      answers =
          ap rows_in_log (sym e) ∙ k.answers ∙ log_since_none (alone (log_since [] past))
          ∙ ap (λ (l : List Logged). log_of (alone l)) e;
      openings = λ t.
          ap (λ (p : List Reception). map opened_by (open_at t (log_of p))) (sym (append-nil past)) ∙ k.openings t
          ∙ ap (λ (p : List Reception). map opened_by (open_at t (log_of p))) (append-nil (alone (log_since [] past)))
          ∙ ap (λ (l : List Logged). map opened_by (open_at t (log_of (alone l)))) e;
    }
