-- Rows alone: the receptions of a history that are answered KEPT or LOOSE decide its openings. If every other reception
-- is left out, these get the same answers and leave the same telegrams open, each with its bytes and its time. Only the
-- numbers of copies differ. Receptions and log are newest first, as in specs/Reference of collector_model.
use Rattle.std.specs.Prelude.{ℕ, ◌≡◌, Bool, ◌||◌, List, [], ◌∷◌, ◌++◌, map}
use Rattle.base_lists.specs.Lists.{keep}
use Rattle.collector_model.specs.Answer.{Shown, is_kept, is_loose}
use Rattle.collector_model.specs.View.{Reception, opened_by}
use Rattle.collector_model.specs.Reference.{Logged, open_at, answer_to, log_of}

-- "KEPT or LOOSE": a row of an archive (document 02, A2)
abbrev pub is_row_answer : Shown → Bool
is_row_answer a = is_kept a || is_loose a

-- the log of the reference model for receptions that are handed over after those of the past
abbrev pub log_since : List Reception → List Reception → List Logged
log_since past [] = []
log_since past (r ∷ more) = record { reception = r; answer = answer_to (log_of (more ++ past)) r } ∷ log_since past more

-- its rows
abbrev pub rows_in_log : List Logged → List Logged
rows_in_log log = keep (λ e. is_row_answer e.answer) log

-- the receptions of its rows, without every other one
abbrev pub alone : List Logged → List Reception
alone log = map (λ e. e.reception) (rows_in_log log)

-- THE CLAIM, from a fresh collector: the rows get the same answers, in order; and at every time the same telegrams are
-- open
pub record RowsOnly (past : List Reception) : Type 0 where
  pub answers : rows_in_log (log_of past) ≡ log_of (alone (log_of past))
  pub openings : (t : ℕ) → map opened_by (open_at t (log_of past)) ≡ map opened_by (open_at t (log_of (alone (log_of past))))

-- Rows alone: this holds after any receptions.
abbrev pub RowsAlone : Type 0
RowsAlone = (past : List Reception) → RowsOnly past

-- THE CLAIM, from the middle: all receptions of the past are handed over, and of those after them only the rows
pub record RowsSince (past more : List Reception) : Type 0 where
  pub answers : rows_in_log (log_since past more) ≡ log_since past (alone (log_since past more))
  pub openings : (t : ℕ)
      → map opened_by (open_at t (log_of (more ++ past))) ≡ map opened_by (open_at t (log_of (alone (log_since past more) ++ past)))

-- Rows alone since: this holds for any past and any receptions after it.
abbrev pub RowsAloneSince : Type 0
RowsAloneSince = (past more : List Reception) → RowsSince past more
