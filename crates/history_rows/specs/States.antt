-- Rows alone, in the states of an implementation. They are known only by its contracts, which speak of the view of a
-- state.
use Rattle.std.specs.Prelude.{ℕ, ◌≡◌, Bool, true, false, cond, List, [], ◌∷◌, map}
use Rattle.base_lists.specs.Lists.{keep}
use Rattle.collector_model.specs.View.{Reception, View, opened_by, still_open, fresh}
use Rattle.collector_model.specs.Burst.{Replied}
use Rattle.collector_model.specs.Image.{image_of, restore_of}
use Rattle.collector_model.specs.Reference.{Logged, open_at, latest_of, answer_to, log_of, past_after}
use Rattle.collector_model.specs.History.{Call, Receive, IsHistory, Seen}
use Rattle.collector_model.specs.Division.{Given, receptions_of, past_of, replies_in}
use Rattle.collector_model.specs.States.{Shows, left_by}
use Rattle.history_rows.specs.Rows.{is_row_answer}

-- of the receptions after those of the past, in order, each with its setting: those that the reference model answers
-- KEPT or LOOSE
abbrev pub rows_among : List Reception → List Given → List Given
rows_among past [] = []
rows_among past (g ∷ gs) =
    cond (is_row_answer (answer_to (log_of past) g.reception)) (g ∷ rows_among (g.reception ∷ past) gs)
    (rows_among (g.reception ∷ past) gs)

-- only the rows of calls, each with its own time and setting, one by one
abbrev pub row_calls : List Reception → List Call → List Call
row_calls past h = map (λ g. Receive g.setting g.reception) (rows_among past (receptions_of h))

-- the replies to rows, of all replies
abbrev pub row_replies : List Replied → List Replied
row_replies replies = keep (λ p. is_row_answer p.answer) replies

-- the receptions of the past, and of calls after it
abbrev pub past_by : List Reception → List Call → List Reception
past_by past h = past_after past (map (λ g. g.reception) (receptions_of h))

-- the time of the last of these, or t if there is none
abbrev pub last_time : ℕ → List Given → ℕ
last_time t [] = t
last_time t (g ∷ gs) = last_time g.reception.time gs

-- the newest reception is a row
abbrev pub ends_in_row : List Logged → Bool
ends_in_row [] = false
ends_in_row (e ∷ log) = is_row_answer e.answer

module _ {State : Type 0} (view : State → View) where
  -- what calls after the past show agrees with what their rows alone show, and so do the states after both
  pub record RowsShown (past : List Reception) (h : List Call) (l m : List Seen) (left alone : State) : Type 0 where
    -- the same answers, with the same telegrams to send
    pub replies : row_replies (replies_in h l) ≡ replies_in (row_calls past h) m
    -- the latest time is that of the last row
    pub latest : (view alone).latest ≡ last_time (latest_of (log_of past)) (rows_among past (receptions_of h))
    -- the telegrams that the whole history has open at that time, without their copies
    pub openings : map opened_by (view alone).entries
        ≡ map opened_by
        (open_at (last_time (latest_of (log_of past)) (rows_among past (receptions_of h))) (log_of (past_by past h)))
    -- those of them that are still open when the whole history has ended are the entries of its state
    pub later : map opened_by (still_open (view left).latest (view alone)) ≡ map opened_by (view left).entries
    -- if the history ends with a row, all of them are, and the latest times are equal
    pub newest : ends_in_row (log_of (past_by past h)) ≡ true
        → ((view alone).latest ≡ (view left).latest) × (map opened_by (view alone).entries ≡ map opened_by (view left).entries)

  -- THE CLAIM, from a fresh collector: a history, and its rows alone
  abbrev pub StatesRowsAlone : Type 0
  StatesRowsAlone =
      (h : List Call) → IsHistory h → (c d : State) → view c ≡ fresh → view d ≡ fresh
      → (l m : List Seen) (t : Shows view c h l) (u : Shows view d (row_calls [] h) m)
      → RowsShown [] h l m (left_by view t) (left_by view u)

  -- THE CLAIM, from the middle: c takes a history h, and then g. A fresh d restores the image after h and becomes d'.
  -- It is handed only the rows of g.
  abbrev pub RestoredRowsAlone : Type 0
  RestoredRowsAlone =
      (h g : List Call) → IsHistory h → IsHistory g
      → (c d d' : State) → view c ≡ fresh → view d ≡ fresh
      → (k l m : List Seen) (s : Shows view c h k) (t : Shows view (left_by view s) g l)
      → (n : ℕ) → record { number = n; next = view d' } ≡ restore_of (view d) (image_of (view (left_by view s)))
      → (u : Shows view d' (row_calls (past_of h) g) m)
      → (n ≡ 0) × RowsShown (past_of h) g l m (left_by view t) (left_by view u)
