-- Rows are handed over again, for a recovery without a log. The state is an image from the middle of a history. The
-- archive has rows of receptions that came after it.
use Rattle.std.specs.Prelude.{ℕ, ◌<◌, ◌^◌, ◌≡◌, Bool, true, cond, ◌&&◌, List, [], ◌∷◌, ◌++◌, map, leb, ltb, length, take}
use Rattle.base_lists.specs.Lists.{all}
use Rattle.radio_erp1.specs.Subtelegram.{is_valid}
use Rattle.collector_model.specs.View.{Reception, View, opened_by, fresh}
use Rattle.collector_model.specs.Step.{step}
use Rattle.collector_model.specs.Burst.{after_all}
use Rattle.collector_model.specs.Image.{image_of, restore_of}
use Rattle.collector_model.specs.Reference.{Logged, open_at, latest_of, log_of}
use Rattle.collector_model.specs.History.{Timely}
use Rattle.history_rows.specs.Rows.{is_row_answer, log_since, alone}

-- the rows that a collector gives for receptions, which are handed over oldest first: each reception that is answered
-- KEPT or LOOSE, with its answer
abbrev pub logged_rows_from : View → List Reception → List Logged
logged_rows_from v [] = []
logged_rows_from v (r ∷ rs) =
    let o = step v r in
    cond (is_row_answer o.answer) (record { reception = r; answer = o.answer } ∷ logged_rows_from o.next rs)
    (logged_rows_from o.next rs)

-- each row fits an archive: a valid subtelegram, and a time below 2^64
abbrev pub is_fit_reception : Logged → Bool
is_fit_reception e = is_valid e.reception.bytes && ltb e.reception.time (2 ^ 64)

-- Rows fit: this holds for the rows of every collector, if the times of the receptions are below 2^64.
abbrev pub RowsFit : Type 0
RowsFit = (v : View) (rs : List Reception) → Timely rs → all is_fit_reception (logged_rows_from v rs) ≡ true

-- First rows: the first j rows of some receptions are the rows of the first k of them. So if a crash left j rows, it
-- could have come after k receptions.
abbrev pub FirstRows : Type 0
FirstRows = (v : View) (rs : List Reception) (j : ℕ)
    → (k : ℕ) × (logged_rows_from v (take k rs) ≡ take j (logged_rows_from v rs))

-- Given again: a collector takes `first`, then `more`. The image is from between. Of the rows since then, an archive
-- has the first j. A fresh collector restores the image and is handed these rows: each is a row again, with the same
-- answer.
pub record Again (first more : List Reception) (j : ℕ) : Type 0 where
  pub number : (restore_of fresh (image_of (after_all fresh first))).number ≡ 0
  pub rows :
      logged_rows_from (restore_of fresh (image_of (after_all fresh first))).next (map (λ e. e.reception) (take j (logged_rows_from (after_all fresh first) more)))
      ≡ take j (logged_rows_from (after_all fresh first) more)

abbrev pub GivenAgain : Type 0
GivenAgain = (first more : List Reception) → Timely first → Timely more → (j : ℕ) → Again first more j

-- Goes on: then it continues as the first collector would have, if no reception is earlier than that one's latest time
-- (which a copy that was left out may have set). Every answer is the same, also COPY, damaged and late ones, and so are
-- the openings. Lists are newest first.
pub record GoneOn (past more next : List Reception) : Type 0 where
  pub answers : log_since (more ++ past) next ≡ log_since (alone (log_since past more) ++ past) next
  pub openings : (t : ℕ)
      → map opened_by (open_at t (log_of (next ++ (more ++ past)))) ≡ map opened_by (open_at t (log_of (next ++ (alone (log_since past more) ++ past))))

abbrev pub RowsGoOn : Type 0
RowsGoOn =
    (past more next : List Reception) → length (next ++ (more ++ past)) < 2 ^ 64
    → all (λ r. leb (latest_of (log_of (more ++ past))) r.time) next ≡ true
    → GoneOn past more next
