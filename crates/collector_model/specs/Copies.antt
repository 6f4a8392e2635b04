-- The meaning of the numbers of copies (document 02, A8).
use Rattle.std.specs.Prelude.{ℕ, ◌+◌, ◌-◌, ◌<◌, ◌≡◌, true, ◌&&◌, List, [], ◌∷◌, map, leb, eqb, length}
use Rattle.base_lists.specs.Lists.{all, up_from, last_index}
use Rattle.radio_erp1.specs.Subtelegram.{sum_of}
use Rattle.collector_model.specs.Answer.{is_copy}
use Rattle.collector_model.specs.View.{Reception, Entry, View, opened_by, ceiling, capped}
use Rattle.collector_model.specs.Acceptable.{acceptable}
use Rattle.collector_model.specs.Step.{plus_if}
use Rattle.collector_model.specs.Heard.{copies_in}
use Rattle.collector_model.specs.Reference.{Logged, is_open_copy, kept_of, latest_of, open_at, log_of, totals_of, model_view, heard_by}

-- ---- the reference model's numbers are counts of its answers

-- which opening a reception is a copy of: the last open telegram that it is a copy of, by its index among all ever
-- opened
abbrev pub opening_of : List Logged → Reception → ℕ
opening_of log r = last_index (is_open_copy r) (kept_of log)

-- "the COPY answers for that opening in the history"
abbrev pub copy_answers : ℕ → List Logged → ℕ
copy_answers n [] = 0
copy_answers n (e ∷ log) = plus_if (is_copy e.answer && eqb n (opening_of log e.reception)) (copy_answers n log)

-- for every telegram ever opened, also closed ones, the number of copies is the number of COPY answers for it
abbrev pub NumbersAreAnswers : Type 0
NumbersAreAnswers =
    (past : List Reception)
    → copies_in (kept_of (log_of past)) ≡ map (λ n. copy_answers n (log_of past)) (up_from 0 (length (kept_of (log_of past))))

-- each COPY is counted for exactly one opening: the numbers sum to the total of copies
abbrev pub EachCountedOnce : Type 0
EachCountedOnce = (past : List Reception) → sum_of (copies_in (kept_of (log_of past))) ≡ (totals_of (log_of past)).copies

-- how many of the telegrams ever opened are closed; the open ones are the last of them
abbrev pub closed_count : List Logged → ℕ
closed_count log = length (kept_of log) - length (open_at (latest_of log) log)

-- for telegram k of the open ones, the answer is the number of COPY answers for it, up to the ceiling
abbrev pub HeardIsAnswers : Type 0
HeardIsAnswers =
    (past : List Reception) (k : ℕ) → k < length (open_at (latest_of (log_of past)) (log_of past))
    → heard_by (log_of past) k
    ≡ record { number = 0; copies = capped (copy_answers (closed_count (log_of past) + k) (log_of past)) }

-- "with no telegram reaching the ceiling": then nothing is cut off
abbrev pub BelowCeiling : Type 0
BelowCeiling =
    (past : List Reception)
    → all (λ e. leb e.copies ceiling) (open_at (latest_of (log_of past)) (log_of past)) ≡ true
    → (model_view (log_of past)).entries ≡ open_at (latest_of (log_of past)) (log_of past)

-- ---- "any value there accepted on reload"

-- if two views differ only in their numbers of copies, both are acceptable or neither is
abbrev pub AnyNumber : Type 0
AnyNumber = (v : View) (l : List Entry) → map opened_by l ≡ map opened_by v.entries
    → acceptable (record { latest = v.latest; totals = v.totals; entries = l }) ≡ acceptable v
