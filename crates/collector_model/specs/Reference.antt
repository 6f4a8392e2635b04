-- The reference model, document 01's clerk ("One history, and the clerk who writes it down"). It is fed the receptions
-- in order, and nothing else. It keeps them all, each with the answer that it gave. Receptions and log are newest
-- first.
use Rattle.std.specs.Prelude.{ℕ, ◌+◌, max, Bool, cond, not, ◌&&◌, List, [], ◌∷◌, ◌++◌, map, leb, ltb, length, drop, get_or}
use Rattle.base_lists.specs.Lists.{keep, any, count}
use Rattle.base_refusal.specs.Number.{number_of}
use Rattle.base_refusal.specs.declared.Refusal.TheVariants as refusal
use Rattle.radio_erp1.specs.Subtelegram.{check_of, is_valid}
use Rattle.radio_telegram.specs.declared.frame.Frame.{Frame}
use Rattle.radio_telegram.specs.Frame.{frame_of}
use Rattle.radio_telegram.specs.Repeater.{repeat_of}
use Rattle.collector_model.specs.declared.Totals.{Totals}
use Rattle.collector_model.specs.Answer.{Shown, Kept, Copy, Loose, Refused, is_kept, is_copy, is_loose, is_damaged, is_late, is_received, is_accepted}
use Rattle.collector_model.specs.View.{Reception, Entry, View, opened, recount, capacity, capped, is_open}
use Rattle.collector_model.specs.Acceptable.{is_copy_of}
use Rattle.collector_model.specs.Step.{max_count, credit}
use Rattle.collector_model.specs.Burst.{Replied}
use Rattle.collector_model.specs.Heard.{HeardResult, copies_in}
use Rattle.collector_model.specs.Image.{CheckpointResult, image_length, image_of}

-- a reception, and the answer that it got
pub record Logged : Type 0 where
  pub reception : Reception
  pub answer : Shown

-- how many got such an answer
abbrev pub answers : (Shown → Bool) → List Logged → ℕ
answers p log = count (λ e. p e.answer) log

-- "His totals count his own answers, as under Merging."
unfoldable pub totals_of : List Logged → Totals
totals_of log = record {
  received = answers is_received log;
  kept = answers is_kept log;
  copies = answers is_copy log;
  loose = answers is_loose log;
  damaged = answers is_damaged log;
  late = answers is_late log;
}

-- "one that he answered KEPT is the same telegram and has a time f with t - f <= 100", unless r is an original too late
-- to be a copy of it (document 02, A6)
abbrev pub is_open_copy : Reception → Entry → Bool
is_open_copy r e = is_open r.time e && is_copy_of e r

-- the telegrams opened so far, each with "the number of his own COPY answers for that opening" (document 02, A8), after
-- one more answer. A Copy counts for the last telegram that it is a copy of.
abbrev pub kept_after : List Entry → Reception → Shown → List Entry
kept_after l r Kept = l ++ (opened r ∷ [])
kept_after l r Copy = credit (λ n. n + 1) (is_open_copy r) l
kept_after l r Loose = l
kept_after l r (Refused n) = l

-- the receptions answered Kept, in the order handed over, with their numbers of copies
abbrev pub kept_of : List Logged → List Entry
kept_of [] = []
kept_of (e ∷ log) = kept_after (kept_of log) e.reception e.answer

-- those of them with t - f <= 100
abbrev pub open_at : ℕ → List Logged → List Entry
open_at t log = keep (is_open t) (kept_of log)

-- "one before it that he answered KEPT, COPY or LOOSE has a time above t"
abbrev pub is_behind : ℕ → List Logged → Bool
is_behind t log = any (λ e. is_accepted e.answer && ltb t e.reception.time) log

-- the answer to the next reception, "the first that fits"; the receptions with "another answer than 8" are those that
-- `is_received` counts
unfoldable pub answer_to : List Logged → Reception → Shown
answer_to log r =
    cond (leb max_count (answers is_received log)) (Refused (number_of refusal.Full))
    (cond (not (is_valid r.bytes)) (Refused (check_of r.bytes))
    (cond (is_behind r.time log) (Refused (number_of refusal.Late))
    (cond (any (λ e. is_copy_of e r) (open_at r.time log)) Copy
    (cond (leb capacity (length (open_at r.time log))) Loose
    Kept))))

-- "With KEPT goes what the repeater step sends at the setting; with all else, nothing.": the setting is the caller's
-- (document 02, A7)
abbrev pub sent_with : ℕ → Shown → Reception → Frame
sent_with setting Kept r = frame_of (repeat_of setting r.bytes)
sent_with setting Copy r = frame_of []
sent_with setting Loose r = frame_of []
sent_with setting (Refused n) r = frame_of []

-- the receptions so far, each with the answer given to it
abbrev pub log_of : List Reception → List Logged
log_of [] = []
log_of (r ∷ past) = record { reception = r; answer = answer_to (log_of past) r } ∷ log_of past

-- "the greatest that he answered KEPT, COPY or LOOSE, 0 if none"
abbrev pub latest_of : List Logged → ℕ
latest_of [] = 0
latest_of (e ∷ log) = cond (is_accepted e.answer) (max e.reception.time (latest_of log)) (latest_of log)

-- the view in the model's image: "those he answered KEPT with latest - f <= 100, in the order handed over", the numbers
-- "to the same ceiling"
unfoldable pub model_view : List Logged → View
model_view log = record {
  latest = latest_of log;
  totals = totals_of log;
  entries = map (recount capped) (open_at (latest_of log) log);
}

-- the model's answer on the copies of telegram k, of those that are open at the latest time, in the order handed over;
-- 10 if there is no telegram k
unfoldable pub heard_by : List Logged → ℕ → HeardResult
heard_by log k =
    let counts = copies_in (open_at (latest_of log) log) in
    cond (ltb k (length counts)) (record { number = 0; copies = capped (get_or counts k 0) })
    (record { number = number_of refusal.Argument; copies = 0 })

-- the model's answer to a checkpoint into an output: 6 if it is too short, else the model's image at the front of the
-- output, and the rest unchanged
unfoldable pub saved_by : List Logged → List ℕ → CheckpointResult
saved_by log output =
    cond (ltb (length output) image_length) (record { number = number_of refusal.ShortOutput; output = output })
    (record { number = 0; output = image_of (model_view log) ++ drop image_length output })

-- all receptions, newest first, after those of a burst, oldest first, were fed to the model one by one (document 02,
-- A1)
abbrev pub past_after : List Reception → List Reception → List Reception
past_after past [] = past
past_after past (r ∷ rs) = past_after (r ∷ past) rs

-- the reply to each reception of a burst
abbrev pub replies_by : ℕ → List Reception → List Reception → List Replied
replies_by setting past [] = []
replies_by setting past (r ∷ rs) =
    let a = answer_to (log_of past) r in
    record { answer = a; sent = sent_with setting a r } ∷ replies_by setting (r ∷ past) rs
