-- Reading answers from the numbers and the bytes of the calls on lent arrays: the inverse of `answer_number` and
-- `reply_bytes`.
use Rattle.std.specs.Prelude.{ℕ, ◌*◌, ◌/◌, ◌%◌, ◌≡◌, cond, List, map, eqb, length, get_or, drop}
use Rattle.base_lists.specs.Lists.{up_from}
use Rattle.base_buffers.specs.Buffer.{part}
use Rattle.collector_model.specs.declared.Totals.{Totals}
use Rattle.collector_model.specs.Answer.{Shown, Kept, Copy, Loose, Refused}
use Rattle.collector_model.specs.View.{Reception, View}
use Rattle.collector_model.specs.Step.{step}
use Rattle.collector_model.specs.Burst.{Replied, reply_with}
use Rattle.c_collector.specs.Calls.{answer_number}
use Rattle.c_burst.specs.Bytes.{reply_length, reply_bytes}

-- "KEPT, COPY and LOOSE are three forms" of 0 (document 01, "Numbers a caller sees")
abbrev pub form_in : ℕ → Shown
form_in kind = cond (eqb kind 0) Kept (cond (eqb kind 1) Copy Loose)

-- an answer by its kind and its number
abbrev pub shown_with : ℕ → ℕ → Shown
shown_with kind number = cond (eqb number 0) (form_in kind) (Refused number)

-- an answer from the one number that `take` returns
abbrev pub shown_in : ℕ → Shown
shown_in n = shown_with (n / 256) (n % 256)

-- an entry of a burst's list of replies, from its 24 bytes
abbrev pub replied_in : List ℕ → Replied
replied_in s = record {
  answer = shown_with (get_or s 0 0) (get_or s 1 0);
  sent = record { len = get_or s 2 0; bytes = drop 3 s };
}

-- all whole entries
unfoldable pub replies_in_places : List ℕ → List Replied
replies_in_places bytes = map (λ i. replied_in (part (reply_length * i) reply_length bytes))
    (up_from 0 (length bytes / reply_length))

-- the six totals
abbrev pub totals_in_values : List ℕ → Totals
totals_in_values values = record {
  received = get_or values 0 0;
  kept = get_or values 1 0;
  copies = get_or values 2 0;
  loose = get_or values 3 0;
  damaged = get_or values 4 0;
  late = get_or values 5 0;
}

-- the number that `take` returns tells the answer
abbrev pub AnswersBack : Type 0
AnswersBack = (v : View) (r : Reception) → shown_in (answer_number (step v r).answer) ≡ (step v r).answer

-- the bytes of a reply tell the reply
abbrev pub RepliesBack : Type 0
RepliesBack =
    (setting : ℕ) (v : View) (r : Reception)
    → replied_in (reply_bytes (reply_with setting (step v r).answer r)) ≡ reply_with setting (step v r).answer r
