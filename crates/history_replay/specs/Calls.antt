-- The calls in lent bytes: records of 64 bytes. The bytes of images and the receptions of bursts are lent separately.
-- Byte 0 is the operation. A number has eight bytes.
use Rattle.std.specs.Prelude.{ℕ, ◌*◌, ◌/◌, min, cond, List, map, eqb, length, get_or, take, replicate}
use Rattle.base_lists.specs.Lists.{up_from}
use Rattle.radio_erp1.specs.Subtelegram.{max_length}
use Rattle.base_buffers.specs.Buffer.{part, resized}
use Rattle.block_layout.specs.BigEndian.{unbe}
use Rattle.collector_model.specs.View.{Reception}
use Rattle.collector_model.specs.Burst.{Replied}
use Rattle.collector_model.specs.History.{Call, Receive, Checkpoint, Restore, Cut, Burst, Ask, Look}
use Rattle.collector_burst.specs.Records.{listed}
use Rattle.history_calls.specs.Answers.{form_in}
use Rattle.history_replay_model.specs.Operation.{receiving, saving, cutting, restoring, delivering, asking}

-- the length of a record
abbrev pub call_length : ℕ
call_length = 64

-- record i
abbrev pub record_at : List ℕ → ℕ → List ℕ
record_at records i = part (call_length * i) call_length records

-- the number in the eight bytes from a on
unfoldable pub number_at : ℕ → List ℕ → ℕ
number_at a r = unbe (part a 8 r)

-- ---- the record of each call

-- the caller's setting, in the last byte
abbrev pub call_setting : List ℕ → ℕ
call_setting r = get_or r 63 0

-- a reception: the time in 1 to 8, a length in 9, and that many of the 53 bytes from 10 on
abbrev pub call_reception : List ℕ → Reception
call_reception r = record { bytes = take (get_or r 9 0) (part 10 53 r); time = number_at 1 r }

-- an output: its length in 1 to 8, at most 4,096; each of its bytes has the value in 9
abbrev pub max_output : ℕ
max_output = 4096

abbrev pub output_in : List ℕ → List ℕ
output_in r = replicate (min (number_at 1 r) max_output) (get_or r 9 0)

-- bytes that are lent separately: where they start in 1 to 8, and how many there are in 9 to 16, or all that there are
abbrev pub lent_in : List ℕ → List ℕ → List ℕ
lent_in lent r = part (number_at 1 r) (number_at 9 r) lent

-- a reception of a burst: like that of a record, but with 21 bytes, as many as its length says. A length over 21 gives
-- a list of that length.
abbrev pub burst_reception_in : List ℕ → Reception
burst_reception_in r = record { bytes = resized (get_or r 9 0) (part 10 max_length r); time = number_at 1 r }

-- how many whole records there are, up to the length of a list that is held by value
abbrev pub record_count : List ℕ → ℕ
record_count bytes = min (length bytes / call_length) listed

-- the receptions of a burst, from its records
unfoldable pub burst_receptions_in : List ℕ → List Reception
burst_receptions_in bytes = map (λ (i : ℕ). burst_reception_in (record_at bytes i)) (up_from 0 (record_count bytes))

-- what each entry of the list of replies holds before a burst: the form of an answer in 25, the length of a telegram in
-- 26, and its bytes from 27 on
abbrev pub place_in : List ℕ → Replied
place_in r = record { answer = form_in (get_or r 25 0); sent = record { len = get_or r 26 0; bytes = part 27 max_length r } }

-- the list of replies before a burst; its length is in 17 to 24
abbrev pub places_in : List ℕ → List Replied
places_in r = replicate (min (number_at 17 r) listed) (place_in r)

-- an ask: the entry in 1 to 8, counted from 0
abbrev pub asked_entry : List ℕ → ℕ
asked_entry r = number_at 1 r

-- ---- the calls

-- byte 0 says which call it is
unfoldable pub call_in : List ℕ → List ℕ → Call
call_in lent r =
    cond (eqb (get_or r 0 0) receiving) (Receive (call_setting r) (call_reception r))
    (cond (eqb (get_or r 0 0) saving) (Checkpoint (output_in r))
    (cond (eqb (get_or r 0 0) cutting) (Cut (output_in r))
    (cond (eqb (get_or r 0 0) restoring) (Restore (lent_in lent r))
    (cond (eqb (get_or r 0 0) delivering) (Burst (call_setting r) (burst_receptions_in (lent_in lent r)) (places_in r))
    (cond (eqb (get_or r 0 0) asking) (Ask (asked_entry r))
    Look)))))

-- the calls of all whole records
unfoldable pub calls_in : List ℕ → List ℕ → List Call
calls_in lent calls = map (λ (i : ℕ). call_in lent (record_at calls i)) (up_from 0 (length calls / call_length))
