-- The bytes of what is seen in calls: a cell for each thing seen (document 01, "Compared are ..").
use Rattle.std.specs.Prelude.{ℕ, length}
use mathlib.Core.List.{List, [], ◌∷◌, ◌++◌, map, flatten}
use Rattle.radio_erp1.specs.Subtelegram.{max_length}
use Rattle.base_buffers.specs.Buffer.{resized}
use Rattle.block_layout.specs.BigEndian.{be}
use Rattle.collector_model.specs.declared.Totals.{Totals}
use Rattle.collector_model.specs.Answer.{Shown, Kept, Copy, Loose, Refused, shown_number}
use Rattle.collector_model.specs.Burst.{Replied}
use Rattle.collector_model.specs.History.{Seen, Answered, Wrote, Restored, Delivered, Heard, Looked}
use Rattle.history_replay_model.specs.Operation.{looking, receiving, saving, restoring, delivering, asking}

-- ---- the parts of a cell

-- the length of the head
abbrev pub head_length : ℕ
head_length = 50

-- the operation, the number that a caller sees, and the six totals
unfoldable pub head_of : ℕ → ℕ → Totals → List ℕ
head_of operation number n =
    (operation ∷ number ∷ []) ++ be 8 n.received ++ be 8 n.kept ++ be 8 n.copies
    ++ be 8 n.loose ++ be 8 n.damaged ++ be 8 n.late

-- the length in front of a list
abbrev pub count_length : ℕ
count_length = 8

-- "KEPT, COPY and LOOSE are three forms" of 0
abbrev pub form_of : Shown → ℕ
form_of Kept = 0
form_of Copy = 1
form_of Loose = 2
form_of (Refused n) = 3

-- the length of a reply
abbrev pub recorded_reply_length : ℕ
recorded_reply_length = 31

-- the form and the number of an answer, and the telegram to send: its length, and its 21 bytes
unfoldable pub reply_of : Replied → List ℕ
reply_of r =
    (form_of r.answer ∷ shown_number r.answer ∷ []) ++ be 8 r.sent.len ++ resized max_length r.sent.bytes

-- ---- the cells

-- after the head, a reception has its reply, a checkpoint every byte of its output, a burst every entry of its list of
-- replies, and an ask the copies
unfoldable pub seen_bytes : Seen → List ℕ
seen_bytes (Answered a sent n) = head_of receiving (shown_number a) n ++ reply_of (record { answer = a; sent = sent })
seen_bytes (Wrote number output n) = head_of saving number n ++ be 8 (length output) ++ output
seen_bytes (Restored number n) = head_of restoring number n
seen_bytes (Delivered number replies n) =
    head_of delivering number n ++ be 8 (length replies) ++ flatten (map reply_of replies)
seen_bytes (Heard number copies n) = head_of asking number n ++ be 8 copies
seen_bytes (Looked n) = head_of looking 0 n

-- the record of all things seen
unfoldable pub record_of : List Seen → List ℕ
record_of l = flatten (map seen_bytes l)
