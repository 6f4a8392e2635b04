-- The claims on a record: it reads back; the reference model's numbers fit into it; its length depends on the calls
-- alone; and calls in two parts are one run.
use Rattle.std.specs.Prelude.{◌^◌, ◌<◌, ◌≡◌, List, [], ◌∷◌, ◌++◌, length}
use Rattle.radio_erp1.specs.Subtelegram.{max_length}
use Rattle.radio_telegram.specs.declared.frame.Frame.{Frame}
use Rattle.collector_model.specs.declared.Totals.{Totals}
use Rattle.collector_model.specs.View.{View}
use Rattle.collector_model.specs.Burst.{Replied}
use Rattle.collector_model.specs.History.{Call, Receive, Checkpoint, Restore, Cut, Burst, Ask, Look, IsHistory, run, expected}
use Rattle.collector_model.specs.History.{Seen, Answered, Wrote, Restored, Delivered, Heard, Looked}
use Rattle.history_replay_model.specs.Record.{record_of}
use Rattle.history_replay_model.specs.Replay.{after_calls, size_of_all}

-- ---- the limits that the types of the code give for each thing seen: numbers of 64 bits, and telegrams in 21 bytes

pub record WholeTotals (n : Totals) : Type 0 where
  pub received : n.received < 2 ^ 64
  pub kept : n.kept < 2 ^ 64
  pub copies : n.copies < 2 ^ 64
  pub loose : n.loose < 2 ^ 64
  pub damaged : n.damaged < 2 ^ 64
  pub late : n.late < 2 ^ 64

pub record WholeFrame (f : Frame) : Type 0 where
  pub len : f.len < 2 ^ 64
  pub bytes : length f.bytes ≡ max_length

abbrev pub WholeReplies : List Replied → Type 0
WholeReplies [] = Unit {0}
WholeReplies (r ∷ l) = WholeFrame r.sent × WholeReplies l

-- the limits for one thing seen
abbrev pub WholeSeen : Seen → Type 0
WholeSeen (Answered a sent n) = WholeFrame sent × WholeTotals n
WholeSeen (Wrote number output n) = (length output < 2 ^ 64) × WholeTotals n
WholeSeen (Restored number n) = WholeTotals n
WholeSeen (Delivered number replies n) = (length replies < 2 ^ 64) × WholeReplies replies × WholeTotals n
WholeSeen (Heard number copies n) = (copies < 2 ^ 64) × WholeTotals n
WholeSeen (Looked n) = WholeTotals n

-- the limits for all things seen
abbrev pub AllWhole : List Seen → Type 0
AllWhole [] = Unit {0}
AllWhole (s ∷ l) = WholeSeen s × AllWhole l

-- Reads back: if two lists of things seen differ, their records differ.
abbrev pub RecordReadsBack : Type 0
RecordReadsBack = (l m : List Seen) → AllWhole l → AllWhole m → record_of l ≡ record_of m → l ≡ m

-- ---- the same for each call: outputs and lists shorter than 2^64, and telegrams in 21 bytes in the replies of a burst

-- the limits for a list of calls
abbrev pub OutputsHeld : List Call → Type 0
OutputsHeld [] = Unit {0}
OutputsHeld (Receive setting r ∷ h) = OutputsHeld h
OutputsHeld (Checkpoint output ∷ h) = (length output < 2 ^ 64) × OutputsHeld h
OutputsHeld (Restore image ∷ h) = OutputsHeld h
OutputsHeld (Cut output ∷ h) = (length output < 2 ^ 64) × OutputsHeld h
OutputsHeld (Burst setting rs places ∷ h) = (length places < 2 ^ 64) × WholeReplies places × OutputsHeld h
OutputsHeld (Ask k ∷ h) = OutputsHeld h
OutputsHeld (Look ∷ h) = OutputsHeld h

-- Reference whole: what the reference model says of a history fits into its record, so the record tells all of it.
abbrev pub ReferenceWhole : Type 0
ReferenceWhole = (h : List Call) → IsHistory h → OutputsHeld h → AllWhole (expected [] h)

-- Sized: the calls decide how long the record is, from any state.
abbrev pub RecordSized : Type 0
RecordSized = (v : View) (h : List Call) → length (record_of (run v h)) ≡ size_of_all h

-- In parts: if calls are made in two parts, the second record continues the first, from the state after it.
abbrev pub InParts : Type 0
InParts =
    (v : View) (h g : List Call)
    → record_of (run v (h ++ g)) ≡ record_of (run v h) ++ record_of (run (after_calls v h) g)
