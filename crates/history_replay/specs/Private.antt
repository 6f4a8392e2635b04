-- What the contracts of private functions say.
use Rattle.std.specs.Prelude.{ℕ, ◌≡◌, List, [], ◌∷◌, ◌++◌, get_or, take}
use Rattle.radio_erp1.specs.Subtelegram.{max_length}
use Rattle.radio_telegram.specs.declared.frame.Frame.{Frame}
use Rattle.base_buffers.specs.Buffer.{part, resized}
use Rattle.block_layout.specs.BigEndian.{be}
use Rattle.collector_model.specs.View.{View, Reception}
use Rattle.collector_model.specs.Image.{checkpoint_of}
use Rattle.collector_model.specs.Burst.{Replied, burst_of}
use Rattle.collector_model.specs.History.{Call, Burst, Seen, Wrote, run}
use Rattle.collector_state.specs.declared.Collector.{Collector}
use Rattle.collector_state.specs.Collector.{view_of, next_in}
use Rattle.collector_burst.specs.declared.Within.{Within}
use Rattle.collector_burst.specs.Records.{bursted_of}
use Rattle.c_collector.specs.State.{Arrays, state_at, arrays_of}
use Rattle.history_calls.specs.Answers.{replies_in_places}
use Rattle.history_calls.specs.Elements.{arrays_after}
use Rattle.history_replay_model.specs.Record.{record_of}
use Rattle.history_replay_model.specs.Replay.{after_call}

-- one call: its part of the record fills the output, and every element of the arrays after the call is known
pub record Called (s : Arrays) (k : Call) (exit : List ℕ) (s' : Arrays) : Type 0 where
  pub bytes : exit ≡ record_of (run (state_at s) (k ∷ []))
  pub state : state_at s' ≡ after_call (state_at s) k
  pub elements : s' ≡ arrays_after s k

-- what is seen of a checkpoint
abbrev pub wrote_of : View → List ℕ → Seen
wrote_of v output = Wrote (checkpoint_of v output).number (checkpoint_of v output).output v.totals

-- the bytes of a reply, from the form and the number of its answer
abbrev pub reply_cell : ℕ → ℕ → Frame → List ℕ
reply_cell form number sent = (form ∷ number ∷ []) ++ be 8 sent.len ++ resized max_length sent.bytes

-- ---- the lists of a burst, as they are lent to the library's call

-- the frame of a reception: its length, and 21 bytes
abbrev pub frame_in : List ℕ → List ℕ
frame_in r = get_or r 9 0 ∷ part 10 max_length r

-- an entry of the list of replies before the burst
abbrev pub place_bytes : List ℕ → List ℕ
place_bytes r = get_or r 25 0 ∷ 0 ∷ get_or r 26 0 ∷ part 27 max_length r

-- a burst of these receptions, with the list of replies before and after it
pub record BurstMade (s : Arrays) (setting : ℕ) (rs : List Reception) (old : List ℕ) (n : ℕ) (s' : Arrays) (new : List ℕ) : Type 0 where
  pub result : record { number = n; replies = replies_in_places new; next = state_at s' }
      ≡ burst_of setting (state_at s) rs (replies_in_places old)
  pub elements : s' ≡ arrays_after s (Burst setting rs (replies_in_places old))

-- the same by value, with the first m entries
pub record BurstGiven (c : Collector) (setting : ℕ) (rs : List Reception) (places : List Replied) (m : ℕ) (w : Within) : Type 0 where
  pub result : bursted_of c w.bursted (take m w.replies) ≡ burst_of setting (view_of c) rs places
  pub elements : arrays_of (next_in c w.bursted) ≡ arrays_after (arrays_of c) (Burst setting rs places)
