-- What a replay of calls ensures: it writes the record of what a collector shows, which is what the reference model
-- says (document 01, "One history, and the clerk who writes it down"); and every element of the collector's arrays is
-- known.
use Rattle.std.specs.Prelude.{ℕ, ◌≡◌, List, []}
use Rattle.base_refusal.specs.Number.{outcome_number}
use Rattle.radio_telegram.specs.Output.{Result}
use Rattle.collector_model.specs.History.{Call, IsHistory, run, expected, uncut, common}
use Rattle.c_collector.specs.State.{Arrays, state_at}
use Rattle.history_calls.specs.Elements.{fresh_arrays, arrays_after_all}
use Rattle.history_replay_model.specs.Record.{record_of}
use Rattle.history_replay_model.specs.Replay.{after_calls, put_record, made_by}
use Rattle.history_replay.specs.declared.Replayed.{Replayed}

-- the number, how many bytes are written, and every byte of the output after the call
abbrev pub replayed_of : Replayed → List ℕ → Result
replayed_of r output = record { number = outcome_number r.answer; len = r.written; output = output }

-- calls from any state: the record of what a collector shows, the state after the calls, and every element of its
-- arrays
pub record Resumes (s : Arrays) (h : List Call) (entry exit : List ℕ) (r : Replayed) (s' : Arrays) : Type 0 where
  pub result : replayed_of r exit ≡ put_record (record_of (run (state_at s) h)) entry
  pub state : state_at s' ≡ after_calls (state_at s) (made_by (outcome_number r.answer) h)
  pub elements : s' ≡ arrays_after_all s (made_by (outcome_number r.answer) h)

-- THE CLAIM on the code: from a collector started fresh it writes what a collector shows, for any calls. For a history,
-- that is what the reference model says. For the uncut list of a history it is the same, without the number of each
-- restore.
pub record Replays (h : List Call) (entry exit : List ℕ) (r : Replayed) (s' : Arrays) : Type 0 where
  pub shown : Resumes fresh_arrays h entry exit r s'
  pub reference : IsHistory h → replayed_of r exit ≡ put_record (record_of (expected [] h)) entry
  pub uncut_run : (g : List Call) → IsHistory g → h ≡ uncut g
      → replayed_of r exit ≡ put_record (record_of (common (expected [] g))) entry
