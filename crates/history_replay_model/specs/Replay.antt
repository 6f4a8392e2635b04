-- A replay of calls: the record that it writes into an output, and the state after it.
use Rattle.std.specs.Prelude.{ℕ, ◌+◌, ◌*◌, cond, List, [], ◌∷◌, ltb, eqb, length, take}
use Rattle.base_refusal.specs.Number.{number_of}
use Rattle.base_refusal.specs.declared.Refusal.TheVariants.{ShortOutput}
use Rattle.radio_telegram.specs.Output.{Result, refused, written}
use Rattle.collector_model.specs.View.{View, fresh}
use Rattle.collector_model.specs.Step.{step}
use Rattle.collector_model.specs.Image.{image_length, checkpoint_of, restore_of}
use Rattle.collector_model.specs.Burst.{burst_of}
use Rattle.collector_model.specs.History.{Call, Receive, Checkpoint, Restore, Cut, Burst, Ask, Look}
use Rattle.history_replay_model.specs.Record.{head_length, count_length, recorded_reply_length}

-- the state after a call: "each call gets the state that the one before returned"
abbrev pub after_call : View → Call → View
after_call v (Receive setting r) = (step v r).next
after_call v (Checkpoint output) = v
after_call v (Restore image) = (restore_of v image).next
after_call v (Cut output) = (restore_of fresh (take image_length (checkpoint_of v output).output)).next
after_call v (Burst setting rs places) = (burst_of setting v rs places).next
after_call v (Ask k) = v
after_call v Look = v

-- the state after all calls
abbrev pub after_calls : View → List Call → View
after_calls v [] = v
after_calls v (c ∷ h) = after_calls (after_call v c) h

-- how many bytes are written for a call
abbrev pub call_size : Call → ℕ
call_size (Receive setting r) = head_length + recorded_reply_length
call_size (Checkpoint output) = head_length + count_length + length output
call_size (Restore image) = head_length
call_size (Cut output) = head_length + count_length + length output + head_length
call_size (Burst setting rs places) = head_length + count_length + recorded_reply_length * length places
call_size (Ask k) = head_length + count_length
call_size Look = head_length

-- how many bytes are written for all calls
abbrev pub size_of_all : List Call → ℕ
size_of_all [] = 0
size_of_all (c ∷ h) = call_size c + size_of_all h

-- a record is put into an output: 6 if the output is shorter, and nothing is written; else the bytes after the record
-- are unchanged
unfoldable pub put_record : List ℕ → List ℕ → Result
put_record bytes output =
    cond (ltb (length output) (length bytes)) (refused (number_of ShortOutput) output) (written bytes output)

-- the calls that a replay with this number made: a refused one made none
abbrev pub made_by : ℕ → List Call → List Call
made_by number h = cond (eqb number 0) h []
