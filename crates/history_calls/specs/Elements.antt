-- Every element of a collector's five arrays after calls, for calls by value and for calls on lent arrays.
use Rattle.std.specs.Prelude.{ℕ, ◌*◌, cond, List, [], ◌∷◌, eqb, take}
use Rattle.radio_erp1.specs.Subtelegram.{max_length}
use Rattle.collector_model.specs.Answer.{is_received}
use Rattle.collector_model.specs.View.{View, capacity}
use Rattle.collector_model.specs.Step.{step}
use Rattle.collector_model.specs.Image.{image_length, parse, checkpoint_of, restore_of}
use Rattle.collector_model.specs.Burst.{burst_of}
use Rattle.collector_model.specs.History.{Call, Receive, Checkpoint, Restore, Cut, Burst, Ask, Look}
use Rattle.collector_state.specs.Collector.{Columns, columns_holding, columns_after}
use Rattle.collector_burst.specs.Records.{columns_after_all}
use Rattle.c_collector.specs.State.{Arrays, arrays, columns_at, state_at, numbers_of}
use Rattle.c_collector.specs.Calls.{zeros}

-- the arrays of these columns, with the eight numbers of a state
abbrev pub arrays_with : Columns → View → Arrays
arrays_with a v = arrays a.times a.lens a.bytes a.copies (numbers_of v)

-- a collector started fresh: all is zero
abbrev pub fresh_arrays : Arrays
fresh_arrays = arrays (zeros capacity) (zeros capacity) (zeros (capacity * max_length)) (zeros capacity) (zeros 8)

-- after a restore: the entries of the image with zeros after them; "11: .. the collector stays as it was"
abbrev pub restored_arrays : Arrays → List ℕ → Arrays
restored_arrays s image =
    cond (eqb (restore_of (state_at s) image).number 0)
    (arrays_with (columns_holding (parse image).entries) (parse image)) s

-- after a call: a refused call and a call that only reads leave every element unchanged; a damaged or late reception is
-- counted
abbrev pub arrays_after : Arrays → Call → Arrays
arrays_after s (Receive setting r) =
    cond (is_received (step (state_at s) r).answer)
    (arrays_with (columns_after (state_at s) r (columns_at s)) (step (state_at s) r).next) s
arrays_after s (Checkpoint output) = s
arrays_after s (Restore image) = restored_arrays s image
arrays_after s (Cut output) = restored_arrays fresh_arrays (take image_length (checkpoint_of (state_at s) output).output)
arrays_after s (Burst setting rs places) =
    cond (eqb (burst_of setting (state_at s) rs places).number 0)
    (arrays_with (columns_after_all (state_at s) rs (columns_at s)) (burst_of setting (state_at s) rs places).next) s
arrays_after s (Ask k) = s
arrays_after s Look = s

-- after all calls
abbrev pub arrays_after_all : Arrays → List Call → Arrays
arrays_after_all s [] = s
arrays_after_all s (k ∷ h) = arrays_after_all (arrays_after s k) h
