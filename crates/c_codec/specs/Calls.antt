-- What the calls answer, and what they write into lent memory.
use Rattle.std.specs.Prelude.{ℕ, cond, not, List, eqb, length}
use Rattle.radio_telegram.specs.declared.frame.Frame.{Frame}
use Rattle.radio_telegram.specs.Output.{Result}
use Rattle.radio_telegram.specs.Fields.{read_of, build_of}
use Rattle.radio_telegram.specs.Repeater.{repeat_result}
use Rattle.c_layout.specs.Frame.{wrong_size, frame_length, frame_bytes}
use Rattle.c_layout.specs.Lent.{if_done, settled}
use Rattle.c_codec.specs.Fields.{fields_length, fields_bytes, telegram_in}

-- the number, and every byte of the lent values after the call
pub record ReadCall : Type 0 where
  pub number : ℕ
  pub values : List ℕ

abbrev pub call : ℕ → List ℕ → ReadCall
call number values = record { number = number; values = values }

-- the lent slice must have n elements; a slice of another size is unchanged, and the answer is 255
abbrev pub sized : ℕ → List ℕ → ReadCall → ReadCall
sized n old done = cond (not (eqb (length old) n)) (call wrong_size old) done

-- the values are written if the number is 0
abbrev pub answered : ℕ → List ℕ → List ℕ → ReadCall
answered number values old = call number (if_done number values old)

-- reads a subtelegram (document 01): the check's number, and the fields
unfoldable pub read_call : List ℕ → List ℕ → ReadCall
read_call s old = sized fields_length old (answered (read_of s).number (fields_bytes (read_of s).telegram) old)

-- builds a subtelegram from its 26 bytes of fields (document 01)
unfoldable pub build_call : List ℕ → ℕ → List ℕ → Result
build_call fields was output =
    cond (not (eqb (length fields) fields_length)) (record { number = wrong_size; len = was; output = output })
    (settled (build_of (telegram_in fields) output) was)

-- repeats a telegram (document 02, A7): the number, and the telegram to send
abbrev pub sent_frame_bytes : Frame → List ℕ
sent_frame_bytes f = frame_bytes f.len f.bytes

-- repeats a telegram into a frame
unfoldable pub repeat_call : ℕ → List ℕ → List ℕ → ReadCall
repeat_call setting s old =
    sized frame_length old
    (answered (repeat_result setting s).number (sent_frame_bytes (repeat_result setting s).sent) old)
