-- The bytes of the receptions of a burst, and of the replies to them (document 02, A1 and A7).
use Rattle.std.specs.Prelude.{ℕ, ◌*◌, Bool, List, [], ◌∷◌, ◌++◌, map, eqb, length, get_or, drop}
use Rattle.base_lists.specs.Lists.{up_from}
use Rattle.base_buffers.specs.Buffer.{part, resized}
use Rattle.collector_model.specs.Answer.{shown_number}
use Rattle.collector_model.specs.View.{Reception}
use Rattle.collector_model.specs.Burst.{Replied}
use Rattle.c_layout.specs.Frame.{frame_length, frame_bytes}
use Rattle.c_collector.specs.Calls.{kind_of}

-- the reception in a frame: as many bytes as its length says. A length over 21 gives a list of that length, which fails
-- the check with 1.
abbrev pub reception_in : List ℕ → ℕ → Reception
reception_in frame time = record { bytes = resized (get_or frame 0 0) (drop 1 frame); time = time }

-- the receptions of a list of times, each with its frame
unfoldable pub receptions_in : List ℕ → List ℕ → List Reception
receptions_in moments records =
    map (λ i. reception_in (part (frame_length * i) frame_length records) (get_or moments i 0)) (up_from 0 (length moments))

-- "kind, number, and the telegram to send": 24 bytes
abbrev pub reply_length : ℕ
reply_length = 24

-- the bytes of a reply
unfoldable pub reply_bytes : Replied → List ℕ
reply_bytes r = (kind_of r.answer ∷ shown_number r.answer ∷ []) ++ frame_bytes r.sent.len r.sent.bytes

-- there is one frame for each time
abbrev pub is_sized : ℕ → ℕ → Bool
is_sized moments records = eqb records (frame_length * moments)
