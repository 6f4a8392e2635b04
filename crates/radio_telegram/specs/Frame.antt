-- A frame: the bytes of a subtelegram by value, zero filled to 21, with their length.
use Rattle.std.specs.Prelude.{ℕ, List, length}
use Rattle.base_lists.specs.Lists.{padded}
use Rattle.radio_erp1.specs.Subtelegram.{max_length}
use Rattle.radio_telegram.specs.declared.frame.Frame.{Frame}

-- "in 21 bytes, zero filled, with its length, 0 if none" (document 01, "Numbers a caller sees")
unfoldable pub frame_of : List ℕ → Frame
frame_of xs = record { len = length xs; bytes = padded max_length xs }
