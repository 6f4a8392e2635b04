-- What the calls for other languages have in common.
use Rattle.std.specs.Prelude.{ℕ, Bool, cond, List, [], ◌∷◌, ◌++◌}
use Rattle.radio_erp1.specs.Subtelegram.{max_length}
use Rattle.base_buffers.specs.Buffer.{resized}

-- the answer if a lent slice has the wrong size; the papers do not use this number
abbrev pub wrong_size : ℕ
wrong_size = 255

-- a telegram with its length: "in 21 bytes, zero filled, with its length, 0 if none" (document 01, "Numbers a caller
-- sees")
abbrev pub frame_length : ℕ
frame_length = 22

-- the bytes of a frame: a length byte, and 21 bytes
unfoldable pub frame_bytes : ℕ → List ℕ → List ℕ
frame_bytes len bytes = (len ∷ []) ++ resized max_length bytes

-- 1 for yes, 0 for no
abbrev pub flag_byte : Bool → ℕ
flag_byte flag = cond flag 1 0
