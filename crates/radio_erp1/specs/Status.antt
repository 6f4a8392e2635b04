-- The byte STATUS (source document 001, Tables 3 and 4; document 01, "Repeater step").
use Rattle.std.specs.Prelude.{ℕ, ◌+◌, ◌*◌, ◌/◌, ◌%◌, cond, ◌==◌}
use Rattle.radio_erp1.specs.declared.status.Status.{Status}

-- the level is in bits 0 to 3, the hash selector is bit 7, and the flags are the bits between
abbrev pub split_of : ℕ → Status
split_of b = record { level = b % 16; flags = b / 16 % 8; crc = (b / 128 == 1) }

-- the byte with these parts
abbrev pub join_of : Status → ℕ
join_of s = cond s.crc (128 + (s.flags % 8 * 16 + s.level % 16)) (s.flags % 8 * 16 + s.level % 16)

-- STATUS without the level
abbrev pub upper_of : ℕ → ℕ
upper_of b = b / 16
