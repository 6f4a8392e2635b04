-- The tables of a CRC that takes eight bytes at a time, for the contracts of private functions. The public contract is
-- that of `crc8`.
use Rattle.std.specs.Prelude.{ℕ, Bool, ◌&&◌, List, ◌++◌, map, eqb, length, take}
use Rattle.base_lists.specs.Lists.{equal, up_from}
use Rattle.base_crc8.specs.Crc8.{remainder_of}

-- eight tables, one after the other. Each of the first 256 entries is the remainder of its index. Each later entry is
-- the remainder of the entry 256 before it.
unfoldable pub is_tables : List ℕ → Bool
is_tables tables = eqb (length tables) 2048 && equal tables (map remainder_of (up_from 0 256 ++ take 1792 tables))
