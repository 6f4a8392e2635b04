-- The number of each call: the first byte of its record, and of the cell of what is seen. A cut has the two cells of a
-- checkpoint and of a restore.
use Rattle.std.specs.Prelude.{ℕ}

abbrev pub looking : ℕ
looking = 0

abbrev pub receiving : ℕ
receiving = 2

abbrev pub saving : ℕ
saving = 3

abbrev pub cutting : ℕ
cutting = 4

abbrev pub restoring : ℕ
restoring = 5

abbrev pub delivering : ℕ
delivering = 6

abbrev pub asking : ℕ
asking = 7
