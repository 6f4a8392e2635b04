-- `remainder_of` is the remainder of polynomial division: one test that antt computes over the 256 bytes.
use mathlib.Core.Bool.{Bool, ◌&&◌}
use Prim.Native.Nat.{ℕ, ◌*◌, ◌^◌, ◌<◌}
use lib.Dec.{T, eqb, ltb, eqb→eq, ltb→lt}
use lib.ListN.{replicate}
use Rattle.base_lists.proofs.Choice.{and_left, and_right}
use Rattle.base_lists.proofs.Table.{at}
use Rattle.base_crc8.specs.Crc8.{remainder_of}
use Rattle.base_crc8.specs.Division.{product, quotient, restored, LongDivision}

abbrev is_divided : ℕ → Bool
is_divided b = eqb (b * 2 ^ 8) (restored b) && ltb (remainder_of b) (2 ^ 8)

tested : (b : ℕ) → b < 256 → T (is_divided b)
unfolding product quotient remainder_of
tested = at {A = ℕ} (λ b x. is_divided b) 0 (replicate 256 0) tt

pub long_division : LongDivision
long_division b h =
    let same = eqb (b * 2 ^ 8) (restored b) in
    let small = ltb (remainder_of b) (2 ^ 8) in
    record {
      whole = eqb→eq _ _ (and_left same small (tested b h));
      below = ltb→lt _ _ (and_right same small (tested b h));
    }
