-- `radio_erp1::sum` meets its contract. The loop's invariant: the sum so far and that of the bytes left agree with the whole sum, modulo 256.
-- The measure is what is left of the length.
use Rattle.std.proofs.Common.{◌≡◌, ℕ, ◌+◌, ◌-◌, ◌%◌, ◌<◌, ◌≤◌, List, length, drop}
use Rattle.radio_erp1.specs.Subtelegram.{sum_of}
use Rattle.radio_erp1.proofs.sum.Given as goal

pub record Summing (bytes : List ℕ) (i-end sum i : ℕ) : Type 0 where
  pub bounded : i ≤ length bytes
  pub ends : i-end ≡ length bytes
  pub small : sum < 256
  pub rest : (sum + sum_of (drop i bytes)) % 256 ≡ sum_of bytes % 256

abbrev pub invariant-loop-i : goal.invariant-loop-i
invariant-loop-i l = Summing l.bytes l.i-end l.sum l.i

abbrev pub decreases-loop-i : goal.decreases-loop-i
decreases-loop-i l = length l.bytes - l.i
