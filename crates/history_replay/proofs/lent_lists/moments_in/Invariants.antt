-- `history_replay::lent_lists::moments_in` meets its contract. The invariant: the first i are read; the measure: the records left.
use Prim.Native.Nat.{ℕ, ◌-◌}
use Rattle.history_replay.proofs.Filling.{Filled, moment_at}
use Rattle.history_replay.proofs.lent_lists.moments_in.Given as goal

abbrev pub invariant-loop-i : goal.invariant-loop-i
invariant-loop-i l = Filled (λ (k : ℕ). k) (moment_at l.records) 0 l.records l.n l.all l.i

abbrev pub decreases-loop-i : goal.decreases-loop-i
decreases-loop-i l = l.n - l.i
