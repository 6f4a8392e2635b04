-- `history_replay::value_lists::put_replies` meets its contract. The invariant: the first i places are written; the measure: the places left.
use mathlib.Core.List.{List, flatten}
use Prim.Native.Nat.{ℕ, ◌-◌, ◌*◌, ◌≤◌}
use lib.ListN.{take}
use Rattle.base_buffers.proofs.Segments.{Begun}
use Rattle.collector_burst.specs.declared.Reply.{Reply}
use Rattle.history_replay.proofs.Filling.{cells}
use Rattle.history_replay.proofs.value_lists.put_replies.Given as goal

pub record Putting (m : ℕ) (replies : List Reply) (i : ℕ) (entry out : List ℕ) : Type 0 where
  pub bounded : i ≤ m
  pub begun : Begun entry (flatten (take i (cells m replies))) (31 * i) out

abbrev pub invariant-loop-i : goal.invariant-loop-i
invariant-loop-i l = Putting l.m l.replies l.i l.initial.out l.out

abbrev pub decreases-loop-i : goal.decreases-loop-i
decreases-loop-i l = l.m - l.i
