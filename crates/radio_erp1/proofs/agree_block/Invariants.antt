-- `radio_erp1::agree_block` meets its contract. The invariant: `all` says whether the bytes passed agree.
use Rattle.std.proofs.Common.{ℕ, ◌-◌, ◌≤◌, Bool, List}
use Rattle.radio_erp1.specs.Private.{SameBytes}
use Rattle.radio_erp1.proofs.agree_block.Given as goal

pub record Comparing (a b : List ℕ) (from w : ℕ) (all : Bool) (k : ℕ) : Type 0 where
  pub few : k ≤ w
  pub passed : SameBytes a b from k all

abbrev pub invariant-loop-k : goal.invariant-loop-k
invariant-loop-k g l = Comparing l.a l.b l.from g.row.W l.all l.k

abbrev pub decreases-loop-k : goal.decreases-loop-k
decreases-loop-k g l = g.row.W - l.k
