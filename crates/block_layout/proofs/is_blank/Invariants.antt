-- `block_layout::is_blank` meets its contract. The invariant: what was found so far and what is left decide the whole.
use Rattle.std.proofs.Common.{◌≡◌, ◌&&◌, eqb, drop}
use Rattle.base_lists.specs.Lists.{all}
use Rattle.block_layout.proofs.is_blank.Given as goal

abbrev pub invariant-loop-b : goal.invariant-loop-b
invariant-loop-b l = l.blank && all (λ b. eqb b 0) (drop l.b-index l.s) ≡ all (λ b. eqb b 0) l.s
