-- `block_layout::number_at` meets its contract: past the end no bytes spell 0.
use Rattle.std.proofs.Common.{◌≤◌, length, arith, drop_of_length-le}
use Rattle.block_layout.specs.BigEndian.{unbe, unbe_from}
use Rattle.block_layout.proofs.number_at.Goals as goal

pub returns-then-s-at : goal.returns-then-s-at
unfolding unbe unbe_from
returns-then-s-at c =
    let h : length c.args.s.now ≤ c.args.at = omega arith in
    rw (drop_of_length-le c.args.s.now h)
