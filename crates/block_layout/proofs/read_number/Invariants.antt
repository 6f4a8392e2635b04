-- `block_layout::read_number` meets its contract. The invariant: n is what the bytes so far spell, and below 256 to the
-- power of their number.
use Rattle.std.proofs.Common.{◌≡◌, ◌<◌, ◌^◌, take}
use Rattle.block_layout.specs.BigEndian.{unbe}
use Rattle.block_layout.proofs.read_number.Given as goal

abbrev pub invariant-loop-b : goal.invariant-loop-b
invariant-loop-b l = record {
  small : l.n < 256 ^ l.b-index;
  spelled : l.n ≡ unbe (take l.b-index l.s);
}
