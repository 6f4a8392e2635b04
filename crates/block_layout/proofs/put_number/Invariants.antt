-- `block_layout::put_number` meets its contract, from the last byte to the first. The invariant: what is left of the
-- number, then the bytes from i on, are the number's bytes.
use Rattle.std.proofs.Common.{◌≡◌, ◌++◌, length, drop}
use Rattle.block_layout.specs.BigEndian.{be}
use Rattle.block_layout.proofs.put_number.Given as goal

abbrev pub invariant-loop-i : goal.invariant-loop-i
invariant-loop-i l = be (length l.initial.out) l.n ≡ be l.i l.rest ++ drop l.i l.out
