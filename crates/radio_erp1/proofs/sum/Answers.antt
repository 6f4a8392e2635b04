-- The goals that a search does not find.
use Rattle.std.proofs.Common.{◌≡◌, ℕ, ◌+◌, ◌%◌, ◌<◌, ◌≤◌, List, length, get_or, drop, add-one, arith, drop_of_length-le, drop-cons}
use Rattle.radio_erp1.specs.Subtelegram.{sum_of}
use Rattle.radio_erp1.proofs.sum.Goals as goal

-- the next byte
sum_next : (bytes : List ℕ) (i : ℕ) → i < length bytes
    → sum_of (drop i bytes) ≡ get_or bytes i 0 + sum_of (drop (i + 1) bytes)
sum_next bytes i h = rw (add-one, drop-cons bytes i 0)

pub loop-i-preserved : goal.loop-i-preserved
loop-i-preserved c =
    omega (arith, sum_next c.args.bytes.now c.loop-i.i (omega arith))

pub returns : goal.returns
returns c =
    let bytes = c.args.bytes.now in
    let h : length bytes ≤ c.loop-i.i = omega arith in
    let e : (c.loop-i.sum + 0) % 256 ≡ sum_of bytes % 256 =
    rw (drop_of_length-le bytes h) at c.loop-i.invariant.rest in
    omega arith

pub loop-i-init : goal.loop-i-init
loop-i-init c = omega arith

pub bounds-bytes-i : goal.bounds-bytes-i
bounds-bytes-i c = omega arith

pub overflow_step-i : goal.overflow_step-i
overflow_step-i c = omega arith

pub loop-i-smaller : goal.loop-i-smaller
loop-i-smaller c = omega arith
