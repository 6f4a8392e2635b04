-- The goals that a search does not find.
use Rattle.std.proofs.Common.{◌≡◌, ℕ, ◌≤◌, ◌<◌, ◌+◌, ◌*◌, ◌^◌, List, length, get_or, take, arith, refl, ◌∙◌, length-take, get_or-take}
use Rattle.block_layout.specs.BigEndian.{unbe, unbe_from}
use Rattle.block_layout.proofs.BigEndian.{unbe-more, digit_lt, eight_lt}
use Rattle.block_layout.proofs.read_number.Goals as goal

-- the byte of a turn, and its place
module _ (s : List ℕ) (k i b : ℕ) (within : i < length (take k s)) where
  place : (i < k) × (i < length s)
  place = omega (arith, length-take k s)

  read : b ≡ get_or (take k s) i 0 → b ≡ get_or s i 0
  read e = e ∙ get_or-take k s i 0 place.0

pub loop-b-init : goal.loop-b-init
unfolding unbe unbe_from
loop-b-init c = record { small = omega arith; spelled = refl }

pub overflow_mul-n : goal.overflow_mul-n
overflow_mul-n c =
    let at = c.loop-b in
    let p = place c.args.s.now c.min.result at.b-index 0 c.loop-b-test.true in
    let next = digit_lt at.b-index at.n 0 at.invariant.small (omega arith) in
    omega (arith, eight_lt (at.b-index + 1) _ (omega (arith, p.0)) next)

-- a byte more fits
module _ (s : List ℕ) (k i b n : ℕ) (within : i < length (take k s)) (is : b ≡ get_or (take k s) i 0)
    (byte : get_or s i 0 < 256) (small : n < 256 ^ i) where
  next_small : n * 256 + b < 256 ^ (i + 1)
  next_small = digit_lt i n b small (omega (arith, read s k i b within is))

  next_fits : k ≤ 8 → n * 256 + b < 2 ^ 64
  next_fits h = eight_lt (i + 1) _ (omega (arith, (place s k i b within).0)) next_small

pub overflow_add-n : goal.overflow_add-n
overflow_add-n c =
    let at = c.loop-b in
    record {
      fits =
          next_fits c.args.s.now c.min.result at.b-index c.from.result at.n c.loop-b-test.true c.from.ensures
          (omega (arith, c.type_inv.s at.b-index)) at.invariant.small (omega arith);
    }

pub loop-b-preserved : goal.loop-b-preserved
loop-b-preserved c =
    let at = c.loop-b in
    let s = c.args.s.now in
    let p = place s c.min.result at.b-index 0 c.loop-b-test.true in
    let b = read s c.min.result at.b-index c.from.result c.loop-b-test.true c.from.ensures in
    record {
      small =
          next_small s c.min.result at.b-index c.from.result at.n c.loop-b-test.true c.from.ensures
          (omega (arith, c.type_inv.s at.b-index)) at.invariant.small;
      spelled = rw (b, at.invariant.spelled) (unbe-more s at.b-index p.1);
    }
