-- `radio_telegram::repeater::put_raised` meets its contract: all before STATUS, the raised STATUS and HASH stand at the front.
use Prim.Native.Nat.{◌-◌}
use native.Mathlib.Omega.{arith}
use lib.ListN.{length}
use Rattle.radio_telegram.proofs.Repeating.{put-long, raised_put}
use Rattle.radio_telegram.proofs.repeater.put_raised.Goals as goal

pub slice_bounds-hash-end : goal.slice_bounds-hash-end
slice_bounds-hash-end c =
    let a = c.args in
    omega (
      arith,
      put-long a.bytes.now a.out.now (length a.bytes.now - 2) (omega arith)
          (omega arith) c.copy.ensures.1 c.raised_status.ensures,
    )

pub bounds-out-last : goal.bounds-out-last
bounds-out-last c =
    let a = c.args in
    omega (
      arith,
      put-long a.bytes.now a.out.now (length a.bytes.now - 2) (omega arith)
          (omega arith) c.copy.ensures.1 c.raised_status.ensures,
    )

pub returns : goal.returns
returns c =
    let a = c.args in
    raised_put a.bytes.now a.out.now (length a.bytes.now - 2) (omega arith) (omega arith)
    c.copy.ensures.1 c.raised_status.ensures c.hash.ensures
