-- `c_burst::telegram_in` meets its contract: no bytes of a length over 21, else as many as it says.
use mathlib.Core.Path.{◌≡◌}
use Prim.Native.Nat.{◌+◌, ◌-◌}
use native.Mathlib.Omega.{arith}
use borrow.Author.Tests.{lt-ltb, le-ltb}
use lib.ListN.{get_or}
use Rattle.c_burst.proofs.telegram_in.Goals as goal

pub returns-then-len-gt-MAX_LEN : goal.returns-then-len-gt-MAX_LEN
returns-then-len-gt-MAX_LEN c =
    rw (lt-ltb 21 (get_or c.args.frame.now 0 0)
    (omega (arith, c.if-len-gt-MAX_LEN.true, c.from-len.ensures)))

pub returns : goal.returns
returns c =
    let n : 1 + c.from-len.result - 1 ≡ get_or c.args.frame.now 0 0 =
    omega (arith, c.from-len.ensures) in
    rw (
      le-ltb 21 (get_or c.args.frame.now 0 0)
          (omega (arith, c.if-len-gt-MAX_LEN.false, c.from-len.ensures)),
      n,
    )
