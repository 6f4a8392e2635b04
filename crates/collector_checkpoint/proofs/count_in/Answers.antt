-- `collector_checkpoint::count_in` meets its contract.
use mathlib.Core.Path.{ap₂}
use Prim.Native.Nat.{◌+◌}
use Rattle.collector_checkpoint.proofs.count_in.Goals as goal

pub returns : goal.returns
returns c =
    ap₂ ◌+◌
    (ap₂ ◌+◌
    (ap₂ ◌+◌ (ap₂ ◌+◌ c.used_in.ensures.0 c.used_in-2.ensures.0)
    c.used_in-3.ensures.0)
    c.used_in-4.ensures.0)
    c.used_in-5.ensures.0
