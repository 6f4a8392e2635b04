-- `c_checkpoint::put_state` meets its contract: the four arrays are copied, and the numbers stored.
use mathlib.Core.Path.{ap}
use Rattle.c_collector.specs.State.{arrays}
use Rattle.c_checkpoint.proofs.put_state.Goals as goal

pub returns-clause-put : goal.returns-clause-put
returns-clause-put c =
    let s = c.args.c in
    ap (arrays s.times s.lens s.bytes s.copies) c.store.ensures
