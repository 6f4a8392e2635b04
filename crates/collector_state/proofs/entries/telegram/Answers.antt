-- `collector_state::entries::telegram` meets its contract: a length that is not over 21 cuts the 21 bytes.
use native.Mathlib.Omega.{arith}
use Rattle.collector_state.proofs.Arrays.{bytes-shown}
use Rattle.collector_state.proofs.entries.telegram.Goals as goal

pub returns : goal.returns
returns c =
    let a = c.args in
    bytes-shown a.bytes.now a.i a.len (omega arith) (omega arith)
