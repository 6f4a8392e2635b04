-- `collector_state::entries::holds` meets its contract: an entry with another last byte of TXID, or of another length, is another telegram, and else
-- `same` says it.
use mathlib.Core.Path.{sym, ◌∙◌}
use Prim.Native.Nat.{◌-◌}
use native.Mathlib.Omega.{arith}
use lib.ListN.{length}
use Rattle.collector_state.proofs.Arrays.{longer_not_same, same_said}
use Rattle.collector_state.proofs.Copies.{other_byte}
use Rattle.collector_state.proofs.entries.holds.Goals as goal

pub returns-then-bytes-at : goal.returns-then-bytes-at
returns-then-bytes-at c =
    let a = c.args in
    sym (other_byte a.lens.now a.bytes.now a.i a.received.now (omega arith)
    (omega arith) (length a.received.now - 3) (omega arith) c.if-bytes-at.true)

pub returns-then-from-len : goal.returns-then-from-len
returns-then-from-len c =
    let a = c.args in
    sym (longer_not_same a.lens.now a.bytes.now a.i
    a.received.now (λ e. c.if-from-len.true (c.from.ensures ∙ e)))

pub returns : goal.returns
returns c =
    let a = c.args in
    c.same.ensures
    ∙ sym (same_said a.lens.now a.bytes.now a.i a.received.now _ c.telegram-telegram.ensures
    (sym c.from.ensures ∙ c.if-from-len.false))
