-- `collector_state::merging::relay_kept` meets its contract.
use mathlib.Core.Path.{sym, ◌∙◌}
use Rattle.collector_state.proofs.Sending.{relay_nothing, relay_anything}
use Rattle.collector_state.proofs.merging.relay_kept.Goals as goal

pub returns-then-not-is_kept : goal.returns-then-not-is_kept
returns-then-not-is_kept c = relay_nothing _ _ _ _ (sym c.is_kept.ensures ∙ c.if-not-is_kept.true)

pub returns : goal.returns
returns c =
    c.relay.ensures
    ∙ relay_anything _ _ _ _
    (sym c.is_kept.ensures ∙ c.if-not-is_kept.false)
