-- `history_replay::reading::lent_in` meets its contract.
use mathlib.Core.Path.{◌∙◌}
use Rattle.base_buffers.specs.Buffer.{part}
use Rattle.history_replay.proofs.reading.lent_in.Goals as goal

pub returns : goal.returns
returns c =
    c.window.ensures
    ∙ λ i. part (c.number_at-a.ensures i) (c.number_at-n.ensures i)
    c.args.lent.now
