-- `c_checkpoint::checkpoint` meets its contract: it is that of the state that the arrays hold.
use mathlib.Core.Path.{ap, ◌∙◌}
use Rattle.collector_model.specs.Image.{checkpoint_of}
use Rattle.collector_state.specs.declared.Summary.{Summary}
use Rattle.collector_state.specs.Collector.{view_in}
use Rattle.c_collector.specs.State.{columns_at, arrays_held}
use Rattle.c_checkpoint.proofs.checkpoint.Goals as goal

pub returns : goal.returns
returns c =
    rw c.outcome_number.ensures
    (c.checkpoint_at.ensures
    ∙ ap (λ (s : Summary). checkpoint_of (view_in (columns_at (arrays_held c.args.state)) s) c.args.out.now)
    c.summary_in.ensures.0)
