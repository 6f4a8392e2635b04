-- `history_replay::value_calls::save_into` meets its contract: by what `checkpoint` ensures.
use mathlib.Core.Path.{ap, ◌∙◌}
use Rattle.collector_model.specs.Image.{checkpoint_of}
use Rattle.collector_state.specs.Collector.{view_of}
use Rattle.history_replay.proofs.value_calls.save_into.Goals as goal

pub returns : goal.returns
returns c =
    c.checkpoint.ensures ∙ ap (checkpoint_of (view_of c.args.c)) c.set_all.ensures
