-- `history_replay::calls::save_into` meets its contract: by what `checkpoint` ensures.
use mathlib.Core.Path.{ap, ◌∙◌}
use mathlib.Core.List.{List}
use Prim.Native.Nat.{ℕ}
use Rattle.collector_model.specs.Image.{checkpoint_of}
use Rattle.c_collector.specs.State.{Arrays, arrays_in, state_at}
use Rattle.history_replay.proofs.calls.save_into.Goals.{Start}
use Rattle.history_replay.proofs.calls.save_into.Goals as goal

-- what is lent
abbrev lent : Start → Arrays
lent s = arrays_in s.args.state.now

pub returns : goal.returns
returns c =
    c.checkpoint.ensures
    ∙ ap (λ (a : Arrays). checkpoint_of (state_at a) c.set_all.new.out) c.held.ensures
    ∙ ap (checkpoint_of (state_at (lent (goal.at.returns c).Start))) c.set_all.ensures
