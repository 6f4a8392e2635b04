-- `history_replay::calls::repeated` meets its contract: a refusal sends nothing.
use mathlib.Core.Path.{ap, ◌∙◌}
use Rattle.radio_telegram.specs.Repeater.{RepeatResult}
use Rattle.history_replay.proofs.calls.repeated.Goals as goal

pub returns-in-Ok : goal.returns-in-Ok
returns-in-Ok c = ap (λ (q : RepeatResult). q.sent) c.in-Ok.ensures

pub returns-in-Err : goal.returns-in-Err
returns-in-Err c = c.empty.ensures ∙ ap (λ (q : RepeatResult). q.sent) c.in-Err.ensures
