-- `history_replay::value_calls::sent_for` meets its contract: only KEPT is ever repeated.
use mathlib.Core.Path.{◌∙◌}
use Rattle.radio_telegram.proofs.Laws.{repeat_sent}
use Rattle.history_replay.proofs.value_calls.sent_for.Goals as goal

pub returns-in-Kept : goal.returns-in-Kept
returns-in-Kept c =
    let a = c.args in
    rw c.in-Kept.is (c.repeated.ensures ∙ repeat_sent a.setting a.bytes.now)

pub returns-in-Copy : goal.returns-in-Copy
returns-in-Copy c = rw c.in-Copy.is c.empty.ensures

pub returns-in-Loose : goal.returns-in-Loose
returns-in-Loose c = rw c.in-Loose.is c.empty-in-Loose.ensures

pub returns-in-Refused : goal.returns-in-Refused
returns-in-Refused c = rw c.in-Refused.is c.empty-in-Refused.ensures
