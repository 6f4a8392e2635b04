-- `journal_state::lawful::is_printed` meets its contract: each return is one case of `is_printed`.
use mathlib.Core.List.{[]}
use Rattle.journal_state.specs.State.{kept}
use Rattle.journal_state.proofs.Laws.{out_none, out_some}
use Rattle.journal_state.proofs.lawful.is_printed.Goals as goal

pub returns-then-numbers-eq0 : goal.returns-then-numbers-eq0
returns-then-numbers-eq0 c =
    out_none (kept c.args.numbers.now [] [] [] []) c.if-numbers-eq0.true

pub returns : goal.returns
returns c =
    out_some (kept c.args.numbers.now [] [] [] []) c.if-numbers-eq0.false
