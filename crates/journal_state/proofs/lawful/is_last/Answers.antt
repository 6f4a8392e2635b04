-- `journal_state::lawful::is_last` meets its contract: each return is one case of `is_last_of`.
use mathlib.Core.Path.{sym, ◌∙◌}
use Rattle.journal_state.proofs.Laws.{last_none, last_unsound, last_some}
use Rattle.journal_state.proofs.lawful.is_last.Goals as goal

pub returns-then-rows-eq0 : goal.returns-then-rows-eq0
returns-then-rows-eq0 c =
    let a = c.args in
    c.is_blank.ensures ∙ last_none a.rows a.block.now c.if-rows-eq0.true

pub returns-then-used-eq0 : goal.returns-then-used-eq0
returns-then-used-eq0 c =
    let a = c.args in
    last_unsound a.rows a.block.now c.if-rows-eq0.false (sym c.sound-used.ensures ∙ c.if-used-eq0.true)

pub returns : goal.returns
returns c =
    let a = c.args in
    last_some a.rows a.block.now c.if-rows-eq0.false c.sound-used.result c.number_of.result
    (λ z. c.if-used-eq0.false (c.sound-used.ensures ∙ z))
    c.sound-used.ensures c.number_of.ensures
