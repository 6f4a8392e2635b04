-- `text_lines::read_front` meets its contract: the digits at the front of the text, and the space behind them.
use Rattle.std.proofs.Common.{◌≡◌, sym, ◌∙◌, rules, tests}
use Rattle.std.proofs.lemmas.Iterator.{YieldsList-from_slice}
use Rattle.std.proofs.lemmas.Iterator.Search.{position_from_yields_List}
use Rattle.text_lines.proofs.Times.{is_other, found, endless, ends_large, ends_time, ends_wrong}
use Rattle.text_lines.proofs.read_front.Goals.{After-position}
use Rattle.text_lines.proofs.read_front.Goals as goal

-- where the search ended
searched : (c : After-position) → c.position.result ≡ found c.args.text.now
searched c =
    position_from_yields_List is_other _ _ c.position.result c.position.ensures.ran
    (YieldsList-from_slice c.args.text.now (cc)) (λ x b q k. search (rules, tests))

pub returns-in_err-end : goal.returns-in_err-end
returns-in_err-end c =
    let h = searched (goal.at.returns-in_err-end c).After-position in
    c.from_residual.ensures ∙ endless c.args.text.now (sym h ∙ c.in_err-end.was)

pub returns-then-text-end-ne32 : goal.returns-then-text-end-ne32
returns-then-text-end-ne32 c =
    let h = searched (goal.at.returns-then-text-end-ne32 c).After-position in
    ends_wrong c.args.text.now (sym h ∙ c.in_ok-end.was) c.if-text-end-ne32.true

pub returns-in_err-number : goal.returns-in_err-number
returns-in_err-number c =
    let h = searched (goal.at.returns-in_err-number c).After-position in
    c.from_residual-in_err-number.ensures
    ∙ ends_large c.args.text.now (sym h ∙ c.in_ok-end.was) c.if-text-end-ne32.false c.in_err-number.ensures

pub returns : goal.returns
returns c =
    let h = searched (goal.at.returns c).After-position in
    ends_time c.args.text.now (sym h ∙ c.in_ok-end.was) c.if-text-end-ne32.false c.in_ok-number.ensures
