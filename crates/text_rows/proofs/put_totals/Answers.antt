-- `text_rows::put_totals` meets its contract: the text where the longest would fit.
use mathlib.Core.Path.{sym, ◌∙◌}
use borrow.Author.Tests.{leb-true}
use Rattle.text_rows.specs.Text.{totals_text}
use Rattle.base_buffers.proofs.Stores.{not_fitting, fitting}
use Rattle.text_rows.proofs.put_totals.Goals as goal

pub returns-then-not-has_capacity : goal.returns-then-not-has_capacity
returns-then-not-has_capacity c =
    let a = c.args in
    not_fitting (totals_text a.received a.kept a.copies a.loose a.damaged a.late)
    (sym c.has_capacity.ensures ∙ c.if-not-has_capacity.true)

pub write_totals-requires : goal.write_totals-requires
write_totals-requires c = leb-true _ _ (sym c.has_capacity.ensures ∙ c.if-not-has_capacity.false)

pub returns : goal.returns
returns c = fitting (sym c.has_capacity.ensures ∙ c.if-not-has_capacity.false) c.write_totals.ensures
