-- `text_rows::put_row` meets its contract: the text where the longest would fit.
use mathlib.Core.Path.{sym, ◌∙◌}
use borrow.Author.Tests.{leb-true}
use Rattle.text_rows.specs.Text.{row_behind}
use Rattle.base_buffers.proofs.Stores.{not_fitting, fitting}
use Rattle.text_rows.proofs.put_row.Goals as goal

pub returns-then-not-has_capacity : goal.returns-then-not-has_capacity
returns-then-not-has_capacity c =
    let a = c.args in
    not_fitting (row_behind a.time.now a.row a.sent.now) (sym c.has_capacity.ensures ∙ c.if-not-has_capacity.true)

pub write_row-requires : goal.write_row-requires
write_row-requires c = leb-true _ _ (sym c.has_capacity.ensures ∙ c.if-not-has_capacity.false)

pub returns : goal.returns
returns c = fitting (sym c.has_capacity.ensures ∙ c.if-not-has_capacity.false) c.write_row.ensures
