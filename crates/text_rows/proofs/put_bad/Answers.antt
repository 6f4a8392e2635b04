-- `text_rows::put_bad` meets its contract: the text where the longest would fit.
use mathlib.Core.Path.{sym, ◌∙◌}
use borrow.Author.Tests.{leb-true}
use Rattle.text_rows.specs.Text.{bad_text}
use Rattle.base_buffers.proofs.Stores.{not_fitting, fitting}
use Rattle.text_rows.proofs.put_bad.Goals as goal

pub returns-then-not-has_capacity : goal.returns-then-not-has_capacity
returns-then-not-has_capacity c = not_fitting bad_text (sym c.has_capacity.ensures ∙ c.if-not-has_capacity.true)

pub write-requires : goal.write-requires
write-requires c = leb-true _ _ (sym c.has_capacity.ensures ∙ c.if-not-has_capacity.false)

pub returns : goal.returns
returns c = fitting (sym c.has_capacity.ensures ∙ c.if-not-has_capacity.false) c.write.ensures
