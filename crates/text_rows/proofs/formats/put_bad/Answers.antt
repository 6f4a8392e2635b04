-- `text_rows::formats::put_bad` meets its contract: the text where the longest would fit.
use mathlib.Core.Path.{sym, ◌∙◌}
use native.Mathlib.Omega.{arith}
use borrow.Author.Tests.{leb-true}
use Rattle.text_rows.specs.Formats.{bad_in}
use Rattle.base_buffers.proofs.Stores.{loosened, not_fitting, fitting}
use Rattle.text_rows.proofs.formats.put_bad.Goals as goal

pub returns-then-not-has_capacity : goal.returns-then-not-has_capacity
returns-then-not-has_capacity c =
    not_fitting (bad_in c.args.format) (sym c.has_capacity.ensures ∙ c.if-not-has_capacity.true)

pub write-requires : goal.write-requires
write-requires c =
    omega (arith, leb-true _ _ (sym c.has_capacity.ensures ∙ c.if-not-has_capacity.false))

pub write-requires-in-Csv : goal.write-requires-in-Csv
write-requires-in-Csv c =
    omega (arith, leb-true _ _ (sym c.has_capacity.ensures ∙ c.if-not-has_capacity.false))

pub write-requires-in-Json : goal.write-requires-in-Json
write-requires-in-Json c =
    omega (arith, leb-true _ _ (sym c.has_capacity.ensures ∙ c.if-not-has_capacity.false))

pub returns-in-Text : goal.returns-in-Text
unfolding bad_in
returns-in-Text c =
    rw c.in-Text.is
    (fitting (sym c.has_capacity.ensures ∙ c.if-not-has_capacity.false)
    (loosened c.write.ensures (omega arith)))

pub returns-in-Csv : goal.returns-in-Csv
unfolding bad_in
returns-in-Csv c =
    rw c.in-Csv.is
    (fitting (sym c.has_capacity.ensures ∙ c.if-not-has_capacity.false)
    (loosened c.write-in-Csv.ensures (omega arith)))

pub returns-in-Json : goal.returns-in-Json
unfolding bad_in
returns-in-Json c =
    rw c.in-Json.is
    (fitting (sym c.has_capacity.ensures ∙ c.if-not-has_capacity.false)
    (loosened c.write-in-Json.ensures (omega arith)))
