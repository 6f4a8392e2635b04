-- `text_rows::formats::put_row` meets its contract: the text where the longest would fit.
use mathlib.Core.Path.{sym, ◌∙◌}
use native.Mathlib.Omega.{arith}
use borrow.Author.Tests.{leb-true}
use Rattle.text_rows.specs.Formats.{row_text_in}
use Rattle.base_buffers.proofs.Stores.{loosened, not_fitting, fitting}
use Rattle.text_rows.proofs.formats.put_row.Goals as goal

pub returns-then-not-has_capacity : goal.returns-then-not-has_capacity
returns-then-not-has_capacity c =
    let a = c.args in
    not_fitting (row_text_in a.format a.time.now a.row a.heard.now a.sent.now a.source)
    (sym c.has_capacity.ensures ∙ c.if-not-has_capacity.true)

pub write_row-requires : goal.write_row-requires
write_row-requires c = omega (arith, leb-true _ _ (sym c.has_capacity.ensures ∙ c.if-not-has_capacity.false))

pub write_csv-requires : goal.write_csv-requires
write_csv-requires c = omega (arith, leb-true _ _ (sym c.has_capacity.ensures ∙ c.if-not-has_capacity.false))

pub write_json-requires : goal.write_json-requires
write_json-requires c = leb-true _ _ (sym c.has_capacity.ensures ∙ c.if-not-has_capacity.false)

pub returns-in-Text : goal.returns-in-Text
unfolding row_text_in
returns-in-Text c =
    rw c.in-Text.is
    (fitting (sym c.has_capacity.ensures ∙ c.if-not-has_capacity.false) (loosened c.write_row.ensures (omega arith)))

pub returns-in-Csv : goal.returns-in-Csv
unfolding row_text_in
returns-in-Csv c =
    rw c.in-Csv.is
    (fitting (sym c.has_capacity.ensures ∙ c.if-not-has_capacity.false) (loosened c.write_csv.ensures (omega arith)))

pub returns-in-Json : goal.returns-in-Json
unfolding row_text_in
returns-in-Json c =
    rw c.in-Json.is (fitting (sym c.has_capacity.ensures ∙ c.if-not-has_capacity.false) c.write_json.ensures)
