-- `text_rows::formats::put_heading` meets its contract: the text where the longest would fit.
use mathlib.Core.Path.{refl, sym, ◌∙◌}
use native.Mathlib.Omega.{arith}
use borrow.Author.Tests.{leb-true}
use Rattle.text_rows.specs.Formats.{heading_in}
use Rattle.base_buffers.proofs.Stores.{loosened, not_fitting, fitting}
use Rattle.text_rows.proofs.formats.put_heading.Goals as goal

pub returns-then-not-has_capacity : goal.returns-then-not-has_capacity
returns-then-not-has_capacity c =
    not_fitting (heading_in c.args.format) (sym c.has_capacity.ensures ∙ c.if-not-has_capacity.true)

pub write-requires : goal.write-requires
write-requires c =
    omega (arith, leb-true _ _ (sym c.has_capacity.ensures ∙ c.if-not-has_capacity.false))

pub returns-in-Text : goal.returns-in-Text
unfolding heading_in
returns-in-Text c =
    rw c.in-Text.is
    (fitting (sym c.has_capacity.ensures ∙ c.if-not-has_capacity.false)
    (record { bytes = refl; next = omega arith; short = omega arith }))

pub returns-in-Csv : goal.returns-in-Csv
unfolding heading_in
returns-in-Csv c =
    rw c.in-Csv.is
    (fitting (sym c.has_capacity.ensures ∙ c.if-not-has_capacity.false)
    (loosened c.write.ensures (omega arith)))

pub returns-in-Json : goal.returns-in-Json
unfolding heading_in
returns-in-Json c =
    rw c.in-Json.is
    (fitting (sym c.has_capacity.ensures ∙ c.if-not-has_capacity.false)
    (record { bytes = refl; next = omega arith; short = omega arith }))
