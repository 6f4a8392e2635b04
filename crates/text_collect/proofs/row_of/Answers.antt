-- `text_collect::row_of` meets its contract: a refusal is shown by its number.
use mathlib.Core.Path.{ap}
use Rattle.text_rows.specs.declared.Row.{Row}
use Rattle.text_collect.proofs.row_of.Goals as goal

pub returns-in-Refused : goal.returns-in-Refused
returns-in-Refused c = rw c.in-Refused.is (ap Row.Refused c.number.ensures)
