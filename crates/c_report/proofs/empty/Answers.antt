-- `c_report::empty` meets its contract.
use mathlib.Core.Path.{ap, ◌∙◌}
use Rattle.c_report.specs.Calls.{report_numbers}
use Rattle.c_report.proofs.empty.Goals as goal

pub returns : goal.returns
returns c = (
  c.store.ensures.0 ∙ c.empty.ensures.result_value,
  c.store.ensures.1 ∙ ap report_numbers c.empty.ensures.result_value,
  c.store.ensures.2 ∙ c.empty.ensures.lines_value,
)
