-- `c_pieces::adding::start` meets its contract.
use mathlib.Core.Path.{ap, ◌∙◌}
use Rattle.archive_report_model.specs.Report.{Report}
use Rattle.archive_report_model.specs.Pieces.{Tally, Adding, adding, start_adding}
use Rattle.c_report.specs.Calls.{report_at}
use Rattle.c_pieces.specs.Adding.{tally_numbers}
use Rattle.c_pieces.proofs.adding.start.Goals as goal

pub returns : goal.returns
returns c =
    let a = c.args in
    let is =
    ap (λ (x : Adding). x.tally)
    (c.start.ensures.result_value ∙ ap (λ (x : Report). start_adding x) c.report_in-r.ensures.0) in (
      ap (λ (t : Tally). adding (report_at a.numbers.now a.lines.now) t) (c.store.ensures.0 ∙ is),
      c.store.ensures.1 ∙ ap tally_numbers is,
      c.store.ensures.2 ∙ c.start.ensures.before_value.1 ∙ c.report_in-r.ensures.1,
    )
