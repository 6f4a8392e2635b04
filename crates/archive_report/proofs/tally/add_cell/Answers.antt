-- `archive_report::tally::add_cell` meets its contract.
use mathlib.Core.Bool.{cond}
use Rattle.archive_report.proofs.Windows.{inserted_as}
use Rattle.archive_report.proofs.tally.add_cell.Goals as goal

pub returns : goal.returns
returns c =
    inserted_as
    (λ i. record {
      identity = c.identity_of.ensures i;
      kept = cond (c.is_loose.ensures i) 0 1;
      loose = cond (c.is_loose.ensures i) 1 0;
      earliest = c.cell_time.ensures i;
      latest = c.cell_time.ensures i;
    })
    c.add_row.ensures
