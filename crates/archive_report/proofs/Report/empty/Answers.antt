-- `archive_report::Report::empty` meets its contract.
use Rattle.archive_report.proofs.Windows.{lines_none}
use Rattle.archive_report.proofs.Report.empty.Goals as goal

pub returns : goal.returns
returns c = record {
  result_value = λ i. record { archives = 0; lines = lines_none c.no_lines.result 0 i; kept = 0; loose = 0 };
  lines_value = c.no_lines.ensures;
}
