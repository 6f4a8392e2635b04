-- `archive_report::start` meets its contract.
use Rattle.archive_report.specs.Lines.{lines_at}
use mathlib.Core.Bool.{false}
use Rattle.archive_report.proofs.start.Goals as goal

pub returns : goal.returns
returns c =
    λ lines i.
    record {
      lines = lines_at lines c.args.count;
      kept = c.args.kept;
      loose = c.args.loose;
      over = false;
      scan = c.start.ensures i;
    }
