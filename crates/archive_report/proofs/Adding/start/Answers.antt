-- `archive_report::Adding::start` meets its contract.
use mathlib.Core.Path.{refl, ap}
use mathlib.Core.Bool.{false}
use Rattle.archive_model.specs.Buffer.{Scan}
use Rattle.archive_report_model.specs.Pieces.{adding}
use Rattle.archive_report.specs.Lines.{lines_at}
use Rattle.archive_report.specs.Report.{report_of}
use Rattle.archive_report.proofs.Adding.start.Goals as goal

pub returns : goal.returns
returns c =
    let s = c.args.report in record {
      result_value = ap (λ (scan : Scan). adding (report_of s)
          (record {
            lines = lines_at s.lines s.count;
            kept = s.kept;
            loose = s.loose;
            over = false;
            scan = scan;
          }))
          c.start-scan.ensures;
      before_value = (refl, refl);
    }
