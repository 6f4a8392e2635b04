-- `c_report::add` meets its contract: what `archive_report` answers is settled.
use mathlib.Core.Path.{ap, ap₂, ◌∙◌}
use mathlib.Core.List.{List}
use Prim.Native.Nat.{ℕ}
use Rattle.archive_report_model.specs.Report as model
use Rattle.archive_report.specs.Report.{lines_added}
use Rattle.c_report.proofs.Calls.{adds_as}
use Rattle.c_report.proofs.add.Goals as goal

pub returns : goal.returns
returns c =
    let buffer = c.args.buffer.now in
    let r = c.report_in.ensures in
    adds_as
    (c.add.ensures.result_value ∙ ap (λ (x : model.Report). model.add_of x buffer) r.0)
    (λ z.
    c.add.ensures.lines_value
    ∙ ap₂ (λ (x : model.Report) (l : List ℕ). lines_added (model.add_of x buffer) l) r.0 r.1)
    (c.settle_report.ensures c.report_in.result r.0)
