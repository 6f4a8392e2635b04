-- `c_report::line` meets its contract: beside a refusal no number is written.
use mathlib.Core.Path.{◌≡◌, ◌∙◌, sym, ap}
use Rattle.std.specs.Prelude.{Result}
use Rattle.base_refusal.specs.Number.{number_of}
use Rattle.base_refusal.specs.declared.Refusal.{Refusal}
use Rattle.base_refusal.proofs.Numbers.{refused-number}
use Rattle.archive_report_model.specs.Report as model
use Rattle.archive_report.specs.declared.Line.{Line}
use Rattle.archive_report.specs.Report.{line_result}
use Rattle.c_report.specs.Calls.{report_at, answered_line}
use Rattle.c_report.proofs.Calls.{line-not}
use Rattle.c_report.proofs.line.Goals.{After-line}
use Rattle.c_report.proofs.line.Goals as goal

-- what is answered for a line
told : (c : After-line) (r : Result Line Refusal) → c.line.result ≡ r
    → answered_line (line_result r) c.args.line.now
    ≡ answered_line (model.line_of_report (report_at c.args.numbers.now c.args.lines.now) c.args.i) c.args.line.now
told c r e =
    ap (λ (a : model.LineAnswer). answered_line a c.args.line.now)
    (ap line_result (sym e) ∙ c.line.ensures
    ∙ ap (λ (s : model.Report). model.line_of_report s c.args.i) c.report_in.ensures.0)

pub returns-in-Ok : goal.returns-in-Ok
returns-in-Ok c = told c.before.before _ c.in-Ok.is

pub returns-in-Err : goal.returns-in-Err
returns-in-Err c =
    line-not c.number.result (record { number = number_of c.in-Err.why; line = model.no_line }) c.args.line.now
    c.number.ensures
    (λ z. refused-number c.in-Err.why (sym c.number.ensures ∙ z))
    ∙ told c.before.before _ c.in-Err.is
