-- `archive_report::Adding::end` meets its contract.
use mathlib.Core.Path.{refl, sym, ap, ◌∙◌}
use Rattle.base_refusal.specs.declared.Refusal.TheVariants.{NotAccepted}
use Rattle.archive_report_model.specs.Report.{Addition}
use Rattle.archive_report_model.specs.Pieces.{closing}
use Rattle.archive_report.specs.Report.{report_of, adding_of, lines_ended}
use Rattle.archive_report.proofs.Calls.{stay, end_not, end_done}
use Rattle.archive_report.proofs.Adding.end.Goals as goal

pub returns-then-not-is_adding : goal.returns-then-not-is_adding
returns-then-not-is_adding c =
    let a = c.args.self in
    let is = end_not (adding_of a) (sym c.is_adding.ensures ∙ c.if-not-is_adding.true) in record {
      result_value = is;
      lines_value = stay _ NotAccepted a.lines a.before.lines (sym (ap (λ (x : Addition). x.number) is)) refl;
    }

pub returns : goal.returns
returns c =
    let a = c.args.self in
    let is = c.close.ensures.0 ∙ ap (closing (report_of a.before)) c.so_far.ensures
    ∙ end_done (adding_of a) (sym c.is_adding.ensures ∙ c.if-not-is_adding.false) in
    record {
      result_value = is;
      lines_value = c.close.ensures.1 ∙ ap (λ (x : Addition). lines_ended x a.lines a.before.lines) is;
    }
