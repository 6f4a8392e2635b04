-- `archive_report::close` meets its contract.
use mathlib.Core.Path.{◌≡◌, refl, sym, ap, ◌∙◌}
use mathlib.Core.Logic.{◌⊎◌, inl, inr}
use Rattle.archive_model.specs.Buffer.{Found, None, stage_found}
use Rattle.archive_file.specs.Archive.{stage_of}
use Rattle.archive_file.specs.declared.Stage.{Stage}
use Rattle.archive_file.specs.declared.Stage.TheVariants as stage
use Rattle.archive_report_model.specs.Report.{Report}
use Rattle.archive_report_model.specs.Pieces.{Tally, tally_addition, closing}
use Rattle.archive_report.specs.Report.{report_of}
use Rattle.archive_report.specs.Private.{tally_of}
use Rattle.archive_report.proofs.close.Goals as goal

-- the answer by what the scan has found
closed : (s : Report) (t : Tally) {f : Found} → f ≡ stage_found t.scan.stage → tally_addition s t f ≡ closing s t
unfolding closing
closed s t e = ap (tally_addition s t) e

-- no block was wrong
none_wrong : {s : Stage} → (s ≡ stage.Filling) ⊎ ((s ≡ stage.Short) ⊎ (s ≡ stage.Ended))
    → None ≡ stage_found (stage_of s)
none_wrong (inl e) = ap (λ (t : Stage). stage_found (stage_of t)) (sym e)
none_wrong (inr (inl e)) = ap (λ (t : Stage). stage_found (stage_of t)) (sym e)
none_wrong (inr (inr e)) = ap (λ (t : Stage). stage_found (stage_of t)) (sym e)

pub returns-in-Filling : goal.returns-in-Filling
returns-in-Filling c =
    let a = c.args in (
      c.sum_up.ensures.0 ∙ closed (report_of a.before) (tally_of a.t a.lines) (none_wrong c.in-Filling.is),
      c.sum_up.ensures.1,
    )

pub returns-in-Wrong : goal.returns-in-Wrong
returns-in-Wrong c =
    let a = c.args in (
      closed (report_of a.before) (tally_of a.t a.lines)
          (ap (λ (t : Stage). stage_found (stage_of t)) (sym c.in-Wrong.is)),
      refl,
    )
