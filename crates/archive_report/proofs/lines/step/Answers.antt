-- `archive_report::lines::step` meets its contract.
use mathlib.Core.Path.{sym, ap}
use mathlib.Core.Bool.{Bool, cond}
use Rattle.archive_report.proofs.lines.step.Goals as goal

pub returns-then-end-count : goal.returns-then-end-count
returns-then-end-count c = let a = c.args in sym (ap (λ (t : Bool). cond t a.end a.low) c.if-end-count.true)

pub returns : goal.returns
returns c = let a = c.args in sym (ap (λ (t : Bool). cond t a.end a.low) c.if-end-count.false)
