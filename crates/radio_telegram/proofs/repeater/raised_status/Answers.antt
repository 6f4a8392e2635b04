-- `radio_telegram::repeater::raised_status` meets its contract: a level is below 16, so that one more fits a byte.
use mathlib.Core.Path.{ap, ◌∙◌}
use native.Mathlib.Omega.{arith}
use Rattle.radio_erp1.specs.declared.status.Status.{Status}
use Rattle.radio_erp1.specs.Status.{join_of}
use Rattle.radio_telegram.specs.Repeater.{raise}
use Rattle.radio_telegram.proofs.repeater.raised_status.Goals as goal

pub overflow_add-parts : goal.overflow_add-parts
overflow_add-parts c = omega (arith, ap (λ (s : Status). s.level) c.split-parts.ensures)

pub returns : goal.returns
returns c = c.join.ensures ∙ ap (λ (s : Status). join_of (raise s)) c.split-parts.ensures
