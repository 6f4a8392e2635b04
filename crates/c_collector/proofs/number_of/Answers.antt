-- `c_collector::number_of` meets its contract: each arm is what `shown_number` says of it.
use mathlib.Core.Path.{sym, ap, ◌∙◌}
use Rattle.collector_model.specs.Answer.{shown_of, shown_number}
use Rattle.collector_model.specs.declared.Answer.{Answer}
use Rattle.c_collector.proofs.number_of.Goals as goal

pub returns-in-Refused : goal.returns-in-Refused
returns-in-Refused c =
    c.number.ensures ∙ ap (λ (a : Answer). shown_number (shown_of a)) (sym c.in-Refused.is)
