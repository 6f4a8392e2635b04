-- `collector_state::Collector::take` meets its contract: what is admitted as the test of the state says is a step.
use mathlib.Core.Path.{◌∙◌}
use Rattle.collector_state.specs.Collector.{view_of}
use Rattle.collector_state.specs.Admission.{collector_of}
use Rattle.collector_state.proofs.Stepping.{admission-fit, columns-fit}
use Rattle.collector_state.proofs.Collector.take.Goals as goal

pub returns : goal.returns
unfolding view_of
returns c =
    let tested = c.is_acceptable-fit.ensures c.args.self.copies in
    let k = c.admit-answer.ensures.admits in
    record {
      outcome = k.outcome ∙ admission-fit _ _ _ tested;
      elements = k.elements ∙ columns-fit _ _ _ _ tested;
      stays = λ e. let same = k.stays e in λ i. collector_of (same.0 i) (same.1 i);
    }
