-- `c_collector::is_acceptable` meets its contract: the numbers are those of the state.
use mathlib.Core.Path.{ap, ◌∙◌}
use Rattle.collector_model.specs.Acceptable.{acceptable}
use Rattle.collector_state.specs.declared.Summary.{Summary}
use Rattle.collector_state.specs.Collector.{columns, view_in}
use Rattle.c_collector.proofs.is_acceptable.Goals as goal

pub returns : goal.returns
returns c = λ copies.
    let a = c.args in
    c.is_acceptable.ensures copies
    ∙ ap (λ (s : Summary). acceptable (view_in (columns a.times.now a.lengths.now a.bytes.now copies) s))
    c.summary_in.ensures.0
