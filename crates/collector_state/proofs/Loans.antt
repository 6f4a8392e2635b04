-- Calls that lend the same arrays again, none and two.
use mathlib.Core.Path.{refl, ◌∙◌}
use Rattle.collector_state.specs.declared.Lent.{Lent}
use Rattle.collector_state.specs.Collector.{SameArrays}

pub same_loans : (s : Lent) → SameArrays s s
same_loans s = record { times = refl; lens = refl; bytes = refl; copies = refl }

pub both_loans : {s s' s'' : Lent} → SameArrays s s' → SameArrays s' s'' → SameArrays s s''
both_loans a b = record {
  times = b.times ∙ a.times;
  lens = b.lens ∙ a.lens;
  bytes = b.bytes ∙ a.bytes;
  copies = b.copies ∙ a.copies;
}
