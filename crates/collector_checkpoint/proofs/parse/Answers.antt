-- `collector_checkpoint::parse` meets its contract, field by field.
use mathlib.Core.Path.{refl, ap, ◌∙◌}
use Prim.Native.Nat.{ℕ}
use mathlib.Core.List.{[], flatten}
use Rattle.collector_model.specs.Image.{parse}
use Rattle.collector_state.specs.Collector.{columns_holding, view_of}
use Rattle.collector_checkpoint.specs.Private.{columns_over, entries_in}
use Rattle.collector_checkpoint.proofs.parse.Goals as goal

pub read_entries-requires : goal.read_entries-requires
read_entries-requires c =
    (refl, refl, refl, refl, c.requires.0, rw c.count_in-count.ensures c.requires.1)

pub returns : goal.returns
unfolding view_of parse columns_holding flatten
returns c =
    let image = c.args.image.now in
    record {
      state = λ i. record {
        latest = c.first_in-latest.ensures i;
        totals = c.totals_in-totals.ensures i;
        entries = (c.read_entries.ensures.entries ∙ ap (entries_in image) c.count_in-count.ensures) i;
      };
      elements =
          c.read_entries.ensures.elements
          ∙ ap (λ (k : ℕ). columns_over image k (columns_holding [])) c.count_in-count.ensures;
    }
