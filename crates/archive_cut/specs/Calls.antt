-- The answer of `cut_block` and the block after it, as one record that the definitions can be compared with.
use Rattle.std.specs.Prelude.{ℕ, List, Result, ⊤}
use Rattle.base_refusal.specs.Number.{outcome_number}
use Rattle.archive_cut.specs.Cut.{CutBlock}
use Rattle.base_refusal.specs.declared.Refusal.{Refusal}

abbrev pub cut_block_result : Result ⊤ Refusal → List ℕ → CutBlock
cut_block_result r after = record { number = outcome_number r; block = after }
