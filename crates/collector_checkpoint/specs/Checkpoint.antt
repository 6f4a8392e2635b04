-- The results of a checkpoint and a restore, as the model names them (document 01, "Parked collector").
use Rattle.std.specs.Prelude.{ℕ, ◌≡◌, List, Result, ⊤}
use Rattle.base_refusal.specs.Number.{outcome_number}
use Rattle.collector_model.specs.Image.{CheckpointResult, RestoreResult, parse, restore_of}
use Rattle.collector_state.specs.declared.Collector.{Collector}
use Rattle.collector_state.specs.Collector.{columns_of, columns_holding, view_of, next_number, next_in}
use Rattle.base_refusal.specs.declared.Refusal.{Refusal}

-- the number, and the output after the call
abbrev pub checkpoint_result : Result ⊤ Refusal → List ℕ → CheckpointResult
checkpoint_result r output = record { number = outcome_number r; output = output }

-- the number, and the state of the collector after the call
abbrev pub restore_result : Collector → Result Collector Refusal → RestoreResult
restore_result c r = record { number = next_number r; next = view_of (next_in c r) }

-- every element of the arrays; "11: .. the collector stays as it was": after a refusal the state is exactly the one
-- that was handed in
pub record Restores (c : Collector) (image : List ℕ) (r : Result Collector Refusal) : Type 0 where
  pub result : restore_result c r ≡ restore_of (view_of c) image
  pub elements : next_number r ≡ 0 → columns_of (next_in c r) ≡ columns_holding (parse image).entries
  pub stays : (next_number r ≡ 0 → ⊥) → next_in c r ≡ c
