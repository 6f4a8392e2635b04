-- What a restore writes into the five arrays of a collector (document 01, "Parked collector").
use Rattle.std.specs.Prelude.{ℕ, ◌≡◌, List}
use Rattle.collector_model.specs.Image.{RestoreResult, parse, restore_of}
use Rattle.collector_state.specs.Collector.{columns_holding}
use Rattle.c_collector.specs.State.{Arrays, columns_at, state_at, numbers_of}

-- the result of a restore: the number, and the state in the arrays
abbrev pub restore_result : ℕ → Arrays → RestoreResult
restore_result number s = record { number = number; next = state_at s }

-- "11: image or state not accepted; the collector stays as it was": the number, and the arrays before and after the
-- call
pub record Restores (s : Arrays) (image : List ℕ) (number : ℕ) (s' : Arrays) : Type 0 where
  pub result : restore_result number s' ≡ restore_of (state_at s) image
  pub counted : number ≡ 0 → s'.numbers ≡ numbers_of (parse image)
  pub elements : number ≡ 0 → columns_at s' ≡ columns_holding (parse image).entries
  -- after a refusal, every number of the five arrays is unchanged
  pub stays : (number ≡ 0 → ⊥) → s' ≡ s
