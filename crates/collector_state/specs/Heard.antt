-- How often a telegram was heard (document 02, A8): the result of the call.
use Rattle.std.specs.Prelude.{ℕ, Result, Ok, Err}
use Rattle.base_refusal.specs.Number.{number_of}
use Rattle.base_refusal.specs.declared.Refusal.{Refusal}
use Rattle.collector_model.specs.Heard.{HeardResult}

-- the number, and the copies; 0 with a refusal
abbrev pub heard_of : Result ℕ Refusal → HeardResult
heard_of (Ok copies) = record { number = 0; copies = copies }
heard_of (Err why) = record { number = number_of why; copies = 0 }
