-- The claim on the numbers. proofs/Numbers.antt proves it.
use Rattle.std.specs.Prelude.{◌≡◌}
use Rattle.base_refusal.specs.declared.Refusal.{Refusal}
use Rattle.base_refusal.specs.Number.{number_of}

-- 0 means done (document 01, "Numbers a caller sees"): no refusal has this number
abbrev pub NoneIsDone : Type 0
NoneIsDone = (r : Refusal) → number_of r ≡ 0 → ⊥
