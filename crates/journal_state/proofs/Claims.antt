-- The claims of specs/Claims.
use Prim.Native.Nat.{ℕ}
use native.Mathlib.Omega.{arith}
use mathlib.Core.Path.{◌≡◌, ap, ap₂, ◌∙◌}
use mathlib.Core.Bool.{true, cond}
use mathlib.Core.List.{List}
use lib.Dec.{eqb}
use lib.ListN.{length, take}
use lib.Seq.{take_all}
use Rattle.base_lists.specs.Lists.{equal}
use Rattle.base_lists.proofs.Choice.{both}
use Rattle.base_lists.proofs.Equal.{equal_eq, equal-refl}
use Rattle.journal_state.specs.State.{Kept, old_length, version_of, state_bytes, read_state}
use Rattle.journal_state.specs.Lawful.{is_lawful_state, is_plain, accepts_state}
use Rattle.journal_state.specs.Claims.{IsKept, StateRead, StateWritten}
use Rattle.journal_state.proofs.Read.{state-length, read_back}

pub state-written : StateWritten
unfolding accepts_state
state-written bytes h =
    let a = both (cond (eqb (length bytes) old_length) (is_plain (read_state bytes)) true) _ h in
    let b = both (is_lawful_state (read_state bytes)) _ a.1 in (
      b.0,
      equal_eq (take (length bytes) (state_bytes (read_state bytes) (version_of (length bytes)))) bytes (rw
          b.1 tt),
    )

module _ (k : Kept) (z : IsKept k) (h : is_lawful_state k ≡ true) where
  abbrev file : List ℕ
  file = state_bytes k 2

  same : take (length file) (state_bytes (read_state file) (version_of (length file))) ≡ file
  same =
      ap₂ (λ (n : ℕ) (s : Kept). take (length file) (state_bytes s n)) (ap version_of (state-length k z 2))
      (read_back k z 2 h)
      ∙ take_all (length file) file (omega arith)

  taken : accepts_state file ≡ true
  unfolding accepts_state
  taken =
      let said : cond (eqb (length file) old_length) (is_plain (read_state file)) true
      ≡ true = rw (state-length k z 2) in
      let law : is_lawful_state (read_state file) ≡ true = ap is_lawful_state (read_back k z 2 h) ∙ h in
      let again : equal (take (length file) (state_bytes (read_state file) (version_of (length file)))) file ≡ true =
      ap (λ (l : List ℕ). equal l file) same ∙ equal-refl file in
      rw (said, law, again)

pub state_read : StateRead
state_read k z h = (read_back k z 2 h, taken k z h)
