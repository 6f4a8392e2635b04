-- Lent memory after a call, by its number.
--     done-is, done-not             what is handed back, and what stays
--     mismatch-is, mismatch-not     the same of a position
use Prim.Native.Nat.{ℕ}
use mathlib.Core.Path.{◌≡◌}
use borrow.Author.Tests.{ne_eqb}
use Rattle.base_refusal.specs.Number.{number_of}
use Rattle.base_refusal.specs.declared.Refusal.TheVariants.{Mismatch}
use Rattle.c_layout.specs.Lent.{if_done, if_mismatch}

module _ {A : Type 0} (number : ℕ) (given old : A) where
  pub done_is : number ≡ 0 → given ≡ if_done number given old
  done_is e = rw e

  pub done-not : (number ≡ 0 → ⊥) → old ≡ if_done number given old
  done-not n = rw (ne_eqb number 0 n)

module _ (number position old : ℕ) where
  pub mismatch_is : number ≡ number_of Mismatch → position ≡ if_mismatch number position old
  mismatch_is e = rw e

  pub mismatch-not : (number ≡ number_of Mismatch → ⊥) → old ≡ if_mismatch number position old
  mismatch-not n = rw (ne_eqb number (number_of Mismatch) n)
