-- What the check's number tells: a valid subtelegram has at most 21 bytes, and one that is not has 1, 2, 3 or 13.
use Prim.Native.Nat.{ℕ, ◌≤◌}
use mathlib.Core.Path.{◌≡◌, refl, sym}
use mathlib.Core.Bool.{Bool, true, false, cond, not, ◌&&◌, ◌||◌, false≢true}
use mathlib.Core.List.{List}
use lib.Dec.{ltb, eqb}
use lib.ListN.{length}
use borrow.Author.Tests.{ltb-false}
use Rattle.base_lists.proofs.Tests.{branch}
use Rattle.base_refusal.specs.Number.{number_of}
use Rattle.base_refusal.specs.declared.Refusal.TheVariants.{Length, Sum, Crc, Nested}
use Rattle.base_refusal.specs.declared.Refusal.{Refusal}
use Rattle.radio_erp1.specs.Status.{split_of}
use Rattle.radio_erp1.specs.Subtelegram.{min_length, min_addressed_length, max_length, is_length_wrong, is_hashed, is_addressed, is_nested, status_of, check_of, is_valid}

pub valid-length : (s : List ℕ) → is_valid s ≡ true → length s ≤ max_length
unfolding check_of
valid-length s e = ltb-false max_length (length s) (go (ltb (length s) min_length) (ltb max_length (length s)) _ e)
  where
    go : (a b : Bool) (n : ℕ) → eqb (cond (a || b) (number_of Length) n) 0 ≡ true → b ≡ false
    go true b n h = absurd (false≢true h)
    go false true n h = absurd (false≢true h)
    go false false n h = refl

-- the numbers of a check that fails
pub data Failed : ℕ → Type 0 where
  length_wrong : Failed (number_of Length)
  sum_wrong : Failed (number_of Sum)
  crc_wrong : Failed (number_of Crc)
  nested : Failed (number_of Nested)

pub check_failed : (s : List ℕ) → is_valid s ≡ false → Failed (check_of s)
unfolding check_of
check_failed s =
    branch (λ n. eqb n 0 ≡ false → Failed n) (is_length_wrong s) (λ _ _. length_wrong)
    λ _. branch (λ n. eqb n 0 ≡ false → Failed n) (not (is_hashed s))
    (λ _ _. branch (λ (why : Refusal). Failed (number_of why))
    (split_of (status_of s)).crc (λ _. crc_wrong) (λ _. sum_wrong))
    λ _. branch (λ n. eqb n 0 ≡ false → Failed n)
    (is_addressed s && ltb (length s) min_addressed_length) (λ _ _. length_wrong)
    λ _. branch (λ n. eqb n 0 ≡ false → Failed n) (is_addressed s && is_nested s) (λ _ _. nested)
    λ _ h. absurd (false≢true (sym h))
