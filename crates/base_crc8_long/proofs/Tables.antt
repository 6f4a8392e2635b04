-- What the tables hold, from the one test that antt computes.
--     tables-entry     entry 256 j + b is the remainder of b times x^(8 (j + 1)): table j + 1 is table j, one division further
use mathlib.Core.Path.{◌≡◌, refl, sym, ap, ◌∙◌}
use mathlib.Core.Bool.{true}
use mathlib.Core.List.{List, ◌++◌, map, map-id}
use Prim.Native.Nat.{ℕ, zero, suc, ◌+◌, ◌*◌, ◌<◌}
use native.Mathlib.Nat.{zero-add}
use native.Mathlib.Omega.{arith}
use borrow.Author.Tests.{eqb-true}
use lib.Dec.{eqb}
use lib.ListN.{length, get_or, take, length-append, length-take, get_or-append}
use lib.Seq.{get_or-take, get_or-append-add}
use Rattle.base_lists.specs.Lists.{up_from}
use Rattle.base_lists.proofs.Choice.{both}
use Rattle.base_lists.proofs.Equal.{equal_eq}
use Rattle.base_lists.proofs.Tests.{get_d_map}
use Rattle.base_lists.proofs.UpFrom.{length-up_from, get_d_up_from}
use Rattle.base_crc8.specs.Crc8.{remainder_of}
use Rattle.base_crc8.specs.Words.{power_of}
use Rattle.base_crc8_long.specs.Tables.{is_tables}

-- one division further, before or after the others
power_more : (n b : ℕ) → remainder_of (power_of n b) ≡ power_of (suc n) b
unfolding power_of
power_more zero b = refl
power_more (suc n) b = power_more n (remainder_of b)

module _ (tables : List ℕ) (t : is_tables tables ≡ true) where
  long : length tables ≡ 2048
  unfolding is_tables
  long = eqb-true (length tables) 2048 (both (eqb (length tables) 2048) _ t).0

  -- what the entries are the remainders of
  abbrev before : List ℕ
  before = up_from 0 256 ++ take 1792 tables

  before_long : length before ≡ 2048
  before_long =
      length-append (up_from 0 256) (take 1792 tables)
      ∙ omega (arith, long, length-up_from 0 256, length-take 1792 tables)

  entry : (i : ℕ) → i < 2048 → get_or tables i 0 ≡ remainder_of (get_or before i 0)
  unfolding is_tables
  entry i h =
      ap (λ (l : List ℕ). get_or l i 0)
      (equal_eq tables (map remainder_of before) (rw (both (eqb (length tables) 2048) _ t).1 tt))
      ∙ get_d_map remainder_of before i 0 0 (omega (arith, before_long))

  first : (b : ℕ) → b < 256 → get_or before b 0 ≡ b
  first b h =
      get_or-append (up_from 0 256) (take 1792 tables) 0 b (omega (arith, length-up_from 0 256))
      ∙ ap (λ (l : List ℕ). get_or l b 0) (sym (map-id (up_from 0 256))) ∙ get_d_up_from (λ x. x) 0 256 b 0 h
      ∙ zero-add b

  later : (i : ℕ) → i < 1792 → get_or before (256 + i) 0 ≡ get_or tables i 0
  later i h =
      ap (λ (n : ℕ). get_or before (n + i) 0) (sym (length-up_from 0 256))
      ∙ get_or-append-add (up_from 0 256) (take 1792 tables) i 0 ∙ get_or-take 1792 tables i 0 h

  pub tables-entry : (j b : ℕ) → j < 8 → b < 256 → get_or tables (256 * j + b) 0 ≡ power_of (suc j) b
  unfolding power_of
  tables-entry zero b h k =
      let e : 256 * 0 + b ≡ b = omega arith in
      ap (λ (n : ℕ). get_or tables n 0) e ∙ entry b (omega arith) ∙ ap remainder_of (first b k)
  tables-entry (suc j) b h k =
      let e : 256 * suc j + b ≡ 256 + (256 * j + b) = omega arith in
      ap (λ (n : ℕ). get_or tables n 0) e ∙ entry (256 + (256 * j + b)) (omega arith)
      ∙ ap remainder_of (later (256 * j + b) (omega arith) ∙ tables-entry j b (omega arith) k) ∙ power_more (suc j) b
