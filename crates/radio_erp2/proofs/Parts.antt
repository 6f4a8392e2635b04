-- Short parts as numbers, and lookups in the tables of sizes.
use mathlib.Core.Path.{◌≡◌, refl, ap, ◌∙◌}
use lib.Seq.{take_all}
use mathlib.Core.Bool.{Bool, true, false, cond, not, beq}
use mathlib.Core.List.{List, [], ◌∷◌}
use Rattle.std.specs.Bool.{then_some}
use Rattle.std.specs.Prelude.{Some, None, unwrap_or, slice_get}
use Rattle.radio_erp2_model.specs.Building.{differ}
use Prim.Native.Nat.{ℕ, zero, suc, ◌+◌, ◌-◌, ◌^◌, ◌≤◌, ◌<◌}
use native.Mathlib.Nat.{pow-le-pow_right}
use native.Mathlib.Omega.{arith}
use lib.ListN.{length, get_or, take, drop, length-take}
use Rattle.base_buffers.specs.Buffer.{part}
use Rattle.base_buffers.proofs.Segments.{part-ends}
use Rattle.block_layout.specs.BigEndian.{unbe, unbe_from}
use Rattle.radio_erp2_model.specs.Sizes.{originators, short_originators}

pub first_number : (xs : List ℕ) → length xs ≤ 1 → unwrap_or (slice_get xs 0) 0 ≡ unbe xs
unfolding unbe unbe_from
first_number [] h = refl
first_number (x ∷ []) h = omega arith
first_number (x ∷ y ∷ xs) h = absurd (over (length xs) h)
  where
    over : (n : ℕ) → suc (suc n) ≤ 1 → ⊥
    over n h = omega arith

-- a value that is there by a flag
pub then_cond : {A : Type 0} (b : Bool) (x : A) → then_some b x ≡ cond b (Some x) None
then_cond true x = refl
then_cond false x = refl

-- two tests that are not the same answer
pub not_same : (a b : Bool) → not (beq a b) ≡ differ a b
not_same true true = refl
not_same true false = refl
not_same false true = refl
not_same false false = refl

-- four bytes fit 32 bits
pub four_lt : (i n : ℕ) → i ≤ 4 → n < 256 ^ i → n < 2 ^ 32
four_lt i n h k =
    let p : 256 ^ i ≤ 256 ^ 4 = pow-le-pow_right (omega arith) h in
    omega arith

pub take_short : (n m : ℕ) (xs : List ℕ) → n ≤ m → length (take n xs) ≤ m
take_short n m xs h = rw (length-take n xs) (omega arith)

pub part-short : (a n m : ℕ) (xs : List ℕ) → n ≤ m → length (part a (a + n - a) xs) ≤ m
part-short a n m xs h = rw (part-ends a n xs) (take_short n m (drop a xs) h)

-- the limits are the powers of 256
abbrev limits : List ℕ
limits = 1 ∷ 256 ∷ 65_536 ∷ 16_777_216 ∷ 4_294_967_296 ∷ 1_099_511_627_776 ∷ 281_474_976_710_656 ∷ []

pub limit_is : (n : ℕ) → n ≤ 6 → get_or limits n 0 ≡ 256 ^ n
limit_is zero h = refl
limit_is (suc zero) h = refl
limit_is (suc (suc zero)) h = refl
limit_is (suc (suc (suc zero))) h = refl
limit_is (suc (suc (suc (suc zero)))) h = refl
limit_is (suc (suc (suc (suc (suc zero))))) h = refl
limit_is (suc (suc (suc (suc (suc (suc zero)))))) h = refl
limit_is (suc (suc (suc (suc (suc (suc (suc l))))))) h = absurd (over l h)
  where
    over : (n : ℕ) → suc (suc (suc (suc (suc (suc (suc n)))))) ≤ 6 → ⊥
    over n h = omega arith

-- the number that a part of at most eight bytes spells, as the first eight of its bytes
pub number-part : (a w : ℕ) (s : List ℕ) → w ≤ 8 → unbe (take 8 (part a (a + w - a) s)) ≡ unbe (part a w s)
number-part a w s h =
    ap unbe (ap (take 8) (part-ends a w s) ∙ take_all 8 (part a w s) (take_short w 8 (drop a s) h))
