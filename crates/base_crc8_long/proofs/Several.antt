-- Several bytes at once.
--     crc-at         a byte, looked up by itself, and those after it
--     eight_is       eight bytes, each looked up by itself
--     crc-part       a part, and what follows it
use mathlib.Core.Path.{◌≡◌, refl, sym, ap, ◌∙◌}
use mathlib.Core.List.{List, [], ◌∷◌, ◌++◌}
use Prim.Native.Nat.{ℕ, suc, ◌+◌, ◌≤◌}
use native.Mathlib.Omega.{arith}
use lib.Bits.{bit_xor, xor_zero_r}
use lib.ListN.{length, get_or, drop, length-drop, drop_of_length-le}
use lib.Seq.{drop-cons}
use Rattle.base_crc8.specs.Crc8.{remainder_of, step_of, crc_from}
use Rattle.base_crc8.specs.Words.{power_of}
use Rattle.base_crc8.proofs.Words.{crc_linear}

power_suc : (n b : ℕ) → power_of (suc n) b ≡ power_of n (remainder_of b)
unfolding power_of
power_suc n b = refl

pub crc_at : (c : ℕ) (bs : List ℕ) (i n : ℕ) → i + suc n ≡ length bs
    → crc_from c (drop i bs) ≡ bit_xor (power_of (suc n) (bit_xor c (get_or bs i 0))) (crc_from 0 (drop (suc i) bs))
unfolding step_of
crc_at c bs i n e =
    let l : length (drop (suc i) bs) ≡ n = length-drop (suc i) bs ∙ omega arith in
    ap (crc_from c) (drop-cons bs i 0 (omega arith)) ∙ crc_linear (step_of c (get_or bs i 0)) (drop (suc i) bs)
    ∙ ap (λ (k : ℕ). bit_xor (power_of k (remainder_of (bit_xor c (get_or bs i 0)))) (crc_from 0 (drop (suc i) bs))) l
    ∙ ap (λ (x : ℕ). bit_xor x (crc_from 0 (drop (suc i) bs))) (sym (power_suc n (bit_xor c (get_or bs i 0))))

pub eight_is : (c : ℕ) (b : List ℕ) → length b ≡ 8
    → bit_xor (power_of 8 (bit_xor c (get_or b 0 0)))
    (bit_xor (power_of 7 (get_or b 1 0)) (bit_xor (power_of 6 (get_or b 2 0)) (bit_xor (power_of 5 (get_or b 3 0))
    (bit_xor (power_of 4 (get_or b 4 0))
    (bit_xor (power_of 3 (get_or b 5 0)) (bit_xor (power_of 2 (get_or b 6 0)) (power_of 1 (get_or b 7 0))))))))
    ≡ crc_from c b
eight_is c b h =
    let h8 : length b ≤ 8 = omega arith in
    let e8 : drop 8 b ≡ [] = drop_of_length-le b h8 in
    let l7 : crc_from 0 (drop 7 b) ≡ power_of 1 (get_or b 7 0) =
    crc_at 0 b 7 0 (omega arith) ∙ ap (λ (l : List ℕ). bit_xor (power_of 1 (get_or b 7 0)) (crc_from 0 l)) e8
    ∙ xor_zero_r (power_of 1 (get_or b 7 0)) in
    let l6 = crc_at 0 b 6 1 (omega arith) ∙ ap (bit_xor (power_of 2 (get_or b 6 0))) l7 in
    let l5 = crc_at 0 b 5 2 (omega arith) ∙ ap (bit_xor (power_of 3 (get_or b 5 0))) l6 in
    let l4 = crc_at 0 b 4 3 (omega arith) ∙ ap (bit_xor (power_of 4 (get_or b 4 0))) l5 in
    let l3 = crc_at 0 b 3 4 (omega arith) ∙ ap (bit_xor (power_of 5 (get_or b 3 0))) l4 in
    let l2 = crc_at 0 b 2 5 (omega arith) ∙ ap (bit_xor (power_of 6 (get_or b 2 0))) l3 in
    let l1 = crc_at 0 b 1 6 (omega arith) ∙ ap (bit_xor (power_of 7 (get_or b 1 0))) l2 in
    sym (crc_at c b 0 7 (omega arith) ∙ ap (bit_xor (power_of 8 (bit_xor c (get_or b 0 0)))) l1)

-- a part, and what follows it
pub crc-part : (c : ℕ) (xs ys : List ℕ) → crc_from c (xs ++ ys) ≡ crc_from (crc_from c xs) ys
crc-part c [] ys = refl
crc-part c (x ∷ xs) ys = crc-part (step_of c x) xs ys
