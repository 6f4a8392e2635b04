-- The remainder is linear: that of a sum is the sum of the remainders. So several bytes can be taken at once.
--     xor_assoc, xor-middle     the sum of polynomials
--     remainder-xor             linearity
use mathlib.Core.Path.{◌≡◌, refl, sym, ap, ap₂, ◌∙◌}
use Prim.Native.Nat.{ℕ, zero, suc, ◌+◌, ◌*◌, ◌/◌, ◌%◌, ◌^◌, ◌<◌}
use native.Mathlib.Nat.{mod-lt, zero-mul, add-zero}
use native.Mathlib.Omega.{arith}
use lib.Arith.{bin_ind}
use lib.Pow.{pow_pos}
use lib.Bits.{bit_xor, differ, xor_step, xor_zero_l, xor_zero_r, xor_comm, xor_self, xor_block, xor_shr, xor_mod}
use Rattle.base_crc8.specs.Crc8.{generator, coefficient, cancel, divide_out, remainder_of}

bits_assoc : (x y z : ℕ) → x < 2 → y < 2 → z < 2 → differ (bit_xor x y) z ≡ differ x (bit_xor y z)
bits_assoc zero zero z h k l = refl
bits_assoc zero (suc zero) zero h k l = refl
bits_assoc zero (suc zero) (suc zero) h k l = refl
bits_assoc zero (suc zero) (suc (suc z)) h k l = absurd (omega arith)
bits_assoc zero (suc (suc y)) z h k l = absurd (omega arith)
bits_assoc (suc zero) zero zero h k l = refl
bits_assoc (suc zero) zero (suc zero) h k l = refl
bits_assoc (suc zero) zero (suc (suc z)) h k l = absurd (omega arith)
bits_assoc (suc zero) (suc zero) zero h k l = refl
bits_assoc (suc zero) (suc zero) (suc zero) h k l = refl
bits_assoc (suc zero) (suc zero) (suc (suc z)) h k l = absurd (omega arith)
bits_assoc (suc zero) (suc (suc y)) z h k l = absurd (omega arith)
bits_assoc (suc (suc x)) y z h k l = absurd (omega arith)

pub xor_assoc : (a b c : ℕ) → bit_xor (bit_xor a b) c ≡ bit_xor a (bit_xor b c)
xor_assoc a = bin_ind (λ (a : ℕ). (b c : ℕ) → bit_xor (bit_xor a b) c ≡ bit_xor a (bit_xor b c)) (λ b c. refl) more a
  where
    more : (a : ℕ) → ((b c : ℕ) → bit_xor (bit_xor (a / 2) b) c ≡ bit_xor (a / 2) (bit_xor b c))
        → (b c : ℕ) → bit_xor (bit_xor a b) c ≡ bit_xor a (bit_xor b c)
    more a ih b c =
        xor_step (bit_xor a b) c
        ∙ ap₂ (λ (x y : ℕ). x * 2 + y)
        (ap (λ (x : ℕ). bit_xor x (c / 2)) (xor_shr a b 1) ∙ ih (b / 2) (c / 2)
        ∙ ap (bit_xor (a / 2)) (sym (xor_shr b c 1)))
        (ap (λ (x : ℕ). differ x (c % 2)) (xor_mod a b 1)
        ∙ bits_assoc (a % 2) (b % 2) (c % 2) (omega arith) (omega arith) (omega arith)
        ∙ ap (differ (a % 2)) (sym (xor_mod b c 1)))
        ∙ sym (xor_step a (bit_xor b c))

pub xor_middle : (a b c d : ℕ) → bit_xor (bit_xor a b) (bit_xor c d) ≡ bit_xor (bit_xor a c) (bit_xor b d)
xor_middle a b c d =
    xor_assoc a b (bit_xor c d)
    ∙ ap (bit_xor a) (sym (xor_assoc b c d) ∙ ap (λ (x : ℕ). bit_xor x d) (xor_comm b c) ∙ xor_assoc c b d)
    ∙ sym (xor_assoc a c (bit_xor b d))

coefficient_xor : (p q k : ℕ) → coefficient (bit_xor p q) k ≡ bit_xor (coefficient p k) (coefficient q k)
coefficient_xor p q k = ap (λ (x : ℕ). x % 2) (xor_shr p q k) ∙ xor_mod (p / 2 ^ k) (q / 2 ^ k) 1

-- a term or none
terms_xor : (x y m : ℕ) → x < 2 → y < 2 → bit_xor x y * m ≡ bit_xor (x * m) (y * m)
terms_xor zero y m h k = rw (zero-mul m, xor_zero_l (y * m), xor_zero_l y)
terms_xor (suc zero) zero m h k = rw (zero-mul m, xor_zero_r (1 * m))
terms_xor (suc zero) (suc zero) m h k = rw (xor_self (1 * m)) (zero-mul m)
terms_xor (suc zero) (suc (suc y)) m h k = absurd (omega arith)
terms_xor (suc (suc x)) y m h k = absurd (omega arith)

-- a shift of both
pub shift : (x y k : ℕ) → bit_xor x y * 2 ^ k ≡ bit_xor (x * 2 ^ k) (y * 2 ^ k)
shift x y k =
    sym (add-zero (bit_xor x y * 2 ^ k)) ∙ sym (xor_block k x y 0 0 (pow_pos k) (pow_pos k))
    ∙ ap₂ bit_xor (add-zero (x * 2 ^ k)) (add-zero (y * 2 ^ k))

cancel_xor : (k p q : ℕ) → cancel k (bit_xor p q) ≡ bit_xor (cancel k p) (cancel k q)
cancel_xor k p q =
    ap (bit_xor (bit_xor p q))
    (ap (λ (x : ℕ). x * generator * 2 ^ k) (coefficient_xor p q (8 + k))
    ∙ ap (λ (x : ℕ). x * 2 ^ k)
    (terms_xor (coefficient p (8 + k)) (coefficient q (8 + k)) generator
    (mod-lt _ (omega arith)) (mod-lt _ (omega arith)))
    ∙ shift (coefficient p (8 + k) * generator) (coefficient q (8 + k) * generator) k)
    ∙ xor_middle p q (coefficient p (8 + k) * generator * 2 ^ k) (coefficient q (8 + k) * generator * 2 ^ k)

pub divide_xor : (n p q : ℕ) → divide_out n (bit_xor p q) ≡ bit_xor (divide_out n p) (divide_out n q)
divide_xor zero p q = refl
divide_xor (suc n) p q = ap (divide_out n) (cancel_xor n p q) ∙ divide_xor n (cancel n p) (cancel n q)

pub remainder_xor : (a b : ℕ) → remainder_of (bit_xor a b) ≡ bit_xor (remainder_of a) (remainder_of b)
unfolding remainder_of
remainder_xor a b = ap (divide_out 8) (shift a b 8) ∙ divide_xor 8 (a * 2 ^ 8) (b * 2 ^ 8)
