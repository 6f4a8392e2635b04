-- The remainder by words: it is linear, and right for each power of x that 16 bytes have.
--     total-xor      linearity
--     power-xor      the remainder of a sum times x^(8 n) is the sum of the remainders
--     crc-linear     what a CRC adds to those of the bytes that follow
--     crc-value      so it is right for every list of at most 16 bytes
use mathlib.Core.Path.{◌≡◌, refl, sym, ap, ap₂, subst, ◌∙◌}
use mathlib.Core.Bool.{Bool}
use mathlib.Core.List.{List, [], ◌∷◌, ◌++◌}
use Prim.Native.Nat.{ℕ, zero, suc, ◌+◌, ◌-◌, ◌*◌, ◌/◌, ◌%◌, ◌^◌, ◌<◌, ◌≤◌}
use native.Mathlib.Nat.{zero-mul, one-mul, zero-add, mul_assoc, add_assoc, add-mul}
use native.Mathlib.Nat.{mod-lt, div-add-mod', lt_of_lt_of_le}
use native.Mathlib.Omega.{arith}
use lib.Bits.{bit_xor, xor_zero_l, xor_zero_r, xor_self, xor_lt, xor_shr, xor_mod, xor_shifted}
use lib.Dec.{T, eqb, eqb→eq}
use lib.ListN.{length, get_or, replicate, take, drop, length-append, length-drop, take-append-drop}
use lib.Seq.{length-take-le, take_all, take-take, get_or-drop}
use lib.Pow.{pow_pos, pow_mono, pow-add, shl_lt, shr_lt, shr-shr, high, low}
use Rattle.base_lists.proofs.Table.{at}
use Rattle.base_crc8.specs.Crc8.{remainder_of, step_of, crc_from, crc_of}
use Rattle.base_crc8.specs.Words.{EightBits, power_of, value_of, shl}
use Rattle.base_crc8.specs.Words.{join_words, folded_of, halved_of, shorter_of, more_of, word_remainder}
use Rattle.base_crc8.proofs.Linear.{xor_assoc, xor_middle, shift, remainder_xor}

shl_xor : (k a b : ℕ) → shl k (bit_xor a b) ≡ bit_xor (shl k a) (shl k b)
shl_xor k a b = ap (λ (x : ℕ). x % 2 ^ 64) (shift a b k) ∙ xor_mod (a * 2 ^ k) (b * 2 ^ k) 64

-- four sums of two
four_xor : (a b c d e f g h : ℕ)
    → bit_xor (bit_xor (bit_xor a b) (bit_xor c d)) (bit_xor (bit_xor e f) (bit_xor g h))
    ≡ bit_xor (bit_xor (bit_xor a c) (bit_xor e g)) (bit_xor (bit_xor b d) (bit_xor f h))
four_xor a b c d e f g h =
    ap₂ bit_xor (xor_middle a b c d) (xor_middle e f g h)
    ∙ xor_middle (bit_xor a c) (bit_xor b d) (bit_xor e g) (bit_xor f h)

join_xor : (a b v w : ℕ) → join_words (bit_xor a b) (bit_xor v w) ≡ bit_xor (join_words a v) (join_words b w)
unfolding join_words
join_xor a b v w =
    ap₂ bit_xor (ap₂ bit_xor (shl_xor 1 a b) (shl_xor 2 a b)) (ap (λ (x : ℕ). bit_xor x (bit_xor v w)) (shl_xor 4 a b))
    ∙ four_xor (shl 1 a) (shl 1 b) (shl 2 a) (shl 2 b) (shl 4 a) (shl 4 b) v w

folded_xor : (g h k l : ℕ) → folded_of (bit_xor g h) (bit_xor k l) ≡ bit_xor (folded_of g k) (folded_of h l)
unfolding folded_of
folded_xor g h k l =
    let one =
    ap₂ join_words (xor_shr g h 32) (xor_mod g h 32)
    ∙ join_xor (g / 2 ^ 32) (h / 2 ^ 32) (g % 2 ^ 32) (h % 2 ^ 32) in
    let g1 = join_words (g / 2 ^ 32) (g % 2 ^ 32) in
    let h1 = join_words (h / 2 ^ 32) (h % 2 ^ 32) in
    let two = ap₂ join_words one (xor_shr k l 32) ∙ join_xor g1 h1 (k / 2 ^ 32) (l / 2 ^ 32) in
    ap₂ join_words two (xor_mod k l 32)
    ∙ join_xor (join_words g1 (k / 2 ^ 32)) (join_words h1 (l / 2 ^ 32)) (k % 2 ^ 32) (l % 2 ^ 32)

halved_xor : (u v : ℕ) → halved_of (bit_xor u v) ≡ bit_xor (halved_of u) (halved_of v)
unfolding halved_of
halved_xor u v =
    let p = u / 2 ^ 16 in
    let q = v / 2 ^ 16 in
    ap₂ (λ (h m : ℕ). bit_xor (bit_xor h (shl 2 h)) (bit_xor (shl 4 h) m)) (xor_shr u v 16) (xor_mod u v 16)
    ∙ ap₂ bit_xor (ap (bit_xor (bit_xor p q)) (shl_xor 2 p q))
    (ap (λ (x : ℕ). bit_xor x (bit_xor (u % 2 ^ 16) (v % 2 ^ 16))) (shl_xor 4 p q))
    ∙ four_xor p q (shl 2 p) (shl 2 q) (shl 4 p) (shl 4 q) (u % 2 ^ 16) (v % 2 ^ 16)

shorter_xor : (u v : ℕ) → shorter_of (bit_xor u v) ≡ bit_xor (shorter_of u) (shorter_of v)
unfolding shorter_of
shorter_xor u v =
    let p = u / 2 ^ 8 in
    let q = v / 2 ^ 8 in
    ap₂ (λ (h m : ℕ). bit_xor (bit_xor h (shl 1 h)) (bit_xor (shl 2 h) m)) (xor_shr u v 8) (xor_mod u v 8)
    ∙ ap₂ bit_xor (ap (bit_xor (bit_xor p q)) (shl_xor 1 p q))
    (ap (λ (x : ℕ). bit_xor x (bit_xor (u % 2 ^ 8) (v % 2 ^ 8))) (shl_xor 2 p q))
    ∙ four_xor p q (shl 1 p) (shl 1 q) (shl 2 p) (shl 2 q) (u % 2 ^ 8) (v % 2 ^ 8)

more_xor : (u v : ℕ) → more_of (bit_xor u v) ≡ bit_xor (more_of u) (more_of v)
unfolding more_of
more_xor u v =
    ap₂ bit_xor (ap (bit_xor (bit_xor u v)) (shl_xor 1 u v) ∙ xor_middle u v (shl 1 u) (shl 1 v)) (shl_xor 2 u v)
    ∙ xor_middle (bit_xor u (shl 1 u)) (bit_xor v (shl 1 v)) (shl 2 u) (shl 2 v)

word_xor : (u v : ℕ) → word_remainder (bit_xor u v) ≡ bit_xor (word_remainder u) (word_remainder v)
unfolding word_remainder
word_xor u v =
    let a = join_words (u / 2 ^ 32) (u % 2 ^ 32) in
    let b = join_words (v / 2 ^ 32) (v % 2 ^ 32) in
    let j =
    ap₂ join_words (xor_shr u v 32) (xor_mod u v 32)
    ∙ join_xor (u / 2 ^ 32) (v / 2 ^ 32) (u % 2 ^ 32) (v % 2 ^ 32) in
    let h = ap halved_of j ∙ halved_xor a b in
    let s = ap shorter_of h ∙ shorter_xor (halved_of a) (halved_of b) in
    let t = ap shorter_of s ∙ shorter_xor (shorter_of (halved_of a)) (shorter_of (halved_of b)) in
    let c = shorter_of (shorter_of (halved_of a)) in
    let d = shorter_of (shorter_of (halved_of b)) in
    let m = ap more_of t ∙ more_xor c d in
    let e = ap shorter_of m ∙ shorter_xor (more_of c) (more_of d) in
    ap (λ (x : ℕ). x % 2 ^ 8) e ∙ xor_mod (shorter_of (more_of c)) (shorter_of (more_of d)) 8

-- the remainder of 16 bytes times x^8
abbrev pub total : ℕ → ℕ
total v = word_remainder (folded_of (v / 2 ^ 64) (v % 2 ^ 64))

pub total_xor : (u v : ℕ) → total (bit_xor u v) ≡ bit_xor (total u) (total v)
total_xor u v =
    ap word_remainder
    (ap₂ folded_of (xor_shr u v 64) (xor_mod u v 64)
    ∙ folded_xor (u / 2 ^ 64) (v / 2 ^ 64) (u % 2 ^ 64) (v % 2 ^ 64))
    ∙ word_xor (folded_of (u / 2 ^ 64) (u % 2 ^ 64)) (folded_of (v / 2 ^ 64) (v % 2 ^ 64))

pub power_xor : (n a b : ℕ) → power_of n (bit_xor a b) ≡ bit_xor (power_of n a) (power_of n b)
unfolding power_of
power_xor zero a b = refl
power_xor (suc n) a b = ap (power_of n) (remainder_xor a b) ∙ power_xor n (remainder_of a) (remainder_of b)

-- both are right for each power of x
abbrev is_right : ℕ → Bool
is_right t = eqb (power_of (suc (t / 8)) (2 ^ (t % 8))) (total (2 ^ (t % 8) * 2 ^ (8 * (t / 8))))

tested : (t : ℕ) → t < 128 → T (is_right t)
unfolding power_of remainder_of join_words folded_of halved_of shorter_of more_of word_remainder
tested = at {A = ℕ} (λ t x. is_right t) 0 (replicate 128 0) tt

right_at : (m i : ℕ) → m < 16 → i < 8 → power_of (suc m) (2 ^ i) ≡ total (2 ^ i * 2 ^ (8 * m))
right_at m i h k =
    let d : (8 * m + i) / 8 ≡ m = omega arith in
    let r : (8 * m + i) % 8 ≡ i = omega arith in
    let l : 8 * m + i < 128 = omega arith in
    let e = eqb→eq _ _ (tested (8 * m + i) l) in
    ap₂ (λ (x y : ℕ). power_of (suc x) (2 ^ y)) (sym d) (sym r) ∙ e
    ∙ ap₂ (λ (x y : ℕ). total (2 ^ y * 2 ^ (8 * x))) d r

abbrev Additive : (ℕ → ℕ) → Type 0
Additive f = (a b : ℕ) → f (bit_xor a b) ≡ bit_xor (f a) (f b)

of_zero : (f : ℕ → ℕ) → Additive f → f 0 ≡ 0
of_zero f l = l 0 0 ∙ xor_self (f 0)

module _ (f g : ℕ → ℕ) (l : Additive f) (m : Additive g) where
  top : (q k : ℕ) → q < 2 → f (2 ^ k) ≡ g (2 ^ k) → f (q * 2 ^ k) ≡ g (q * 2 ^ k)
  top zero k h e = rw (zero-mul (2 ^ k)) (of_zero f l ∙ sym (of_zero g m))
  top (suc zero) k h e = rw (one-mul (2 ^ k)) e
  top (suc (suc q)) k h e = absurd (omega arith)

  pub agree : (k : ℕ) → ((i : ℕ) → i < k → f (2 ^ i) ≡ g (2 ^ i)) → (a : ℕ) → a < 2 ^ k → f a ≡ g a
  agree zero e a h =
      let z : a ≡ 0 = omega arith in
      rw z (of_zero f l ∙ sym (of_zero g m))
  agree (suc k) e a h =
      let s : suc k ≡ 1 + k = omega arith in
      let q = a / 2 ^ k in
      let r = a % 2 ^ k in
      let small : q < 2 = shr_lt 1 k (subst (λ (n : ℕ). a < 2 ^ n) s h) in
      let low : r < 2 ^ k = mod-lt a (pow_pos k) in
      let whole : bit_xor (q * 2 ^ k) r ≡ a = xor_shifted q k r low ∙ div-add-mod' a (2 ^ k) in
      ap f (sym whole) ∙ l (q * 2 ^ k) r
      ∙ ap₂ bit_xor (top q k small (e k (omega arith))) (agree k (λ i j. e i (omega arith)) r low)
      ∙ sym (m (q * 2 ^ k) r) ∙ ap g whole

byte-right : (m b : ℕ) → m < 16 → b < 256 → power_of (suc m) b ≡ total (b * 2 ^ (8 * m))
byte-right m b h k =
    agree (power_of (suc m)) (λ x. total (x * 2 ^ (8 * m))) (power_xor (suc m))
    (λ x y. ap total (shift x y (8 * m)) ∙ total_xor (x * 2 ^ (8 * m)) (y * 2 ^ (8 * m)))
    8 (λ i j. right_at m i h j) b k

-- what a CRC adds to those of the bytes that follow
pub crc_linear : (c : ℕ) (bs : List ℕ) → crc_from c bs ≡ bit_xor (power_of (length bs) c) (crc_from 0 bs)
unfolding step_of power_of
crc_linear c [] = sym (xor_zero_r c)
crc_linear c (b ∷ bs) =
    let n = length bs in
    crc_linear (step_of c b) bs
    ∙ ap (λ (x : ℕ). bit_xor x (crc_from 0 bs))
    (ap (power_of n) (remainder_xor c b) ∙ power_xor n (remainder_of c) (remainder_of b))
    ∙ xor_assoc (power_of (suc n) c) (power_of n (remainder_of b)) (crc_from 0 bs)
    ∙ ap (bit_xor (power_of (suc n) c)) (sym (crc_linear (step_of 0 b) bs))

pub value_lt : (bs : List ℕ) → EightBits bs → value_of bs < 2 ^ (8 * length bs)
unfolding value_of
value_lt [] h = omega arith
value_lt (b ∷ bs) h =
    let m = length bs in
    let low : value_of bs < 2 ^ (8 * m) = value_lt bs (λ i. h (suc i)) in
    let e : 8 * suc m ≡ 8 + 8 * m = omega arith in
    let big : b * 2 ^ (8 * m) < 2 ^ (8 + 8 * m) = shl_lt 8 (8 * m) (h 0) in
    let less : value_of bs < 2 ^ (8 + 8 * m) = lt_of_lt_of_le low (pow_mono (omega arith)) in
    let both = xor_lt (8 + 8 * m) (b * 2 ^ (8 * m)) (value_of bs) big less in
    subst (λ (n : ℕ). b * 2 ^ (8 * m) + value_of bs < 2 ^ n) (sym e)
    (subst (λ (x : ℕ). x < 2 ^ (8 + 8 * m)) (xor_shifted b (8 * m) (value_of bs) low) both)

first_step : (m b : ℕ) → power_of m (step_of 0 b) ≡ power_of (suc m) b
unfolding step_of power_of
first_step m b = ap (λ (x : ℕ). power_of m (remainder_of x)) (xor_zero_l b)

pub crc-value : (bs : List ℕ) → EightBits bs → length bs ≤ 16 → crc_from 0 bs ≡ total (value_of bs)
unfolding value_of
crc-value [] h k = sym (of_zero total total_xor)
crc-value (b ∷ bs) h k =
    let m = length bs in
    let l : suc m ≤ 16 = k in
    let low = value_lt bs (λ i. h (suc i)) in
    crc_linear (step_of 0 b) bs
    ∙ ap₂ bit_xor (first_step m b ∙ byte-right m b (omega arith) (h 0)) (crc-value bs (λ i. h (suc i)) (omega arith))
    ∙ sym (total_xor (b * 2 ^ (8 * m)) (value_of bs)) ∙ ap total (xor_shifted b (8 * m) (value_of bs) low)

-- ---- parts of a list

value_append : (xs ys : List ℕ) → value_of (xs ++ ys) ≡ value_of xs * 2 ^ (8 * length ys) + value_of ys
unfolding value_of
value_append [] ys = sym (ap (λ (x : ℕ). x + value_of ys) (zero-mul (2 ^ (8 * length ys))) ∙ zero-add (value_of ys))
value_append (x ∷ xs) ys =
    let p = 2 ^ (8 * length xs) in
    let q = 2 ^ (8 * length ys) in
    let n : 8 * (length xs + length ys) ≡ 8 * length xs + 8 * length ys = omega arith in
    let e : 2 ^ (8 * length (xs ++ ys)) ≡ p * q =
    ap (λ (k : ℕ). 2 ^ (8 * k)) (length-append xs ys) ∙ ap (λ (k : ℕ). 2 ^ k) n
    ∙ pow-add 2 (8 * length xs) (8 * length ys) in
    ap₂ (λ (y z : ℕ). x * y + z) e (value_append xs ys)
    ∙ ap (λ (y : ℕ). y + (value_of xs * q + value_of ys)) (sym (mul_assoc x p q))
    ∙ sym (add_assoc (x * p * q) (value_of xs * q) (value_of ys))
    ∙ ap (λ (y : ℕ). y + value_of ys) (sym (add-mul (x * p) (value_of xs) q))

bytes_drop : (l : ℕ) (zs : List ℕ) → EightBits zs → EightBits (drop l zs)
bytes_drop l zs h i = subst (λ (x : ℕ). x < 256) (sym (get_or-drop l zs i 0)) (h (l + i))

bytes_take : (n : ℕ) (zs : List ℕ) → EightBits zs → EightBits (take n zs)
bytes_take zero zs h i = omega arith
bytes_take (suc n) [] h i = omega arith
bytes_take (suc n) (z ∷ zs) h zero = h 0
bytes_take (suc n) (z ∷ zs) h (suc i) = bytes_take n zs (λ j. h (suc j)) i

module _ (l : ℕ) (zs : List ℕ) (h : EightBits zs) where
  whole : value_of zs ≡ value_of (take l zs) * 2 ^ (8 * length (drop l zs)) + value_of (drop l zs)
  whole = ap value_of (sym (take-append-drop l zs)) ∙ value_append (take l zs) (drop l zs)

  width : 8 * (length zs - l) ≡ 8 * length (drop l zs)
  width = ap (λ (x : ℕ). 8 * x) (sym (length-drop l zs))

  pub head_value : value_of zs / 2 ^ (8 * (length zs - l)) ≡ value_of (take l zs)
  head_value =
      ap₂ (λ (x y : ℕ). x / 2 ^ y) whole width
      ∙ high (value_of (take l zs)) (8 * length (drop l zs)) (value_lt (drop l zs) (bytes_drop l zs h))

  pub tail_value : value_of zs % 2 ^ (8 * (length zs - l)) ≡ value_of (drop l zs)
  tail_value =
      ap₂ (λ (x y : ℕ). x % 2 ^ y) whole width
      ∙ low (value_of (take l zs)) (8 * length (drop l zs)) (value_lt (drop l zs) (bytes_drop l zs h))

-- the two words that `crc8` reads, for `l` bytes before the last eight
pub crc_two : (bs : List ℕ) (l : ℕ) → EightBits bs → length bs ≡ l + 8 → l ≤ 8
    → word_remainder
    (folded_of (value_of (take 8 bs) / 2 ^ (32 - 4 * l) / 2 ^ (32 - 4 * l)) (value_of (take 8 (drop l bs))))
    ≡ crc_of bs
crc_two bs l h n k =
    let s = 32 - 4 * l in
    let eight : length (take 8 bs) ≡ 8 = length-take-le 8 bs (omega arith) in
    let e : s + s ≡ 8 * (length (take 8 bs) - l) = omega (arith, eight) in
    let w : 8 * (length bs - l) ≡ 64 = omega arith in
    let left : length (drop l bs) ≤ 8 = rw (length-drop l bs) (omega arith) in
    let front =
    shr-shr (value_of (take 8 bs)) s s ∙ ap (λ (x : ℕ). value_of (take 8 bs) / 2 ^ x) e
    ∙ head_value l (take 8 bs) (bytes_take 8 bs h) ∙ ap value_of (take-take l 8 bs k)
    ∙ sym (head_value l bs h) ∙ ap (λ (x : ℕ). value_of bs / 2 ^ x) w in
    let back =
    ap value_of (take_all 8 (drop l bs) left) ∙ sym (tail_value l bs h) ∙ ap (λ (x : ℕ). value_of bs % 2 ^ x) w in
    ap₂ (λ (x y : ℕ). word_remainder (folded_of x y)) front back ∙ sym (crc-value bs h (omega arith))

-- eight bytes by four
pub value_eight : (zs : List ℕ) → 8 ≤ length zs
    → value_of (take 8 zs) ≡ value_of (take 4 zs) * 4294967296 + value_of (take 4 (drop 4 zs))
unfolding value_of
value_eight [] h = absurd (omega arith)
value_eight (a ∷ []) h = absurd (omega arith)
value_eight (a ∷ b ∷ []) h = absurd (omega arith)
value_eight (a ∷ b ∷ c ∷ []) h = absurd (omega arith)
value_eight (a ∷ b ∷ c ∷ d ∷ []) h = absurd (omega arith)
value_eight (a ∷ b ∷ c ∷ d ∷ e ∷ []) h = absurd (omega arith)
value_eight (a ∷ b ∷ c ∷ d ∷ e ∷ f ∷ []) h = absurd (omega arith)
value_eight (a ∷ b ∷ c ∷ d ∷ e ∷ f ∷ g ∷ []) h = absurd (omega arith)
value_eight (a ∷ b ∷ c ∷ d ∷ e ∷ f ∷ g ∷ x ∷ zs) h = omega arith

-- four bytes
pub value_four : (zs : List ℕ) → 4 ≤ length zs
    → get_or zs 0 0 * 16777216 + (get_or zs 1 0 * 65536 + (get_or zs 2 0 * 256 + get_or zs 3 0)) ≡ value_of (take 4 zs)
unfolding value_of
value_four [] h = absurd (omega arith)
value_four (a ∷ []) h = absurd (omega arith)
value_four (a ∷ b ∷ []) h = absurd (omega arith)
value_four (a ∷ b ∷ c ∷ []) h = absurd (omega arith)
value_four (a ∷ b ∷ c ∷ d ∷ zs) h = omega arith
