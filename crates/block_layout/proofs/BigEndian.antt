-- Numbers as bytes, over any width.
--     be-length, unbe-be        w bytes, which spell the number again where it is below 256 ^ w
--     be-at, unbe-be-lt         each of the w bytes; what they spell is below 256 ^ w, whatever the number was
--     be-front, be-unbe     the number that bytes spell has these bytes again; so do the first of them
--     field_lt, field_back      the same of a part of a list; field-one of a single byte
--     be-set                    how a writer that goes from the last byte to the first proceeds
--     unbe-more, digit_lt       how a reader that goes from the first to the last does, and what bounds it
use mathlib.Core.Path.{◌≡◌, refl, sym, ap, ◌∙◌}
use mathlib.Core.List.{List, [], ◌∷◌, ◌++◌}
use Prim.Native.Nat.{ℕ, zero, suc, ◌+◌, ◌-◌, ◌*◌, ◌/◌, ◌%◌, ◌^◌, ◌≤◌, ◌<◌}
use native.Mathlib.Nat.{not-suc-le-zero, div-one, div-div-eq-div-mul, pow-suc, pow-succ', pow-le-pow_right}
use native.Mathlib.Numerals.{add-one}
use native.Mathlib.Decide.{dec_lt}
use native.Mathlib.Omega.{arith}
use lib.ListN.{length, get_or, take, drop, set, length-append, length-set, length-take, get_or-append, get_or-eq_default}
use lib.Seq.{drop-cons, drop-set-lt, get_or_at, get_or-set_same, append_snoc, take-suc, take_all, get_or-take, get_or-drop}
use Rattle.base_buffers.specs.Buffer.{part}
use Rattle.block_layout.specs.BigEndian.{be, unbe, unbe_from, Bytes}
use Rattle.base_buffers.proofs.Segments.{part_length}

pub be-length : (w n : ℕ) → length (be w n) ≡ w
unfolding be
be-length zero n = refl
be-length (suc w) n = simp (length-append, be-length w) (omega arith)

unbe_snoc : (high : ℕ) (bs : List ℕ) (b : ℕ) → unbe_from high (bs ++ (b ∷ [])) ≡ unbe_from high bs * 256 + b
unfolding unbe_from
unbe_snoc high [] b = refl
unbe_snoc high (x ∷ bs) b = unbe_snoc (high * 256 + x) bs b

pub unbe-be : (w n : ℕ) → n < 256 ^ w → unbe (be w n) ≡ n
unfolding be unbe unbe_from
unbe-be zero n h = omega arith
unbe-be (suc w) n h =
    let h1 : n < 256 ^ w * 256 = rw (← pow-suc) h in
    let h2 : n / 256 < 256 ^ w = omega arith in
    rw (unbe_snoc 0 (be w (n / 256)) (n % 256), unbe-be w (n / 256) h2) (omega arith)

-- byte i of the w bytes
pub be_at : (w n i : ℕ) → i < w → get_or (be w n) i 0 ≡ n / 256 ^ (w - 1 - i) % 256
unfolding be
be_at zero n i h = absurd (omega arith)
be_at (suc w) n i h = elim (dec_lt i w) [
  | yes l ↦
      let e : suc w - 1 - i ≡ suc (w - 1 - i) = omega arith in
      get_or-append (be w (n / 256)) (n % 256 ∷ []) 0 i (omega (arith, be-length w (n / 256)))
      ∙ be_at w (n / 256) i l
      ∙ ap (λ (x : ℕ). x % 256)
      (div-div-eq-div-mul n 256 (256 ^ (w - 1 - i))
      ∙ ap (λ (m : ℕ). n / m) (sym (pow-succ' 256 (w - 1 - i))) ∙ ap (λ (m : ℕ). n / 256 ^ m) (sym e))
  | no l ↦
      let e : i ≡ w = omega arith in
      let z : suc w - 1 - i ≡ 0 = omega arith in
      ap (λ (m : ℕ). get_or (be w (n / 256) ++ (n % 256 ∷ [])) m 0) e
      ∙ get_or_at (be w (n / 256)) (n % 256) [] 0 w (be-length w (n / 256))
      ∙ ap (λ (x : ℕ). x % 256) (sym (div-one n)) ∙ ap (λ (m : ℕ). n / 256 ^ m % 256) (sym z)
]

-- what w bytes spell, whatever the number was
pub unbe-be_lt : (w n : ℕ) → unbe (be w n) < 256 ^ w
unfolding be unbe unbe_from
unbe-be_lt zero n = omega arith
unbe-be_lt (suc w) n =
    let h : unbe (be w (n / 256)) < 256 ^ w = unbe-be_lt w (n / 256) in
    rw (unbe_snoc 0 (be w (n / 256)) (n % 256), pow-suc) (omega arith)

-- ---- a writer from the last byte to the first: after the bytes from i on, what is left of the number is n

pub be-set : (i n : ℕ) (xs : List ℕ) → 0 < i → i ≤ length xs
    → be i n ++ drop i xs ≡ be (i - 1) (n / 256) ++ drop (i - 1) (set xs (i - 1) (n % 256))
unfolding be
be-set zero n xs p h = absurd (not-suc-le-zero p)
be-set (suc i) n xs p h =
    let h2 : i < length (set xs i (n % 256)) = rw length-set h in
    let e : suc i - 1 ≡ i = omega arith in
    rw (
      e,
      drop-cons (set xs i (n % 256)) i 0 h2,
      get_or-set_same xs i (n % 256) 0 h,
      drop-set-lt (suc i) xs i (n % 256) (omega arith),
    )
    (append_snoc (be i (n / 256)) (n % 256) (drop (suc i) xs))

-- ---- a reader from the first byte to the last

pub unbe-more : (bs : List ℕ) (i : ℕ) → i < length bs → unbe (take i bs) * 256 + get_or bs i 0 ≡ unbe (take (i + 1) bs)
unfolding unbe
unbe-more bs i h = rw (add-one, take-suc bs i 0 h, unbe_snoc 0 (take i bs) (get_or bs i 0))

-- one byte more: what i bytes spell is below 256 ^ i
pub digit_lt : (i high b : ℕ) → high < 256 ^ i → b < 256 → high * 256 + b < 256 ^ (i + 1)
digit_lt i high b h k = rw (add-one, pow-suc) (omega arith)

-- eight bytes fit 64 bits
pub eight_lt : (i n : ℕ) → i ≤ 8 → n < 256 ^ i → n < 2 ^ 64
eight_lt i n h k =
    let p : 256 ^ i ≤ 256 ^ 8 = pow-le-pow_right (omega arith) h in
    omega arith

-- ---- bytes, as the number that they spell, and back

-- what the first i bytes spell is below 256 ^ i, also where there are fewer
spelled_lt : (i : ℕ) (bs : List ℕ) → Bytes bs → unbe (take i bs) < 256 ^ i
unfolding unbe unbe_from
spelled_lt zero bs b = omega arith
spelled_lt (suc i) bs b = elim (dec_lt i (length bs)) [
  | yes h ↦
      (let more : unbe (take i bs) * 256 + get_or bs i 0 ≡ unbe (take (i + 1) bs) = unbe-more bs i h in
      let low = digit_lt i (unbe (take i bs)) (get_or bs i 0) (spelled_lt i bs b) (b i) in
      rw (add-one i) at (rw more at low))
  | no h ↦
      (let low : unbe (take i bs) * 256 + 0 < 256 ^ (i + 1) =
      digit_lt i (unbe (take i bs)) 0 (spelled_lt i bs b) (omega arith) in
      let same : take (suc i) bs ≡ take i bs = take_all (suc i) bs (omega arith) ∙ sym (take_all i bs (omega arith)) in
      rw (same, ← add-one i) (omega arith))
]

-- the first i bytes are those of the number that they spell
pub be_front : (i : ℕ) (bs : List ℕ) → i ≤ length bs → Bytes bs → be i (unbe (take i bs)) ≡ take i bs
unfolding be
be_front zero bs h b = refl
be_front (suc i) bs h b =
    let k : i < length bs = h in
    let more : unbe (take i bs) * 256 + get_or bs i 0 ≡ unbe (take (suc i) bs) = rw add-one at (unbe-more bs i k) in
    let q : (unbe (take i bs) * 256 + get_or bs i 0) / 256 ≡ unbe (take i bs) = omega (arith, b i) in
    let r : (unbe (take i bs) * 256 + get_or bs i 0) % 256 ≡ get_or bs i 0 = omega (arith, b i) in
    rw (← more, q, r, be_front i bs (omega arith) b) (sym (take-suc bs i 0 k))

pub be-unbe : (w : ℕ) (bs : List ℕ) → length bs ≡ w → Bytes bs → be w (unbe bs) ≡ bs
be-unbe w bs e b = rw (take_all w bs (omega arith)) at (be_front w bs (omega arith) b)

bytes_take : (n : ℕ) (bs : List ℕ) → Bytes bs → Bytes (take n bs)
bytes_take n bs b i = elim (dec_lt i n) [
  | yes h ↦ rw (get_or-take n bs i 0 h) (b i)
  | no h ↦
      (let l : length (take n bs) ≤ i = rw (length-take n bs) (omega arith) in
      rw (get_or-eq_default (take n bs) 0 l) (omega arith))
]

bytes_drop : (a : ℕ) (bs : List ℕ) → Bytes bs → Bytes (drop a bs)
bytes_drop a bs b i = rw (get_or-drop a bs i 0) (b (a + i))

bytes-part : (a n : ℕ) (bs : List ℕ) → Bytes bs → Bytes (part a n bs)
bytes-part a n bs b = bytes_take n (drop a bs) (bytes_drop a bs b)

pub field_lt : (a w : ℕ) (bs : List ℕ) → Bytes bs → unbe (part a w bs) < 256 ^ w
field_lt a w bs b = spelled_lt w (drop a bs) (bytes_drop a bs b)

pub field_back : (a w : ℕ) (bs : List ℕ) → Bytes bs → a + w ≤ length bs → be w (unbe (part a w bs)) ≡ part a w bs
field_back a w bs b h = be-unbe w (part a w bs) (part_length a w bs h) (bytes-part a w bs b)

-- a field of one byte
pub field_one : (a : ℕ) (bs : List ℕ) → a < length bs → unbe (part a 1 bs) ≡ get_or bs a 0
unfolding unbe unbe_from
field_one a bs h = rw (drop-cons bs a 0 h) (omega arith)
