-- The bits of a header and of an extended header, as bytes and back.
use mathlib.Core.Path.{◌≡◌, refl}
use mathlib.Core.Bool.{Bool, true, false, cond}
use Prim.Native.Nat.{ℕ, ◌+◌, ◌*◌, ◌/◌, ◌%◌, ◌<◌}
use native.Mathlib.Omega.{arith}
use lib.Dec.{eqb}
use borrow.Author.Tests.{eqb-true, eqb-false, eq-eqb, ne_eqb}
use Rattle.radio_erp2_model.specs.declared.Header.{Header}
use Rattle.radio_erp2_model.specs.Header.{header_fields, header_byte}

pub header-back : (b : ℕ) → header_byte (header_fields b) ≡ b
header-back b = go (eqb (b / 16 % 2) 1) refl
  where
    go : (x : Bool) → eqb (b / 16 % 2) 1 ≡ x → b / 32 * 32 + cond x 16 0 + b % 16 ≡ b
    go true e = omega (arith, eqb-true (b / 16 % 2) 1 e)
    go false e = omega (arith, eqb-false (b / 16 % 2) 1 e)

three_bits : (c k : ℕ) (x : Bool) → c < 8 → k < 16
    → header_fields (c * 32 + cond x 16 0 + k) ≡ record { control = c; extended = x; kind = k }
three_bits c k true h l =
    let p : (c * 32 + 16 + k) / 32 ≡ c = omega arith in
    let q : eqb ((c * 32 + 16 + k) / 16 % 2) 1 ≡ true = eq-eqb ((c * 32 + 16 + k) / 16 % 2) 1 (omega arith) in
    let r : (c * 32 + 16 + k) % 16 ≡ k = omega arith in
    rw (p, q, r)
three_bits c k false h l =
    let p : (c * 32 + 0 + k) / 32 ≡ c = omega arith in
    let q : eqb ((c * 32 + 0 + k) / 16 % 2) 1 ≡ false = ne_eqb ((c * 32 + 0 + k) / 16 % 2) 1 (λ e. omega arith) in
    let r : (c * 32 + 0 + k) % 16 ≡ k = omega arith in
    rw (p, q, r)

pub header_forth : (h : Header) → h.control < 8 → h.kind < 16 → header_fields (header_byte h) ≡ h
header_forth h c k = three_bits h.control h.kind h.extended c k

pub header_lt : (h : Header) → h.control < 8 → h.kind < 16 → header_byte h < 256
header_lt h c k = go h.extended
  where
    go : (x : Bool) → h.control * 32 + cond x 16 0 + h.kind < 256
    go true = omega arith
    go false = omega arith
