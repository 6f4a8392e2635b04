-- The transmitter of a valid row is its TXID.
use Prim.Native.Nat.{ℕ, ◌-◌}
use native.Mathlib.Omega.{arith}
use mathlib.Core.Path.{◌≡◌, refl, sym, ap, ◌∙◌}
use mathlib.Core.Bool.{Bool, true, false, cond}
use mathlib.Core.List.{List}
use lib.ListN.{length, take, drop}
use borrow.Author.Tests.{eqb-true}
use Rattle.radio_erp1.specs.Subtelegram.{is_addressed, check_of}
use Rattle.radio_erp1.proofs.Checks.{check_facts}
use Rattle.block_layout.specs.BigEndian.{unbe}
use Rattle.radio_telegram.specs.Fields.{fields_of, plain_fields, addressed_fields}
use Rattle.archive_model.specs.Identity.{Transmitter}

-- in both forms TXID stands before STATUS and HASH
txid_is : (s : List ℕ) → (fields_of s).txid ≡ take (length s - 2 - (length s - 6)) (drop (length s - 6) s)
unfolding fields_of
txid_is s = go (is_addressed s)
  where
    go : (b : Bool)
        → (cond b (addressed_fields s) (plain_fields s)).txid
        ≡ take (length s - 2 - (length s - 6)) (drop (length s - 6) s)
    go true = refl
    go false = refl

pub transmitter : Transmitter
transmitter r valid =
    let s = r.bytes in
    let low = (check_facts s (eqb-true (check_of s) 0 valid)).low in
    let e : 4 ≡ length s - 2 - (length s - 6) = omega arith in
    ap unbe (ap (λ (n : ℕ). take n (drop (length s - 6) s)) e ∙ sym (txid_is s))
