-- Laws of texts that are stored in a buffer.
--     then                                one text after another
--     loosened                            a larger bound
--     fitting, not-fitting, if-fits       where the longest text fits, where it does not, and for a caller who knows that it fits
--     copy-next                           a text that is stored from its front on
--     take_rest                           the part from an index to the end
use mathlib.Core.Path.{◌≡◌, refl, sym, ◌∙◌}
use mathlib.Core.Bool.{true, false}
use mathlib.Core.List.{List, [], ◌∷◌, ◌++◌}
use Prim.Native.Nat.{ℕ, suc, ◌+◌, ◌-◌, ◌<◌, ◌≤◌}
use native.Mathlib.Omega.{arith}
use native.Mathlib.Numerals.{add-one}
use native.Mathlib.Nat.{add-zero, add-suc, suc-add}
use lib.Dec.{leb}
use borrow.Author.Tests.{le-leb}
use lib.ListN.{length, get_or, take, drop, set, length-append, length-drop}
use lib.Seq.{sets, drop-cons, take_all}
use Rattle.base_buffers.specs.Printed.{Printed, PrintedIfFits}

-- ---- one text after another

sets_append : (a b l : List ℕ) (i : ℕ) → sets l i (a ++ b) ≡ sets (sets l i a) (i + length a) b
sets_append [] b l i = rw (add-zero i)
sets_append (x ∷ a) b l i = rw (add-suc i (length a), ← suc-add i (length a)) (sets_append a b (set l i x) (suc i))

pub then : {out out' out'' a b : List ℕ} {at r r' m n : ℕ} → Printed out at a m out' r
    → Printed out' r b n out'' r' → Printed out at (a ++ b) (m + n) out'' r'
then {out} {a = a} {b = b} {at = at} p q =
    record {
      bytes = q.bytes ∙ rw (p.next, p.bytes, ← sets_append a b out at);
      next = omega (arith, q.next, p.next, length-append a b);
      short = omega (arith, q.short, p.short);
    }

-- a larger bound
pub loosened : {out out' text : List ℕ} {at r m n : ℕ}
    → Printed out at text m out' r → m ≤ n → Printed out at text n out' r
loosened p h = record { bytes = p.bytes; next = p.next; short = omega (arith, p.short) }

-- where the longest text fits, and where it does not
pub fitting : {out out' text : List ℕ} {at r longest : ℕ} → leb (at + longest) (length out) ≡ true
    → Printed out at text longest out' r → PrintedIfFits out at longest text out' r
fitting e p = rw e p

-- what a caller gets who knows that it fits
pub if_fits : {out out' text : List ℕ} {at longest r : ℕ} → at + longest ≤ length out
    → PrintedIfFits out at longest text out' r → Printed out at text longest out' r
if_fits {out} {at = at} {longest = longest} h p = rw (le-leb (at + longest) (length out) h) at p

pub not_fitting : {out : List ℕ} {at longest : ℕ} (text : List ℕ)
    → leb (at + longest) (length out) ≡ false → PrintedIfFits out at longest text out at
not_fitting {at = at} text e = rw e (record { bytes = refl; next = sym (add-zero at); short = omega arith })

-- ---- a text that is stored from its front on

pub copy_next : (out s : List ℕ) (at i : ℕ) → i < length s
    → sets out (at + i) (drop i s) ≡ sets (set out (at + i) (get_or s i 0)) (at + (i + 1)) (drop (i + 1) s)
copy_next out s at i h =
    let e : at + (i + 1) ≡ suc (at + i) = omega arith in
    rw (drop-cons s i 0 h, e, add-one i)

-- the part from an index to the end
pub take_rest : (l : List ℕ) (n i : ℕ) → length l ≡ n → take (n - i) (drop i l) ≡ drop i l
take_rest l n i h = take_all (n - i) (drop i l) (simp length-drop (omega arith))
