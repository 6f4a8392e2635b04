-- Hex digits as they are stored, and the words of an answer.
use mathlib.Core.Path.{◌≡◌, refl}
use mathlib.Core.List.{List, [], ◌∷◌, ◌++◌}
use Prim.Native.Nat.{ℕ, suc, ◌+◌, ◌*◌, ◌/◌, ◌%◌, ◌<◌}
use native.Mathlib.Omega.{arith}
use native.Mathlib.Numerals.{add-one}
use Rattle.text_lines.specs.Ascii.{space}
use lib.ListN.{length, get_or, drop, set}
use lib.Seq.{sets, drop-cons}
use Rattle.text_rows.specs.Text.{hex_digit_of, hex_text, kept_word, send_word, answer_text}
use Rattle.text_rows.specs.declared.Row.{Row}

pub hex_next : (out s : List ℕ) (to i : ℕ) → i < length s
    → sets out to (hex_text (drop i s))
    ≡ sets (set (set out to (hex_digit_of (get_or s i 0 / 16))) (to + 1) (hex_digit_of (get_or s i 0 % 16)))
    (to + 2) (hex_text (drop (i + 1) s))
unfolding hex_text
hex_next out s to i h =
    let e : to + 2 ≡ suc (suc to) = omega arith in
    rw (drop-cons s i 0 h, e, add-one i, add-one to)

pub hex-length : (s : List ℕ) → length (hex_text s) ≡ 2 * length s
unfolding hex_text
hex-length [] = refl
hex-length (b ∷ s) = omega (arith, hex-length s)

-- KEPT, alone and with what is sent
pub kept-alone : (sent : List ℕ) → length sent ≡ 0 → answer_text Row.Kept sent ≡ kept_word
unfolding answer_text
kept-alone [] e = refl
kept-alone (b ∷ bs) e = absurd (omega arith)

pub kept_sends : (sent : List ℕ) → (length sent ≡ 0 → ⊥)
    → answer_text Row.Kept sent ≡ kept_word ++ (space ∷ send_word ++ (space ∷ hex_text sent))
unfolding answer_text
kept_sends [] n = absurd (n refl)
kept_sends (b ∷ bs) n = refl
