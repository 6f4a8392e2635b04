-- The line at the start of a text says a reception exactly where the text starts with a time, a space, bytes and a newline.
use Rattle.std.specs.Prelude.{Option, Some, None}
use mathlib.Core.Path.{◌≡◌, refl, sym, ap, ◌∙◌}
use mathlib.Core.Bool.{Bool, true, false, cond}
use mathlib.Core.List.{List, ◌∷◌, ◌++◌, append_assoc}
use Prim.Native.Nat.{ℕ, suc, ◌+◌, ◌<◌, ◌≤◌}
use native.Mathlib.Omega.{arith}
use native.Mathlib.Nat.{zero-add}
use lib.Dec.{ltb}
use lib.ListN.{length, take, drop, replicate, length-append}
use lib.Seq.{split_at, take-length, take_at}
use borrow.Author.Tests.{lt-ltb, le-ltb, ltb-true, ltb-false}
use Rattle.base_bytes.specs.Bytes.{index_of, index_after, slice}
use Rattle.text_lines.specs.Ascii.{newline, space}
use Rattle.text_lines.specs.Decimal.{is_digit, decimal_of, is_time, timed_of}
use Rattle.text_lines.specs.Hex.{nibble_of, is_hex_digit, is_hex, hex_bytes}
use Rattle.text_lines.specs.Reading.{Reading, reception, bad, line_reading, Front, ended, unended, front_of, bad_front, line_of, bytes_in}
use Rattle.text_lines.specs.declared.Line.{Line}
use Rattle.text_lines.proofs.Pairs.{hexed}
use Rattle.text_lines.proofs.Times.{timed-joined}
use Rattle.text_lines.proofs.Whole.{found_at, index_past, time-digits, joined, said}

-- a text that starts so
pub record Starts (text : List ℕ) : Type 0 where
  pub digits : List ℕ
  pub hex : List ℕ
  pub rest : List ℕ
  pub parts : text ≡ digits ++ (space ∷ (hex ++ (newline ∷ rest)))
  pub is_timely : is_time digits ≡ true
  pub is_right : is_hex hex ≡ true

module _ {text : List ℕ} (w : Starts text) where
  abbrev pub line : List ℕ
  line = w.digits ++ (space ∷ w.hex)

  pub length-line : length line ≡ length w.digits + 1 + length w.hex
  length-line = simp length-append (omega arith)

  pub line_first : text ≡ line ++ (newline ∷ w.rest)
  line_first = w.parts ∙ sym (append_assoc w.digits (space ∷ w.hex) (newline ∷ w.rest))

  newline_behind : index_of newline text ≡ length line
  unfolding index_of index_after nibble_of
  newline_behind =
      let behind = newline ∷ w.rest in
      let past-hex = index_past newline is_hex_digit refl w.hex behind (hexed w.hex w.is_right).digits in
      let past-digits =
      index_past newline is_digit refl w.digits
      (space ∷ (w.hex ++ behind)) (time-digits w.digits w.is_timely) in
      rw (w.parts, past-digits, past-hex) (omega (arith, length-line))

  pub front_reception : front_of text ≡ ended (length line) (reception (decimal_of w.digits) (hex_bytes w.hex))
  unfolding front_of
  front_reception =
      let short : length line < length text = rw line_first (simp length-append (omega arith)) in
      let front : take (length line) text ≡ line =
      rw line_first (take_at line (newline ∷ w.rest) (length line) refl) in
      rw (
        newline_behind,
        lt-ltb (length line) (length text) short,
        front,
        joined w.digits w.hex w.is_timely w.is_right,
      )

  pub time_first : timed_of text ≡ Some (decimal_of w.digits, length w.digits)
  time_first = rw w.parts (timed-joined w.digits (w.hex ++ (newline ∷ w.rest)) w.is_timely)

-- ---- the three cases

module _ (text : List ℕ) where
  abbrev n : ℕ
  n = index_of newline text

  -- what holds in each of them holds
  pub by_cases : (P : Front → Type 0) → (length text ≤ n → P unended)
      → (n < length text → line_reading (take n text) ≡ bad → P (ended n bad))
      → ((t : ℕ) (bs : List ℕ) → n < length text
      → line_reading (take n text) ≡ reception t bs → P (ended n (reception t bs)))
      → P (front_of text)
  unfolding front_of
  by_cases P a b c = go (ltb n (length text)) refl (line_reading (take n text)) refl
    where
      go : (t : Bool) → ltb n (length text) ≡ t → (x : Reading)
          → line_reading (take n text) ≡ x → P (cond t (ended n x) unended)
      go false p x q = a (ltb-false n (length text) p)
      go true p bad q = b (ltb-true n (length text) p) q
      go true p (reception t bs) q = c t bs (ltb-true n (length text) p) q

  -- every line that says a reception is made so
  starts_so : {t : ℕ} {bs : List ℕ} → n < length text → line_reading (take n text) ≡ reception t bs → Starts text
  starts_so h e =
      let w = said (take n text) e in
      let behind = newline ∷ drop (suc n) text in
      let split : text ≡ take n text ++ behind = split_at text n 0 h ∙ rw (found_at newline text h) in
      record {
        digits = w.digits;
        hex = w.hex;
        rest = drop (suc n) text;
        parts = split ∙ ap (λ (l : List ℕ). l ++ behind) w.parts ∙ append_assoc w.digits (space ∷ w.hex) behind;
        is_timely = w.is_timely;
        is_right = w.is_right;
      }

-- ---- a line that is known to be BAD

-- a search through the whole of a text
pub found_whole : (b : ℕ) (text : List ℕ) {n : ℕ} → n ≡ 0 + index_of b (slice 0 (length text) text)
    → n ≡ index_of b text
unfolding slice
found_whole b text e = e ∙ rw (take-length text, zero-add (index_of b text))

module _ (text : List ℕ) {n : ℕ} (found : n ≡ index_of newline text) where
  pub not-ended : length text ≤ n → None ≡ line_of (bad_front text)
  unfolding bad_front
  not-ended h = rw (sym found, le-ltb n (length text) h)

  pub ended-bad : n < length text → Some (record { heard = None; used = n + 1 }) ≡ line_of (bad_front text)
  unfolding bad_front
  ended-bad h = rw (sym found, lt-ltb n (length text) h)

pub answer-bad : {text bytes : List ℕ} {r : Option Line} → (Starts text → ⊥)
    → (r ≡ line_of (bad_front text)) × (bytes ≡ replicate 64 0)
    → (r ≡ line_of (front_of text)) × (bytes ≡ bytes_in (front_of text))
answer-bad {text} {bytes} {r} other e =
    by_cases text (λ x. (r ≡ line_of x) × (bytes ≡ bytes_in x))
    (λ h. (e.0 ∙ sym (not-ended text refl h), e.1))
    (λ h q. (e.0 ∙ sym (ended-bad text refl h), e.1))
    (λ t bs h q. absurd (other (starts_so text h q)))
