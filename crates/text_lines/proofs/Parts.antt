-- The parts of a line as they are read from the start of a text: k digits that say the time t, and m bytes behind the space. The line says a
-- reception exactly where a newline stands behind these.
use Rattle.std.specs.Prelude.{Some, None}
use mathlib.Core.Path.{◌≡◌, sym, ap, ◌∙◌}
use mathlib.Core.List.{List, [], ◌∷◌, ◌++◌, append_assoc}
use Prim.Native.Nat.{ℕ, ◌+◌, ◌-◌, ◌*◌, ◌<◌, ◌≤◌}
use native.Mathlib.Omega.{arith}
use native.Mathlib.Numerals.{add-one}
use lib.ListN.{length, get_or, take, drop, length-append, length-drop}
use lib.Seq.{split_at, take_all, length-take-le, drop-append-add, get_or_at}
use Rattle.text_lines.specs.Ascii.{newline, space}
use Rattle.text_lines.specs.Decimal.{timed_of}
use Rattle.text_lines.specs.Hex.{hex_bytes, leading_bytes, Decoded}
use Rattle.text_lines.specs.Reading.{front_of, line_of, bytes_in}
use Rattle.text_lines.proofs.Pairs.{Leading, leading_hex, leading, leading_right}
use Rattle.text_lines.proofs.Times.{same_parts, Timely, timely}
use Rattle.text_lines.proofs.Starts.{Starts, line, length-line, line_first, time_first, front_reception}

-- what stands behind p starts with c
next_is : (p q : List ℕ) {n c : ℕ} → length p ≡ n → n < length (p ++ q) → get_or (p ++ q) n 0 ≡ c → q ≡ c ∷ drop 1 q
next_is p [] e h g = absurd (omega (arith, length-append p []))
next_is p (x ∷ q) {n} e h g = ap (λ (y : ℕ). y ∷ q) (sym (get_or_at p x q 0 n e) ∙ g)

pub no_time : (text : List ℕ) → None ≡ timed_of text → Starts text → ⊥
no_time text e w =
    let f = time_first w in
    let z : ◌≡◌ {A = ℕ} 0 1 = cc in
    omega arith

module _ (text : List ℕ) {t k : ℕ} (timed : timed_of text ≡ Some (t, k)) where
  time : Timely text t k
  time = timely text timed

  pub time-within : k < length text
  time-within = time.within

  module _ {m : ℕ} {bytes : List ℕ} (read : Decoded (take (length text - (k + 1)) (drop (k + 1) text)) bytes m) where
    abbrev behind : List ℕ
    behind = drop (k + 1) text

    decoded : Decoded behind bytes m
    decoded = rw (take_all (length text - (k + 1)) behind (simp length-drop (omega arith))) at read

    pairs : Leading 64 behind
    pairs = leading 64 behind

    abbrev front : List ℕ
    front = take k text ++ (space ∷ pairs.hex)

    size : length front ≡ k + 1 + 2 * m
    size =
        simp length-append
        (omega (arith, length-take-le k text (omega (arith, time.within)), pairs.count, decoded.answer))

    whole : text ≡ front ++ pairs.rest
    whole =
        let split : text ≡ take k text ++ (space ∷ behind) =
        split_at text k 0 time.within ∙ rw (time.behind, add-one k) in
        split ∙ ap (λ (l : List ℕ). take k text ++ (space ∷ l)) pairs.parts
        ∙ sym (append_assoc (take k text) (space ∷ pairs.hex) pairs.rest)

    pub read_within : k + 1 + 2 * m ≤ length text
    read_within = omega (arith, size, ap length whole ∙ length-append front pairs.rest)

    -- where the text starts with a reception, the newline stands there
    newline_next : Starts text → (k + 1 + 2 * m < length text) × (get_or text (k + 1 + 2 * m) 0 ≡ newline)
    newline_next w =
        let f = time_first w in
        let here : k ≡ length w.digits = (same_parts (sym timed ∙ f)).1 in
        let left = w.hex ++ (newline ∷ w.rest) in
        let after : behind ≡ left = rw (w.parts, here) (drop-append-add w.digits (space ∷ left) 1) in
        let x = leading_hex w.hex w.rest w.is_right in
        let same : m ≡ length (hex_bytes w.hex) =
        decoded.answer ∙ ap (λ (s : List ℕ). length (leading_bytes 64 s)) after ∙ ap length x.0 in
        let at : length (line w) ≡ k + 1 + 2 * m = omega (arith, length-line w) in (
          rw (line_first w) (simp length-append (omega arith)),
          rw (line_first w) (get_or_at (line w) newline w.rest 0 (k + 1 + 2 * m) at),
        )

    pub no_end : length text ≤ k + 1 + 2 * m → Starts text → ⊥
    no_end h w = omega (arith, (newline_next w).0)

    pub no_newline : (get_or text (k + 1 + 2 * m) 0 ≡ newline → ⊥) → Starts text → ⊥
    no_newline n w = n (newline_next w).1

    -- where the newline stands there, the text starts with a reception
    module _ (within : k + 1 + 2 * m < length text) (next : get_or text (k + 1 + 2 * m) 0 ≡ newline) where
      starts : Starts text
      starts =
          let r = pairs.rest in
          let first : r ≡ newline ∷ drop 1 r = next_is front r size (rw (sym whole) within) (rw (sym whole) next) in
          record {
            digits = take k text;
            hex = pairs.hex;
            rest = drop 1 r;
            parts =
                whole ∙ ap (λ (l : List ℕ). front ++ l) first
                ∙ append_assoc (take k text) (space ∷ pairs.hex) (newline ∷ drop 1 r);
            is_timely = time.right;
            is_right = leading_right pairs;
          }

      pub answer : (Some (record { heard = Some (record { time = t; len = m }); used = k + 1 + 2 * m + 1 })
          ≡ line_of (front_of text))
          × (bytes ≡ bytes_in (front_of text))
      unfolding starts
      answer = (
        rw (front_reception starts, size, time.says, pairs.says, decoded.answer),
        rw (front_reception starts, pairs.says) decoded.written,
      )
