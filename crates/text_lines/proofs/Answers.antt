-- What the answer of `parse` and the bytes that it writes tell its caller.
use Rattle.std.specs.Prelude.{Option, Some, None}
use mathlib.Core.Path.{◌≡◌, refl, ap, ◌∙◌, sym}
use mathlib.Core.List.{List, []}
use Prim.Native.Nat.{ℕ, ◌+◌, ◌≤◌, ◌<◌}
use native.Mathlib.Omega.{arith}
use lib.ListN.{length, take, length-append, length-replicate}
use Rattle.base_bytes.specs.Bytes.{index_of}
use Rattle.base_lists.proofs.Padded.{take-padded}
use Rattle.text_lines.specs.Ascii.{newline}
use Rattle.text_lines.specs.Reading.{reception, bad, line_reading, front_of, line_of, bytes_in}
use Rattle.text_lines.specs.declared.Heard.{Heard}
use Rattle.text_lines.specs.declared.Line.{Line}
use Rattle.text_lines.proofs.Pairs.{hexed, leading_hex}
use Rattle.text_lines.proofs.Starts.{by_cases}
use Rattle.text_lines.proofs.Whole.{said}

-- a reception has 64 bytes at most
few_bytes : (l : List ℕ) {time : ℕ} {bytes : List ℕ} → line_reading l ≡ reception time bytes → length bytes ≤ 64
few_bytes l e =
    let w = said l e in
    omega (arith, (hexed w.hex w.is_right).short, (leading_hex w.hex [] w.is_right).1, ap length w.says_bytes)

module _ (text : List ℕ) where
  abbrev n : ℕ
  n = index_of newline text

  abbrev line : List ℕ
  line = take n text

  module _ {bytes : List ℕ} {r : Option Line}
      (e : (r ≡ line_of (front_of text)) × (bytes ≡ bytes_in (front_of text))) where
    -- no newline ends the line
    pub said_open : r ≡ None → length text ≤ index_of newline text
    said_open u =
        by_cases text (λ x. line_of x ≡ None → length text ≤ n)
        (λ h v. h)
        (λ h q v. cc)
        (λ t bs h q v. cc)
        (rw e.0 at u)

    -- the array keeps its length
    pub bytes_fill : length bytes ≡ 64
    bytes_fill =
        rw e.1
        (by_cases text (λ x. length (bytes_in x) ≡ 64)
        (λ h. refl)
        (λ h q. refl)
        (λ t bs h q. simp (length-append, length-replicate) (omega (arith, few_bytes line q))))

    module _ {l : Line} (some : r ≡ Some l) where
      there : line_of (front_of text) ≡ Some l
      there = sym e.0 ∙ some

      -- a newline ends it, and the characters up to there are used
      pub said-ended : (index_of newline text < length text) × (l.used ≡ index_of newline text + 1)
      said-ended =
          by_cases text (λ x. line_of x ≡ Some l → (n < length text) × (l.used ≡ n + 1))
          (λ h v. cc)
          (λ h q v. (h, cc))
          (λ t bs h q v. (h, cc))
          there

      pub said-bad : l.heard ≡ None → line_reading (take (index_of newline text) text) ≡ bad
      said-bad f =
          by_cases text (λ x. line_of x ≡ Some l → line_reading line ≡ bad)
          (λ h v. cc)
          (λ h q v. q)
          (λ t bs h q v. cc)
          there

      module _ {w : Heard} (heard : l.heard ≡ Some w) where
        pub said-reception : line_reading (take (index_of newline text) text) ≡ reception w.time (take w.len bytes)
        said-reception =
            rw e.1
            (by_cases text
            (λ x. line_of x ≡ Some l → line_reading line ≡ reception w.time (take w.len (bytes_in x)))
            (λ h v. cc)
            (λ h q v. cc)
            (λ t bs h q v.
            let same : record { time = t; len = length bs } ≡ w = cc in
            q ∙ rw (sym same, take-padded 64 bs))
            there)

        pub len-fits : w.len ≤ length bytes
        len-fits =
            rw e.1
            (by_cases text (λ x. line_of x ≡ Some l → w.len ≤ length (bytes_in x))
            (λ h v. cc)
            (λ h q v. cc)
            (λ t bs h q v.
            let same : length bs ≡ w.len = cc in
            simp length-append (omega arith))
            there)
