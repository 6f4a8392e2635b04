-- Taking whole lines from one buffer into another, one after the other.
use mathlib.Core.Path.{◌≡◌, refl, ◌∙◌}
use mathlib.Core.List.{List, []}
use Prim.Native.Nat.{ℕ, ◌+◌, ◌-◌, ◌<◌, ◌≤◌}
use native.Mathlib.Omega.{arith}
use lib.ListN.{length, take, drop, length-drop}
use lib.Seq.{take-length}
use Rattle.base_bytes.specs.Bytes.{index_of, slice}
use Rattle.text_lines.specs.Ascii.{newline}
use Rattle.text_lines.specs.Reading.{line_limit}
use Rattle.base_buffers.specs.Printed.{Printed}
use Rattle.base_buffers.proofs.Stores.{then}
use Rattle.text_program.specs.Lines.{Program}
use Rattle.text_program.specs.Chunks.{Bounded, at_line_start, feed, feed_text}
use Rattle.text_program.specs.Buffer.{Fed}
use Rattle.text_program.proofs.Segments.{Drained, more, open_before, up_to_newline}

-- what a search for a newline from `at` to the end of the input answers
pub found : (input : List ℕ) (at : ℕ) {n : ℕ} → n ≡ at + index_of newline (slice at (length input) input)
    → n ≡ at + index_of newline (drop at input)
unfolding slice
found input at e = e ∙ rw (take-length input)

module _ {S : Type 0} (p : Program S) (b : Bounded p line_limit) where
  pub fed_none : (s : S) (out : List ℕ) → Fed p s [] out s out 0
  unfolding feed feed_text
  fed_none s out = record { state = refl; output = record { bytes = refl; next = refl; short = omega arith } }

  -- the line from `at` to the newline at n, whose text was written at `to`
  pub fed_next : {s₀ s : S} {out₀ out out' : List ℕ} {to most r : ℕ} (input : List ℕ) (at n : ℕ)
      → Fed p s₀ (take at input) out₀ s out to → n ≡ at + index_of newline (drop at input)
      → n < length input → at ≤ length input
      → Printed out to (p.text s (take (n - at) (drop at input))) most out' r → r ≤ length out₀
      → Fed p s₀ (take (n + 1) input) out₀ (p.next s (take (n - at) (drop at input))) out' r
  fed_next {s₀} {s} {out₀} {r = r} input at n f e h l q fits =
      let d = drop at input in
      let k = n - at in
      let first : k ≡ index_of newline d = omega arith in
      let next : n + 1 ≡ at + k + 1 = omega arith in
      let cut = up_to_newline input at k first (simp length-drop (omega arith)) in
      let before : Drained p line_limit s₀ (take at input) s
      (feed_text p line_limit (at_line_start s₀) (take at input)) =
      record { state = f.state; text = refl } in
      let x = more p line_limit b before (take k d) (rw first (open_before d)) in
      let t = then f.output q in
      record {
        state = rw (next, cut) x.state;
        output = rw (next, cut, x.text) (record { bytes = t.bytes; next = t.next; short = omega arith });
      }
