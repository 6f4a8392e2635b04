-- A text that is written to the part of a buffer from a place on, and lines that are taken into such a part.
use mathlib.Core.Path.{◌≡◌, refl, sym, ap, ◌∙◌}
use mathlib.Core.List.{List, [], ◌++◌, append_assoc, append-nil}
use Prim.Native.Nat.{ℕ, ◌+◌, ◌-◌, ◌≤◌}
use native.Mathlib.Omega.{arith}
use native.Mathlib.Nat.{zero-add}
use lib.ListN.{length, take, drop, length-drop}
use lib.Seq.{sets-eq, drop-drop, drop-length, take-add}
use borrow.Rule.Slice.PartMut.{put_mid, post_of, Post-is}
use Rattle.base_buffers.specs.Printed.{Printed}
use Rattle.base_buffers.proofs.Stores.{then, take_rest}
use Rattle.text_lines.specs.Reading.{line_limit}
use Rattle.text_program.specs.Lines.{Program}
use Rattle.text_program.specs.Chunks.{at_line_start}
use Rattle.text_program.specs.Buffer.{Fed}
use Rattle.text_program.proofs.Pieces.{feed_append, text_append}

-- ---- the part from `to` on is put back

module _ (out : List ℕ) (to : ℕ) (within : to ≤ length out) where
  abbrev back_with : List ℕ → List ℕ
  back_with part = put_mid to (length out - to) out part

  -- with xs at its front
  pub put_front : (xs : List ℕ) → to + length xs ≤ length out
      → back_with (xs ++ drop (length xs) (drop to out)) ≡ take to out ++ (xs ++ drop (to + length xs) out)
  put_front xs fits =
      let none : post_of to (length out - to) out ≡ [] = Post-is to (length out) out within ∙ drop-length out in
      rw (none, append-nil (xs ++ drop (length xs) (drop to out)), drop-drop (length xs) to out)

  pub put-part : {text part' : List ℕ} {most r : ℕ}
      → Printed (take (length out - to) (drop to out)) 0 text most part' r → to + length text ≤ length out
      → Printed out to text most (back_with part') (to + r)
  put-part {text} {part'} p fits =
      let m = drop to out in
      let q = rw (take_rest out (length out) to refl) at p in
      let e : part' ≡ text ++ drop (length text) m =
      q.bytes ∙ rw (zero-add (length text)) at (sets-eq text m 0 (simp length-drop (omega arith))) in
      record {
        bytes =
            rw e (put_front text fits)
            ∙ sym (sets-eq text out to fits ∙ append_assoc (take to out) text (drop (to + length text) out));
        next = omega (arith, p.next);
        short = omega (arith, p.short);
      }

-- a part that is replaced as a whole
pub copied-part : (out : List ℕ) (to k : ℕ) (xs : List ℕ) → k ≡ length xs
    → put_mid to k out xs ≡ take to out ++ (xs ++ drop (to + length xs) out)
copied-part out to k xs e = rw e (ap (λ (z : List ℕ). take to out ++ (xs ++ z)) (drop-drop (length xs) to out))

-- ---- more lines

module _ {S : Type 0} (p : Program S) {s₀ s s' : S} {out₀ out part' : List ℕ} {to w : ℕ}
    (input : List ℕ) (at used : ℕ) (f : Fed p s₀ (take at input) out₀ s out to)
    (long : length out ≡ length out₀) (room : to ≤ length out)
    (g : Fed p s (take used (drop at input)) (take (length out - to) (drop to out)) s' part' w) where
  written-short : to + w ≤ length out
  written-short = omega (arith, g.output.short, ap length (take_rest out (length out) to refl), length-drop to out)

  pub more-fed : Fed p s₀ (take (at + used) input) out₀ s' (put_mid to (length out - to) out part') (to + w)
  more-fed =
      let x = take at input in
      let y = take used (drop at input) in
      let t = then f.output (put-part out to room g.output (omega (arith, g.output.next, written-short))) in
      record {
        state = rw (take-add at used input, feed_append p line_limit x y (at_line_start s₀), f.state) g.state;
        output =
            rw (take-add at used input, text_append p line_limit x y (at_line_start s₀), f.state)
            (record { bytes = t.bytes; next = t.next; short = omega (arith, written-short) });
      }
