-- What a buffer does whose lines are found by searching for newlines: a line with its newline is one step, what has no newline is kept.
use mathlib.Core.Path.{◌≡◌, refl, sym, ◌∙◌}
use mathlib.Core.Bool.{Bool, true, false, cond}
use mathlib.Core.List.{List, [], ◌∷◌, ◌++◌, append_assoc, append-nil}
use Prim.Native.Nat.{ℕ, zero, suc, ◌+◌, ◌<◌, ◌≤◌}
use native.Mathlib.Omega.{arith}
use lib.Dec.{eqb}
use lib.ListN.{length, get_or, take, drop, take-append-drop}
use lib.Seq.{take-nil, take_all, take-add, take-suc}
use Rattle.base_bytes.specs.Bytes.{index_of, index_after}
use Rattle.text_lines.specs.Ascii.{newline}
use Rattle.text_lines.proofs.Whole.{found_at}
use Rattle.text_program.specs.Lines.{Program}
use Rattle.text_program.specs.Chunks.{Bounded, in_line, at_line_start, feed, feed_text}
use Rattle.text_program.specs.Buffer.{is_unended}
use Rattle.text_program.proofs.Pieces.{front_more, feed_append, text_append}

-- ---- a search for a newline

-- what stands before the first one
pub open_before : (l : List ℕ) → is_unended (take (index_of newline l) l) ≡ true
unfolding index_of index_after is_unended
open_before [] = refl
open_before (c ∷ l) = go (eqb c newline) refl (open_before l)
  where
    go : (t : Bool) → eqb c newline ≡ t → is_unended (take (index_of newline l) l) ≡ true
        → is_unended (take (index_after t (index_of newline l)) (c ∷ l)) ≡ true
    go true e ih = refl
    go false e ih = rw e ih

-- where there is none
pub open_whole : (l : List ℕ) → length l ≤ index_of newline l → is_unended l ≡ true
open_whole l h = rw (sym (take_all (index_of newline l) l h)) (again (index_of newline l) refl)
  where
    again : (k : ℕ) → k ≡ index_of newline l → is_unended (take k l) ≡ true
    again k e = rw e (open_before l)

-- the text up to the next newline
pub up_to_newline : (input : List ℕ) (at k : ℕ) → k ≡ index_of newline (drop at input) → k < length (drop at input)
    → take (at + k + 1) input ≡ take at input ++ (take k (drop at input) ++ (newline ∷ []))
up_to_newline input at k found more =
    let d = drop at input in
    let e : at + k + 1 ≡ at + suc k = omega arith in
    let c : get_or d k 0 ≡ newline = rw found (found_at newline d (rw (sym found) more)) in
    rw (e, take-add at (suc k) input, take-suc d k 0 more, c)

-- ---- pieces

module _ {S : Type 0} (p : Program S) (limit : ℕ) where
  -- without a newline: more of the line
  pub feed_open : (l r : List ℕ) (s : S) → is_unended l ≡ true
      → feed p limit (in_line s (take limit r)) l ≡ in_line s (take limit (r ++ l))
  unfolding feed is_unended
  feed_open [] r s o = rw (append-nil r)
  feed_open (c ∷ l) r s o = go (eqb c newline) o (λ h. feed_open l (r ++ (c ∷ [])) s h)
    where
      go : (t : Bool) → cond t false (is_unended l) ≡ true
          → (is_unended l ≡ true
          → feed p limit (in_line s (take limit (r ++ (c ∷ [])))) l ≡ in_line s (take limit ((r ++ (c ∷ [])) ++ l)))
          → feed p limit
          (cond t (at_line_start (p.next s (take limit r))) (in_line s (take limit (take limit r ++ (c ∷ []))))) l
          ≡ in_line s (take limit (r ++ (c ∷ l)))
      go true o ih = cc
      go false o ih = rw (front_more limit r c) (ih o ∙ rw (append_assoc r (c ∷ []) l))

  pub text_open : (l r : List ℕ) (s : S) → is_unended l ≡ true → feed_text p limit (in_line s (take limit r)) l ≡ []
  unfolding feed_text is_unended
  text_open [] r s o = refl
  text_open (c ∷ l) r s o = go (eqb c newline) o (λ h. text_open l (r ++ (c ∷ [])) s h)
    where
      go : (t : Bool) → cond t false (is_unended l) ≡ true
          → (is_unended l ≡ true → feed_text p limit (in_line s (take limit (r ++ (c ∷ [])))) l ≡ [])
          → cond t (p.text s (take limit r)) []
          ++ feed_text p limit
          (cond t (at_line_start (p.next s (take limit r))) (in_line s (take limit (take limit r ++ (c ∷ []))))) l
          ≡ []
      go true o ih = cc
      go false o ih = rw (front_more limit r c) (ih o)

  feed_start : (l : List ℕ) (s : S) → is_unended l ≡ true → feed p limit (at_line_start s) l ≡ in_line s (take limit l)
  feed_start l s o = rw (take-nil {A = ℕ} limit) at (feed_open l [] s o)

  text_start : (l : List ℕ) (s : S) → is_unended l ≡ true → feed_text p limit (at_line_start s) l ≡ []
  text_start l s o = rw (take-nil {A = ℕ} limit) at (text_open l [] s o)

  -- a buffer that has the kept part of a line in front
  module _ (k x : List ℕ) (s : S) (o : is_unended k ≡ true) (h : length k ≤ limit) where
    pub feed-kept : feed p limit (at_line_start s) (k ++ x) ≡ feed p limit (in_line s k) x
    feed-kept = rw (feed_append p limit k x (at_line_start s), feed_start k s o, take_all limit k h)

    pub text-kept : feed_text p limit (at_line_start s) (k ++ x) ≡ feed_text p limit (in_line s k) x
    text-kept = rw (text_append p limit k x (at_line_start s), text_start k s o, feed_start k s o, take_all limit k h)

  -- Lines were taken, one after the other, from the start of a line in state s₀: they are the text x, and left s and the output.
  pub record Drained (s₀ : S) (x : List ℕ) (s : S) (output : List ℕ) : Type 0 where
    pub state : feed p limit (at_line_start s₀) x ≡ at_line_start s
    pub text : feed_text p limit (at_line_start s₀) x ≡ output

  pub none : (s : S) → Drained s [] s []
  unfolding feed feed_text
  none s = record { state = refl; text = refl }

  -- one line more
  pub more : Bounded p limit → {s₀ s : S} {x output : List ℕ}
      → Drained s₀ x s output → (l : List ℕ) → is_unended l ≡ true
      → Drained s₀ (x ++ (l ++ (newline ∷ []))) (p.next s l) (output ++ p.text s l)
  unfolding feed feed_text
  more b {s₀} {s} {x} {output} d l o =
      let line = l ++ (newline ∷ []) in
      record {
        state =
            rw (
              feed_append p limit x line (at_line_start s₀),
              d.state,
              feed_append p limit l (newline ∷ []) (at_line_start s),
              feed_start l s o,
              b.next s l,
            );
        text =
            rw (
              text_append p limit x line (at_line_start s₀),
              d.state,
              d.text,
              text_append p limit l (newline ∷ []) (at_line_start s),
              text_start l s o,
              feed_start l s o,
              b.text s l,
              append-nil (p.text s l),
            );
      }

  -- what is left has no newline, and is kept
  pub left : {s₀ s : S} {x output : List ℕ} → Drained s₀ x s output → (l : List ℕ) → is_unended l ≡ true
      → (feed p limit (at_line_start s₀) (x ++ l) ≡ in_line s (take limit l))
      × (feed_text p limit (at_line_start s₀) (x ++ l) ≡ output)
  left {s₀} {s} {x} {output} d l o = (
    rw (feed_append p limit x l (at_line_start s₀), d.state, feed_start l s o),
    rw (text_append p limit x l (at_line_start s₀), d.state, d.text, text_start l s o, append-nil output),
  )

  -- lines, and then more lines
  pub both : {s₀ s s' : S} {x y output output' : List ℕ} → Drained s₀ x s output
      → Drained s y s' output' → Drained s₀ (x ++ y) s' (output ++ output')
  both {s₀} {s} {s'} {x} {y} d e =
      record {
        state = rw (feed_append p limit x y (at_line_start s₀), d.state) e.state;
        text = rw (text_append p limit x y (at_line_start s₀), d.state, d.text, e.text);
      }

  -- A turn of the program: k was kept, x was read behind it, the lines of the first n characters were taken, and no newline is left.
  pub turn : {s₀ s : S} {output : List ℕ} (k x : List ℕ) (n : ℕ) → is_unended k ≡ true → length k ≤ limit
      → Drained s₀ (take n (k ++ x)) s output → is_unended (drop n (k ++ x)) ≡ true
      → (feed p limit (in_line s₀ k) x ≡ in_line s (take limit (drop n (k ++ x))))
      × (feed_text p limit (in_line s₀ k) x ≡ output)
  turn {s₀} k x n o h d rest =
      let b = k ++ x in
      let l = rw (take-append-drop n b) at (left d (drop n b) rest) in
      (sym (feed-kept k x s₀ o h) ∙ l.0, sym (text-kept k x s₀ o h) ∙ l.1)

-- what is kept has no newline either
pub open_front : (n : ℕ) (l : List ℕ) → is_unended l ≡ true → is_unended (take n l) ≡ true
unfolding is_unended
open_front zero l o = refl
open_front (suc n) [] o = refl
open_front (suc n) (c ∷ l) o = go (eqb c newline) o (open_front n l)
  where
    go : (t : Bool) → cond t false (is_unended l) ≡ true
        → (is_unended l ≡ true → is_unended (take n l) ≡ true) → cond t false (is_unended (take n l)) ≡ true
    go true o ih = o
    go false o ih = ih o
