-- What is kept of a line that has not ended.
use mathlib.Core.Path.{◌≡◌, sym}
use mathlib.Core.Bool.{and-false}
use mathlib.Core.List.{List, []}
use Prim.Native.Nat.{ℕ, min, ◌+◌, ◌-◌, ◌<◌, ◌≤◌}
use native.Mathlib.Omega.{arith}
use native.Mathlib.Decide.{dec_lt}
use lib.Dec.{leb}
use lib.ListN.{length, take, drop, length-drop}
use lib.Seq.{sets, take-take, take_all, length-take-le}
use borrow.Author.Tests.{le-leb, lt-leb}
use Rattle.text_lines.specs.Reading.{line_limit}
use Rattle.text_program.specs.Buffer.{kept_line, Carried}

module _ (buffer : List ℕ) (from end : ℕ) where
  no_end : length buffer < end → kept_line buffer from end ≡ []
  unfolding kept_line
  no_end h = rw (lt-leb end (length buffer) h)

  no_start : end < from → kept_line buffer from end ≡ []
  unfolding kept_line
  no_start h = rw (lt-leb from end h, and-false (leb end (length buffer)))

  nothing : kept_line buffer from end ≡ [] → Carried buffer from end buffer 0
  nothing e = record { bytes = rw e; count = rw e }

  pub past-buffer : length buffer < end → Carried buffer from end buffer 0
  past-buffer h = nothing (no_end h)

  pub past_end : end < from → Carried buffer from end buffer 0
  past_end h = nothing (no_start h)

  -- n characters of a part that the buffer has
  module _ (within : end ≤ length buffer) (ordered : from ≤ end) {n r : ℕ} {new : List ℕ}
      (moved : (new ≡ sets buffer 0 (take n (drop from buffer))) × (r ≡ n)) (fits : from + n ≤ end) where
    something : take line_limit (take (end - from) (drop from buffer)) ≡ take n (drop from buffer)
        → Carried buffer from end new r
    unfolding kept_line
    something e =
        let l : length (take n (drop from buffer)) ≡ n =
        length-take-le n (drop from buffer) (simp length-drop (omega arith)) in
        record {
          bytes = rw (le-leb end (length buffer) within, le-leb from end ordered, e) moved.0;
          count = rw (le-leb end (length buffer) within, le-leb from end ordered, e, l) moved.1;
        }

    all_kept : n ≡ end - from → n ≤ line_limit → Carried buffer from end new r
    all_kept e h =
        something (rw (sym e)
        (take_all line_limit (take n (drop from buffer))
        (rw (length-take-le n (drop from buffer) (simp length-drop (omega arith))) h)))

    front_kept : n ≡ line_limit → Carried buffer from end new r
    front_kept e = something (rw e (take-take line_limit (end - from) (drop from buffer) (omega arith)))

    pub kept : n ≡ min (end - from) line_limit → Carried buffer from end new r
    kept e = elim (dec_lt line_limit (end - from)) [
      | yes l ↦ front_kept (omega arith)
      | no l ↦ all_kept (omega arith) (omega arith)
    ]
