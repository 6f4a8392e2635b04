-- Each row is in the file of `--out` once.
use Prim.Native.Nat.{ℕ, ◌+◌, ◌≤◌}
use native.Mathlib.Omega.{arith}
use mathlib.Core.Path.{◌≡◌, refl, sym, ap, ap₂, ◌∙◌}
use mathlib.Core.Bool.{Bool, true, false, cond, not, ◌&&◌}
use mathlib.Core.List.{List, [], ◌∷◌, ◌++◌, append_assoc, append-nil}
use lib.Dec.{eqb}
use lib.ListN.{length, take, drop, length-append, length-take, drop_of_length-le}
use lib.Seq.{take-add, take_all}
use borrow.Author.Tests.{eqb-true, eqb-false, eq-eqb, ne_eqb}
use Rattle.base_lists.proofs.Tests.{by_test}
use Rattle.base_buffers.proofs.Segments.{take_clamped}
use Rattle.text_rows.specs.Formats.{heading_in}
use Rattle.journal_model.specs.Out.{Out, OutEvent, Print, Stop, OutLeft, early, late, text_behind, next_of, batch_text, print_batch, cut_out, out_run, IsOutRun, top_of, RowsOnce, OnceInFile, row_after_lines, FirstLineSilent, OnceInFormat}

no_bytes : (xs : List ℕ) → length xs ≡ 0 → xs ≡ []
no_bytes [] e = refl
no_bytes (x ∷ xs) e = absurd (omega arith)

module _ (text : List (List ℕ) → List ℕ → List ℕ) (heading : List ℕ) (log : List (List ℕ)) where
  abbrev said : List (List ℕ) → List (List ℕ) → List ℕ
  said = text_behind text heading log

  text_append : (xs ys before : List (List ℕ)) → said before (xs ++ ys) ≡ said before xs ++ said (before ++ xs) ys
  unfolding text_behind
  text_append [] ys before = ap (λ (b : List (List ℕ)). said b ys) (sym (append-nil before))
  text_append (x ∷ xs) ys before =
      let next = before ++ (x ∷ []) in
      ap (λ (l : List ℕ). text before x ++ l)
      (text_append xs ys next ∙ ap (λ (b : List (List ℕ)). said next xs ++ said b ys)
      (append_assoc before (x ∷ []) xs))
      ∙ sym (append_assoc (text before x) (said next xs) (said (before ++ (x ∷ xs)) ys))

  module _ (old : List ℕ) (o : Out) (once : RowsOnce text heading log old o) where
    abbrev rows : List ℕ
    rows = said [] (take o.lines log)

    all_there : take o.size o.file ≡ o.file
    all_there = take_all o.size o.file (omega (arith, once.counted))

    cut_once : RowsOnce text heading log old (cut_out text heading log o)
    cut_once = record {
      is = all_there ∙ once.is;
      counted = once.counted ∙ sym (ap length all_there);
    }

    module _ (count : ℕ) where
      abbrev lines : List (List ℕ)
      lines = next_of text heading log o count

      abbrev more : List ℕ
      more = said (take o.lines log) lines

      abbrev new : List ℕ
      new = batch_text text heading log o count

      abbrev next : Out
      next = print_batch text heading log o count

      rows_next : said [] (take next.lines log) ≡ rows ++ more
      rows_next =
          ap (said [])
          (take-add o.lines (length lines) log
          ∙ ap (λ (l : List (List ℕ)). take o.lines log ++ l)
          (ap (λ (k : ℕ). take k (drop o.lines log)) (length-take count (drop o.lines log))
          ∙ take_clamped count (drop o.lines log)))
          ∙ text_append (take o.lines log) lines []

      file_is : next.file ≡ o.file ++ new
      file_is =
          let end : length o.file ≤ o.size + length new = omega (arith, once.counted) in
          let gone : drop (o.size + length new) o.file ≡ [] = drop_of_length-le o.file end in
          ap₂ (λ (a b : List ℕ). a ++ (new ++ b)) all_there gone ∙ ap (λ (l : List ℕ). o.file ++ l) (append-nil new)

      size_is : next.size ≡ length next.file
      size_is = omega (arith, once.counted, length-append o.file new, ap length file_is)

      abbrev top : Out → List ℕ
      top = top_of text heading log old

      new-long : length new ≡ length (cond (eqb o.size 0) heading []) + length more
      new-long = length-append (cond (eqb o.size 0) heading []) more

      -- the first batch writes the heading; one that leaves the file empty has none
      top_first : eqb o.size 0 ≡ true → length old ≡ 0 → heading ≡ top next
      top_first t bare =
          let long : length new ≡ length heading + length more =
          new-long ∙ ap (λ (b : Bool). length (cond b heading []) + length more) t in
          by_test {X = heading ≡ top next} (eqb next.size 0)
          (λ z. rw (eq-eqb (length old) 0 bare, z) (no_bytes heading (omega (arith, long, eqb-true next.size 0 z))))
          (λ f. rw (eq-eqb (length old) 0 bare, f) refl)

      first : eqb o.size 0 ≡ true → RowsOnce text heading log old next
      first t =
          let z = eqb-true o.size 0 t in
          let all : o.file ≡ [] = no_bytes o.file (omega (arith, once.counted)) in
          let none : length old + (length (top o) + length rows) ≡ 0 =
          omega (
            arith,
            ap length once.is,
            ap length all,
            length-append old (top o ++ rows),
            length-append (top o) rows,
          ) in
          let bare : old ≡ [] = no_bytes old (omega arith) in
          let empty : rows ≡ [] = no_bytes rows (omega arith) in
          record {
            is = file_is ∙ ap₂ (λ (a b : List ℕ). a ++ b) (all ∙ sym bare)
                (ap (λ (b : Bool). cond b heading [] ++ more) t)
                ∙ ap₂ (λ (h l : List ℕ). old ++ (h ++ l)) (top_first t (ap length bare))
                (sym (rows_next ∙ ap (λ (l : List ℕ). l ++ more) empty));
            counted = size_is;
          }

      -- a later one finds the file with bytes, before and after
      top_later : eqb o.size 0 ≡ false → top o ≡ top next
      top_later f =
          let some : eqb next.size 0 ≡ false =
          ne_eqb next.size 0 (λ z. eqb-false o.size 0 f (omega (arith, z))) in
          ap (λ (b : Bool). cond (eqb (length old) 0 && not b) heading []) (f ∙ sym some)

      later : eqb o.size 0 ≡ false → RowsOnce text heading log old next
      later f = record {
        is = file_is ∙ ap₂ (λ (a b : List ℕ). a ++ b) once.is (ap (λ (b : Bool). cond b heading [] ++ more) f)
            ∙ append_assoc old (top o ++ rows) more
            ∙ ap (λ (l : List ℕ). old ++ l) (append_assoc (top o) rows more)
            ∙ ap₂ (λ (h l : List ℕ). old ++ (h ++ l)) (top_later f) (sym rows_next);
        counted = size_is;
      }

      print_once : RowsOnce text heading log old next
      print_once = by_test {X = RowsOnce text heading log old next} (eqb o.size 0) first later

    early_once : (file : List ℕ) → o.size ≤ length file → take o.size file ≡ take o.size o.file
        → RowsOnce text heading log old
        (cut_out text heading log (record { lines = o.lines; size = o.size; file = file }))
    early_once file long same = record {
      is = same ∙ all_there ∙ once.is;
      counted = omega (arith, length-take o.size file);
    }

  left_once : (old : List ℕ) (o left : Out) → RowsOnce text heading log old o → OutLeft text heading log o left
      → RowsOnce text heading log old (cut_out text heading log left)
  left_once old o left once (early file long same) = early_once old o once file long same
  left_once old o left once (late count) = cut_once old (print_batch text heading log o count)
      (print_once old o once count)

  run_once : (es : List OutEvent) (old : List ℕ) (o : Out) → RowsOnce text heading log old o
      → IsOutRun text heading log o es
      → RowsOnce text heading log old (out_run text heading log o es)
  run_once [] old o once may = once
  run_once (Print count ∷ es) old o once may = run_once es old (print_batch text heading log o count)
      (print_once old o once count) may.1
  run_once (Stop left ∷ es) old o once may = run_once es old (cut_out text heading log left)
      (left_once old o left once may.0) may.1

-- before the first batch
top_none : (heading old : List ℕ) → cond (eqb (length old) 0 && not (eqb (length old) 0)) heading [] ≡ []
top_none heading old = by_test {X = cond (eqb (length old) 0 && not (eqb (length old) 0)) heading [] ≡ []}
    (eqb (length old) 0) (λ t. rw t refl) (λ f. rw f refl)

pub once_in_file : OnceInFile
unfolding text_behind
once_in_file text heading log old es may =
    run_once text heading log es old (record { lines = 0; size = length old; file = old })
    (record {
      is = sym (ap (λ (l : List ℕ). old ++ (l ++ [])) (top_none heading old) ∙ append-nil old);
      counted = refl;
    })
    may

pub once_in_format : OnceInFormat
once_in_format f setting log old es may = once_in_file (row_after_lines f setting) (heading_in f) log old es may

pub first_line-silent : FirstLineSilent
first_line-silent f setting level l e = rw e refl
