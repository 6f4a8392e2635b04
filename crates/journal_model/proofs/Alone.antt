-- The rows that lines give, handed over by themselves after the same lines, are given again: `history_rows` says it of receptions, and the line of a row
-- says the row's reception.
use Prim.Native.Nat.{ℕ, zero, suc, ◌+◌, ◌*◌, ◌%◌, ◌<◌, ◌^◌}
use native.Mathlib.Omega.{arith}
use mathlib.Core.Path.{◌≡◌, refl, sym, ap, ap₂, ◌∙◌}
use mathlib.Core.Bool.{true, false, ◌&&◌}
use mathlib.Core.List.{List, [], ◌∷◌, ◌++◌, map}
use lib.Dec.{ltb, leb, eqb}
use lib.ListN.{length, take}
use borrow.Author.Tests.{ltb-true, lt-ltb}
use Rattle.base_lists.specs.Lists.{all}
use Rattle.base_lists.proofs.Choice.{both}
use Rattle.base_lists.proofs.Tests.{and-true}
use Rattle.collector_model.specs.Answer.{Shown, Kept, Copy, Loose, Refused}
use Rattle.collector_model.specs.View.{Reception}
use Rattle.collector_model.specs.Reference.{answer_to, log_of}
use Rattle.history_rows.specs.Rows.{is_row_answer}
use Rattle.history_rows.proofs.Thinned.{Thinned, thinned_same, thinned_answer, thinned_row, thinned_other}
use Rattle.text_lines.specs.Hex.{max_bytes, nibble_of, is_hex_digit, is_hex, hex_bytes}
use Rattle.text_lines.specs.Reading.{Reading, reception, bad, line_reading}
use Rattle.text_lines.proofs.Whole.{said}
use Rattle.base_numbers.specs.Bytes.{are_bytes}
use Rattle.text_rows.proofs.ReadBack.{lines-back}
use Rattle.archive_model.specs.Row.{Row}
use Rattle.archive_model.specs.Row as row
use Rattle.archive_model.specs.Claims.{is_fit}
use Rattle.archive_model.proofs.Blocks.{short}
use Rattle.text_collect.specs.Printed.{reception_at, past_after_line, past_after_lines}
use Rattle.journal_model.specs.Rows.{row_for, rows_by, model_rows}
use Rattle.journal_model.specs.Disk.{row_line}
use Rattle.journal_model.specs.Claims.{HandedOver, LinesRowsAlone}
use Rattle.journal_model.proofs.Rows.{said-small, answer-valid}

-- ---- a line says bytes

pairs_bytes : (s : List ℕ) → all is_hex_digit s ≡ true → are_bytes (hex_bytes s) ≡ true
unfolding hex_bytes
pairs_bytes [] e = refl
pairs_bytes (a ∷ []) e = refl
pairs_bytes (a ∷ b ∷ s) e =
    let high = both (is_hex_digit a) (all is_hex_digit (b ∷ s)) e in
    let low = both (is_hex_digit b) (all is_hex_digit s) high.1 in
    let h : nibble_of a < 16 = ltb-true (nibble_of a) 16 high.0 in
    let l : nibble_of b < 16 = ltb-true (nibble_of b) 16 low.0 in
    and-true (lt-ltb (nibble_of a * 16 + nibble_of b) 256 (omega (arith, h, l))) (pairs_bytes s low.1)

said-bytes : (l : List ℕ) {t : ℕ} {bs : List ℕ} → line_reading l ≡ reception t bs → are_bytes bs ≡ true
unfolding is_hex
said-bytes l e =
    let w = said l e in
    let d =
    both (leb (length w.hex) (2 * max_bytes) && eqb (length w.hex % 2) 0)
    (all is_hex_digit w.hex) w.is_right in
    rw w.says_bytes at (pairs_bytes w.hex d.1)

-- ---- the line of a row says its reception

pub handed_over : HandedOver
handed_over r fit bytes =
    let t = both (row.is_row r) (ltb r.time (2 ^ 64)) fit in
    let small = ltb-true r.time (2 ^ 64) t.1 in
    lines-back r.time r.bytes small bytes (omega (arith, short {r = r} (record { valid = t.0; time = small })))

-- ---- lines of rows, after the whole past and after one without what gave no row

-- a row whose line says a reception that gives it is given again
row_again : (q : List Reception) (r : Reception) (row : Row) (rest back : List Row)
    → line_reading (row_line row) ≡ reception r.time r.bytes
    → row_for (answer_to (log_of q) r) r ≡ row ∷ [] → model_rows (r ∷ q) (map row_line rest) ≡ back
    → model_rows q (map row_line (row ∷ rest)) ≡ row ∷ back
unfolding model_rows
row_again q r row rest back says given more = rw (says, given, more) refl

abbrev Again : List (List ℕ) → Type 0
Again lines =
    (p q : List Reception) (k : ℕ) → Thinned (log_of p) (log_of q)
    → model_rows q (map row_line (take k (model_rows p lines))) ≡ take k (model_rows p lines)

-- a line that says a reception, before others: by its answer
module _ (l : List ℕ) (ls : List (List ℕ)) (ih : Again ls) (p q : List Reception) (h : Thinned (log_of p) (log_of q))
    (t : ℕ) (bs : List ℕ) (e : line_reading l ≡ reception t bs) where
  abbrev r : Reception
  r = reception_at t bs

  abbrev rest : List Row
  rest = model_rows (r ∷ p) ls

  abbrev RowOf : Shown → Row → Type 0
  RowOf a row = (row_for a r ≡ row ∷ []) × (row.time ≡ t) × (row.bytes ≡ bs) × (is_row_answer a ≡ true)

  given : (a : Shown) → answer_to (log_of p) r ≡ a → (row : Row) → RowOf a row → (k : ℕ)
      → model_rows q (map row_line (take (suc k) (row ∷ rest))) ≡ take (suc k) (row ∷ rest)
  given a is row (row_is, is_time_lem, is-bytes, counts) k =
      let same : answer_to (log_of p) r ≡ answer_to (log_of q) r =
      thinned_answer (log_of p) (log_of q) h r (ap is_row_answer is ∙ counts) in
      let fit : all is_fit (row ∷ []) ≡ true =
      ap (all is_fit) (sym row_is ∙ ap (λ (s : Shown). row_for s r) (sym is))
      ∙ answer-valid (log_of p) r (said-small l e) in
      let ok : is_fit row ≡ true = (both (is_fit row) true fit).0 in
      let says : line_reading (row_line row) ≡ reception t bs
      = handed_over row ok (ap are_bytes is-bytes ∙ said-bytes l e) ∙ ap₂ reception is_time_lem is-bytes in
      row_again q r row (take k rest) (take k rest) says (ap (λ (s : Shown). row_for s r) (sym same ∙ is) ∙ row_is)
      (ih (r ∷ p) (r ∷ q) k (thinned_row (log_of p) (log_of q) h r (ap is_row_answer is ∙ counts)))

  other : (a : Shown) → answer_to (log_of p) r ≡ a → is_row_answer a ≡ false → (k : ℕ)
      → model_rows q (map row_line (take k rest)) ≡ take k rest
  other a is none k = ih (r ∷ p) q k
      (thinned_other (log_of p) (log_of q) h r (answer_to (log_of p) r) (ap is_row_answer is ∙ none))

  by_answer : (a : Shown) → answer_to (log_of p) r ≡ a → (k : ℕ)
      → model_rows q (map row_line (take k (row_for a r ++ rest))) ≡ take k (row_for a r ++ rest)
  unfolding model_rows
  by_answer Kept is zero = refl
  by_answer Kept is (suc k) = given Kept is (record { bytes = bs; time = t; loose = false }) (refl, refl, refl, refl) k
  by_answer Loose is zero = refl
  by_answer Loose is (suc k) = given Loose is (record { bytes = bs; time = t; loose = true }) (refl, refl, refl, refl) k
  by_answer Copy is k = other Copy is refl k
  by_answer (Refused n) is k = other (Refused n) is refl k

by_line : (l : List ℕ) (ls : List (List ℕ)) → Again ls
    → (p q : List Reception) (k : ℕ) → Thinned (log_of p) (log_of q) → (a : Reading) → line_reading l ≡ a
    → model_rows q (map row_line (take k (rows_by p a ++ model_rows (past_after_line p a) ls)))
    ≡ take k (rows_by p a ++ model_rows (past_after_line p a) ls)
by_line l ls ih p q k h bad e = ih p q k h
by_line l ls ih p q k h (reception t bs) e =
    by_answer l ls ih p q h t bs e (answer_to (log_of p) (reception_at t bs)) refl k

again : (lines : List (List ℕ)) → Again lines
unfolding model_rows
again [] p q zero h = refl
again [] p q (suc k) h = refl
again (l ∷ ls) p q k h = by_line l ls (again ls) p q k h (line_reading l) refl

pub rows-alone : LinesRowsAlone
rows-alone log lines k =
    let past = past_after_lines [] log in
    again lines past past k (thinned_same (log_of past))
