-- No text is longer than specs/Longest says.
use mathlib.Core.Bool.{Bool, true, false, cond}
use mathlib.Core.List.{List, [], ◌∷◌, ◌++◌}
use Prim.Native.Nat.{ℕ, zero, suc, ◌+◌, ◌/◌, ◌%◌, ◌≤◌}
use native.Mathlib.Omega.{arith}
use lib.Dec.{ltb}
use lib.ListN.{length, length-append}
use Rattle.text_rows.specs.declared.Row.{Row}
use Rattle.text_rows.specs.Text.{digits_of, answer_text, row_behind}
use Rattle.text_rows.specs.Longest.{longest_answer, longest_row}
use Rattle.text_rows.proofs.Words.{hex-length}

pub digits-short : (k n : ℕ) → length (digits_of k n) ≤ k
unfolding digits_of
digits-short zero n = omega arith
digits-short (suc k) n = go (ltb n 10) (digits-short k (n / 10))
  where
    go : (t : Bool) → length (digits_of k (n / 10)) ≤ k
        → length (cond t ((48 + n) ∷ []) (digits_of k (n / 10) ++ ((48 + n % 10) ∷ []))) ≤ suc k
    go true h = omega arith
    go false h = simp length-append (omega arith)

answer-short : (row : Row) (sent : List ℕ) → length (answer_text row sent) ≤ longest_answer (length sent)
unfolding answer_text
answer-short Row.Kept [] = omega arith
answer-short Row.Kept (b ∷ bs) = omega (arith, hex-length (b ∷ bs))
answer-short Row.Copy sent = omega arith
answer-short Row.Loose sent = omega arith
answer-short (Row.Refused n) sent = omega (arith, digits-short 20 n)

pub row-short : (time : List ℕ) (row : Row) (sent : List ℕ)
    → length (row_behind time row sent) ≤ longest_row (length time) (length sent)
unfolding row_behind
row-short time row sent = simp length-append (omega (arith, answer-short row sent))
