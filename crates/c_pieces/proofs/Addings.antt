-- An archive that is added in pieces, in lent arrays.
--     feed-report     a piece leaves the report as it is
--     feed-kept       beside a refusal all is as it was
use Prim.Native.Nat.{ℕ}
use mathlib.Core.Path.{◌≡◌, refl}
use mathlib.Core.Bool.{Bool, true, false, cond, not}
use mathlib.Core.List.{List}
use Rattle.base_refusal.specs.Number.{number_of}
use Rattle.base_refusal.specs.declared.Refusal.TheVariants.{NotAccepted, Size}
use Rattle.base_lists.proofs.Tests.{by_test}
use Rattle.archive_model.specs.Buffer.{blocks_in}
use Rattle.archive_report_model.specs.Pieces.{Adding, adding, add_blocks, is_adding, is_piece, piece_answer, add_piece_of}

pub feed-report : (a : Adding) (piece : List ℕ) → (add_piece_of a piece).next.report ≡ a.report
unfolding add_piece_of
feed-report a piece = go (not (is_adding a)) (not (is_piece a.tally.scan piece))
  where
    go : (x y : Bool)
        → (cond x (piece_answer (number_of NotAccepted) a)
        (cond y (piece_answer (number_of Size) a)
        (piece_answer 0 (adding a.report (add_blocks a.tally (blocks_in piece)))))
        ).next.report
        ≡ a.report
    go true y = refl
    go false true = refl
    go false false = refl

pub feed-kept : (a : Adding) (piece : List ℕ) → ((add_piece_of a piece).number ≡ 0 → ⊥)
    → (add_piece_of a piece).next ≡ a
unfolding add_piece_of
feed-kept a piece n =
    by_test {X = (add_piece_of a piece).next ≡ a} (is_adding a)
    (λ g. by_test {X = (add_piece_of a piece).next ≡ a} (is_piece a.tally.scan piece)
    (λ p. absurd (n (rw (g, p)))) (λ p. rw (g, p)))
    (λ g. rw g)
