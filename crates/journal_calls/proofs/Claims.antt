-- The claims of specs/Claims.
use Prim.Native.Nat.{ℕ, suc, ◌+◌, ◌-◌, ◌*◌, ◌%◌}
use native.Mathlib.Nat.{suc-mod, zero-add}
use native.Mathlib.Numerals.{add-one}
use native.Mathlib.Omega.{arith}
use mathlib.Core.Path.{◌≡◌, refl, sym, ap, ◌∙◌}
use mathlib.Core.Bool.{Bool, true, false, cond, not, ◌&&◌, false≢true}
use mathlib.Core.List.{List, [], ◌∷◌}
use lib.Dec.{eqb}
use lib.ListN.{length, length-append}
use borrow.Author.Tests.{eqb-true, ltb-false, eq-eqb}
use Rattle.base_lists.specs.Lists.{equal}
use Rattle.base_lists.proofs.Choice.{both}
use Rattle.base_lists.proofs.Tests.{by_test}
use Rattle.base_refusal.specs.Number.{number_of}
use Rattle.base_refusal.specs.declared.Refusal.TheVariants.{Mismatch}
use Rattle.block_layout.specs.Block.{cells_per_block, block_length}
use Rattle.archive_model.specs.Row.{rows_of, row_count, block_number, is_sound, is_blank}
use Rattle.archive_model.specs.Buffer.{blocks_for, is_short}
use Rattle.archive_model.specs.Append.{block_at}
use Rattle.archive_model.proofs.Exact.{tests}
use Rattle.archive_model.proofs.Pieces.{rows-count}
use Rattle.archive_file.specs.Archive.{sound_count}
use Rattle.archive_cut.proofs.Blocks.{block_unsound}
use Rattle.journal_model.specs.Disk.{State, counted, last_used, is_other, mended, run_from}
use Rattle.journal_calls.specs.Block.{is_cut_copy_of, judgement_of, judgement_number}
use Rattle.journal_calls.specs.Run.{Run, start_run, stopped, passed, run_block, run_blocks}
use Rattle.journal_calls.specs.Claims.{mended_by, judged, Judged, RunCounts, RunJoins, RunBack}
use Rattle.journal_calls.proofs.Judged.{copy_is, copy-size}
use Rattle.journal_calls.proofs.Runs.{block-ended}

-- ---- a block

-- what is a copy is sound
copy_sound : (last : List ℕ) (m : ℕ) (b : List ℕ) → is_cut_copy_of last m b ≡ true → is_sound b ≡ true
copy_sound last m b h =
    by_test {X = is_sound b ≡ true} (is_sound b) (λ t. t)
    (λ f.
    let none : sound_count b ≡ 0 = rw f in
    by_test {X = is_sound b ≡ true} (eqb (length b) block_length)
    (λ l. absurd (false≢true (copy_is last m b (record { number = number_of Mismatch; block = b }) (block_unsound m b
    (eqb-true (length b) block_length l) none) ∙ h)))
    (λ l. absurd (false≢true (copy-size last m b (λ z. false≢true (sym l ∙ eq-eqb (length b) block_length z)) ∙ h))))

module _ (s : State) (file : List ℕ) where
  abbrev b : List ℕ
  b = block_at (last_used s) file

  abbrev copied : Bool
  copied = is_cut_copy_of s.last (counted s - cells_per_block * last_used s) b

  abbrev Right : Type 0
  Right = (eqb (judgement_number (judged s file)) 3 ≡ is_other s file) × (is_other s file ≡ false → mended_by
      (judged s file) s.last b ≡ mended s file)

  right-copy : copied ≡ true → Right
  unfolding judgement_of is_cut_copy_of
  right-copy h =
      let t = copy_sound s.last (counted s - cells_per_block * last_used s) b h in
      by_test {X = Right} (equal b s.last) (λ e. (rw (h, e), λ z. rw (h, e, t))) (λ e. (
        rw (h, e),
        λ z. rw
            (h, e, t),
      ))

  right-other : copied ≡ false → Right
  unfolding judgement_of is_cut_copy_of
  right-other h =
      by_test {X = Right} (is_sound b) (λ t. (rw (h, t), λ z. absurd (false≢true (sym (rw (h, t) at z)))))
      (λ f.
      by_test {X = Right} (is_blank b) (λ t. (rw (h, f, t), λ z. absurd (false≢true (sym (rw (h, f, t) at z))))) (λ e.
      (rw (h, f, e), λ z. rw (h, f, e))))

pub judged-right : Judged
judged-right s file = by_test (copied s file) (right-copy s file) (right-other s file)

-- ---- a run

ended-stays : (bs : List (List ℕ)) (r : Run) → r.ended ≡ true → run_blocks r bs ≡ r
unfolding run_blocks
ended-stays [] r h = refl
ended-stays (b ∷ bs) r h = ap (λ (q : Run). run_blocks q bs) (sym (block-ended r b h)) ∙ ended-stays bs r h

module _ (limit : ℕ) where
  -- what a run counts of the blocks from block k on
  record Counting (k : ℕ) (bs : List (List ℕ)) (r : Run) : Type 0 where
    rows : (run_blocks r bs).rows ≡ r.rows + length (run_from limit k bs)
    blocks : (run_blocks r bs).blocks ≡ r.blocks + blocks_for (length (run_from limit k bs))

  module _ (b : List ℕ) (bs : List (List ℕ)) (k : ℕ) (r : Run) (p : r.place ≡ k % limit) (e : r.ended ≡ false) where
    abbrev belongs : Bool
    belongs = is_sound b && eqb (block_number b) (k % limit)

    abbrev Counted : Type 0
    Counted = Counting k (b ∷ bs) r

    more : belongs ≡ true → run_blocks r (b ∷ bs) ≡ run_blocks (passed r b) bs
    unfolding run_blocks run_block
    more t = rw (e, p, t)

    found : belongs ≡ true → length (run_from limit k (b ∷ bs)) ≡ row_count b + length (cond (is_short b) []
        (run_from limit (suc k) bs))
    unfolding run_from
    found t = rw t (length-append (rows_of b) _ ∙ ap (λ (n : ℕ). n + length (cond (is_short b) [] (run_from limit
        (suc k) bs))) (rows-count b))

    stop : belongs ≡ false → run_block r b ≡ stopped r
    unfolding run_block
    stop f =
        let other : is_sound b && eqb (block_number b) r.place ≡ false = rw p f in
        rw (e, other)

    count_none : belongs ≡ false → Counted
    unfolding run_blocks run_from
    count_none f =
        let w : run_blocks r (b ∷ bs) ≡ stopped r = ap (λ (q : Run). run_blocks q bs) (stop f) ∙ ended-stays bs
        (stopped r) refl in
        let n : length (run_from limit k (b ∷ bs)) ≡ 0 = rw f in
        record {
          rows = ap (λ (q : Run). q.rows) w ∙ omega arith;
          blocks = ap (λ (q : Run). q.blocks) w ∙ omega arith;
        }

    count_last : belongs ≡ true → is_short b ≡ true → Counted
    count_last t s =
        let few = tests b (both (is_sound b) _ t).0 in
        let w : run_blocks r (b ∷ bs) ≡ passed r b = more t ∙ ended-stays bs (passed r b) s in
        let n : length (run_from limit k (b ∷ bs)) ≡ row_count b = found t ∙ rw s (omega arith) in
        record {
          rows = ap (λ (q : Run). q.rows) w ∙ omega arith;
          blocks = ap (λ (q : Run). q.blocks) w ∙ omega (arith, few.0, few.1);
        }

    count_on : belongs ≡ true → is_short b ≡ false → Counting (suc k) bs (passed r b) → Counted
    count_on t s c =
        let few = tests b (both (is_sound b) _ t).0 in
        let full = ltb-false (row_count b) cells_per_block s in
        let n : length (run_from limit k (b ∷ bs))
        ≡ row_count b + length (run_from limit (suc k) bs) = found t ∙ rw s in
        record {
          rows = ap (λ (q : Run). q.rows) (more t) ∙ c.rows ∙ omega arith;
          blocks = ap (λ (q : Run). q.blocks) (more t) ∙ c.blocks ∙ omega (arith, few.1);
        }

  counting : (bs : List (List ℕ)) (k : ℕ) (r : Run) → r.limit ≡ limit → r.place ≡ k % limit → r.ended ≡ false
      → Counting k bs r
  unfolding run_blocks run_from
  counting [] k r l p e = record { rows = omega arith; blocks = omega arith }
  counting (b ∷ bs) k r l p e =
      by_test {X = Counting k (b ∷ bs) r} (belongs b bs k r p e)
      (λ t.
      by_test {X = Counting k (b ∷ bs) r} (is_short b) (count_last b bs k r p e t)
      (λ s.
      let next : (r.place + 1) % r.limit ≡ suc k % limit = rw (l, p, add-one) (sym (suc-mod k limit)) in
      count_on b bs k r p e t s (counting bs (suc k) (passed r b) l next s)))
      (count_none b bs k r p e)

pub run-counts : RunCounts
run-counts limit k bs =
    let c = counting limit bs k (start_run limit k) refl refl refl in
    (c.rows ∙ zero-add _, c.blocks ∙ zero-add _)

pub run_joins : RunJoins
unfolding run_blocks
run_joins r [] ys = refl
run_joins r (x ∷ xs) ys = run_joins (run_block r x) xs ys

bit_back : (b : Bool) → not (eqb (cond b 1 0) 0) ≡ b
bit_back true = refl
bit_back false = refl

pub run-back : RunBack
run-back r = λ j. record {
  limit = r.limit;
  place = r.place;
  blocks = r.blocks;
  rows = r.rows;
  ended = bit_back
      r.ended j;
}
