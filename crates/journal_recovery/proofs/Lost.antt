use Rattle.std.specs.Prelude.{Ok, Err}
-- The blocks up to the last counted one, as a start finds them.
--     lost-short, lost-rows, lost-damaged, lost-refused, lost-there      the cases of `lost_at`
--     found_none, found-lost, found-judged                   the cases of `FoundAs`
use Prim.Native.Nat.{ℕ, ◌+◌, ◌-◌, ◌*◌, ◌/◌, ◌%◌, ◌≤◌, ◌<◌}
use native.Mathlib.Nat.{mod-eq_of_lt}
use native.Mathlib.Omega.{arith}
use mathlib.Core.Path.{◌≡◌, sym, ap, ap₂, ◌∙◌}
use mathlib.Core.Bool.{Bool, true, false, not, ◌&&◌, ◌||◌, false≢true}
use mathlib.Core.List.{List}
use lib.Dec.{leb, eqb, ltb}
use lib.ListN.{length}
use borrow.Author.Tests.{not-false, leb-true, eq-eqb, lt-ltb, le-leb, lt-leb}
use Rattle.base_lists.proofs.Choice.{both}
use Rattle.base_buffers.specs.Buffer.{part}
use Rattle.base_refusal.specs.declared.Refusal.{Refusal}
use Rattle.block_layout.specs.Block.{cells_per_block, block_length}
use Rattle.archive_model.specs.Buffer.{blocks_for, max_blocks, max_rows, rows_in}
use Rattle.archive_model.specs.Append.{open_of, verdict, block_at}
use Rattle.archive_file.specs.Archive.{open_result}
use Rattle.archive_file.proofs.Calls.{opened_rows, opened-damaged, opened-refused}
use Rattle.journal_model.specs.Disk.{State, counted, used_blocks, last_used, is_lost, is_other}
use Rattle.journal_calls.specs.declared.Judgement.{Judgement}
use Rattle.journal_calls.specs.declared.Judgement.TheVariants.{Same, Other}
use Rattle.journal_calls.specs.Block.{judgement_of, judgement_number}
use Rattle.journal_calls.specs.Claims.{mended_by, judged}
use Rattle.journal_calls.proofs.Claims.{judged-right}
use Rattle.journal_recovery.specs.Private.{Says, lost_at, FoundAs}
use Rattle.archive_file.specs.declared.ArchiveError.{ArchiveError}

module _ (at : ℕ) (file : List ℕ) where
  abbrev front : List ℕ
  front = part 0 (block_length * at) file

  pub lost_short : length file / block_length ≤ at → true ≡ lost_at at file
  lost_short h =
      let short : length file < block_length * (at + 1) = omega arith in
      rw (lt-leb (block_length * (at + 1)) (length file) short)

  module _ (there : at < length file / block_length) where
    enough : leb (block_length * (at + 1)) (length file) ≡ true
    enough = le-leb (block_length * (at + 1)) (length file) (omega arith)

    pub lost_rows : (n : ℕ) → open_result (Ok n) ≡ open_of front
        → not (eqb n (cells_per_block * at)) ≡ lost_at at file
    lost_rows n e =
        let o = opened_rows front n e in
        ap (λ (k : ℕ). not (eqb k (cells_per_block * at))) o.1 ∙ rw (enough, eq-eqb (verdict front).number 0 o.0)

    pub lost_damaged : (k : ℕ) → open_result (Err (ArchiveError.Damaged k)) ≡ open_of front → true ≡ lost_at at file
    lost_damaged k e = rw (enough, (opened-damaged front k e).2)

    pub lost_refused : (why : Refusal) → open_result (Err (ArchiveError.Refused why)) ≡ open_of front
        → true ≡ lost_at at file
    lost_refused why e = rw (enough, (opened-refused front why e).2)

  -- it is there
  pub lost_there : lost_at at file ≡ false → at < length file / block_length
  lost_there f =
      let t = not-false _ f in
      let h = leb-true (block_length * (at + 1)) (length file)
      (both (leb (block_length * (at + 1)) (length file)) _ t).0 in
      omega (arith, h)

-- ---- what is found

module _ (n : ℕ) (copy file : List ℕ) (s : State) (says : Says n copy s) where
  abbrev last : ℕ
  last = blocks_for n - 1

  pub found_none : n ≡ 0 → FoundAs s file Same
  found_none z =
      let none = says.count ∙ z in
      record {
        foreign = sym (ap (λ (k : ℕ). ltb 0 k && (is_lost s file || is_other s file)) none);
        mends = λ f h. absurd (omega (arith, h, none));
      }

  module _ (some : n ≡ 0 → ⊥) (few : n ≤ max_rows) where
    positive : 0 < counted s
    positive = omega (arith, says.count, some)

    abbrev lost_by : ℕ → ℕ → ℕ → Bool
    lost_by a k u =
        not (leb (block_length * u) (length file) && (eqb (verdict (part a (block_length * k) file)).number 0
        && eqb (length (rows_in (part a (block_length * k) file))) (cells_per_block * k)))

    lost_is : is_lost s file ≡ lost_at last file
    lost_is =
        let low : last < max_blocks = omega (arith, few) in
        let at : last_used s ≡ last = ap (λ (k : ℕ). blocks_for k - 1) says.count in
        let place : last_used s % s.limit ≡ last = ap₂ (λ (k l : ℕ). k % l) at says.limited ∙ mod-eq_of_lt low in
        let from : block_length * (last_used s - last_used s % s.limit) ≡ 0 = omega (arith, at, place) in
        let used : used_blocks s ≡ last + 1 = ap blocks_for says.count ∙ omega (arith, some) in
        λ i. lost_by (from i) (place i) (used i)

    pub found_lost : lost_at last file ≡ true → FoundAs s file Other
    found_lost t = record {
      foreign = sym (ap₂ (λ (a b : Bool). a && (b || is_other s file)) (lt-ltb 0 (counted s) positive) (lost_is ∙ t));
      mends = λ f h. absurd (false≢true (sym f));
    }

    module _ (there : lost_at last file ≡ false) (j : Judgement)
        (is : j ≡ judgement_of copy (n - cells_per_block * last) (block_at last file)) where
      same : j ≡ judged s file
      same =
          is ∙ ap₂ (λ (c : List ℕ) (k : ℕ). judgement_of c (k - cells_per_block * (blocks_for k - 1))
          (block_at (blocks_for k - 1) file))
          (sym says.last) (sym says.count)

      other : eqb (judgement_number j) 3 ≡ is_other s file
      other = ap (λ (k : Judgement). eqb (judgement_number k) 3) same ∙ (judged-right s file).0

      pub found-judged : FoundAs s file j
      found-judged = record {
        foreign = other ∙ sym (ap₂ (λ (a b : Bool). a && (b || is_other s file)) (lt-ltb 0 (counted s) positive)
            (lost_is ∙ there));
        mends = λ f h. ap (λ (k : Judgement). mended_by k s.last (block_at (last_used s) file)) same
            ∙ (judged-right s file).1 (sym other ∙ f);
      }
