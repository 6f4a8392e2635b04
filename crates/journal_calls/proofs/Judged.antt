use Rattle.std.specs.Prelude.{Result, Ok, Err, ⊤, is_ok}
-- The block with the last row that a state counts.
--     copy_is, copy-size, copy_told                                       a block that is cut to its first rows, and
-- compared
--     same, longer, other-sound, other-blank, torn               the cases of `judgement_of`, each from the facts that
-- its tests give
use Prim.Native.Nat.{ℕ}
use native.Mathlib.Omega.{arith}
use mathlib.Core.Path.{◌≡◌, refl, ap, ◌∙◌}
use mathlib.Core.Bool.{Bool, true, false, ◌&&◌}
use mathlib.Core.List.{List}
use lib.Dec.{eqb}
use lib.ListN.{length}
use borrow.Author.Tests.{ne_eqb}
use Rattle.base_lists.specs.Lists.{equal}
use Rattle.base_lists.proofs.Tests.{by_test}
use Rattle.base_refusal.specs.Number.{number_of}
use Rattle.base_refusal.proofs.Numbers.{refused-number}
use Rattle.base_refusal.specs.declared.Refusal.TheVariants.{Size}
use Rattle.block_layout.specs.Block.{block_length}
use Rattle.archive_model.specs.Row.{row_count, is_sound, is_blank}
use Rattle.archive_model.proofs.Exact.{tests}
use Rattle.archive_file.specs.Archive.{sound_count}
use Rattle.archive_cut.specs.Cut.{CutBlock, cut_block_of}
use Rattle.archive_cut.specs.Calls.{cut_block_result}
use Rattle.archive_cut.proofs.Blocks.{block_size}
use Rattle.journal_calls.specs.declared.Judgement.TheVariants.{Same, Longer, Torn, Other}
use Rattle.journal_calls.specs.Block.{is_cut_copy_of, judgement_of}
use Rattle.base_refusal.specs.declared.Refusal.{Refusal}

-- what a cut block says of a copy
abbrev pub says : List ℕ → CutBlock → Bool
says last cut = eqb cut.number 0 && equal cut.block last

-- a block that could not be cut is no copy
pub says_cut : (last : List ℕ) (r : Result ⊤ Refusal) (after : List ℕ)
    → is_ok r && equal after last ≡ says last (cut_block_result r after)
says_cut last (Ok tt) after = refl
says_cut last (Err why) after = rw (ne_eqb (number_of why) 0 (refused-number why))

pub sound_none : (b : List ℕ) → sound_count b ≡ 0 → is_sound b ≡ false
sound_none b e =
    by_test {X = is_sound b ≡ false} (is_sound b) (λ t. absurd (let z : row_count b ≡ 0 = rw t at e in omega
    (arith, (tests b t).0))) (λ f. f)

pub sound_some : (b : List ℕ) → (sound_count b ≡ 0 → ⊥) → is_sound b ≡ true
sound_some b n = by_test {X = is_sound b ≡ true} (is_sound b) (λ t. t) (λ f. absurd (n (rw f refl)))

module _ (last : List ℕ) (m : ℕ) (block : List ℕ) where
  pub copy_is : (cut : CutBlock) → cut ≡ cut_block_of m block → says last cut ≡ is_cut_copy_of last m block
  unfolding is_cut_copy_of
  copy_is cut e = ap (says last) e

  pub copy-size : (length block ≡ block_length → ⊥) → false ≡ is_cut_copy_of last m block
  copy-size h = copy_is (record { number = number_of Size; block = block }) (block_size m block h)

  pub copy_told : (r : (Result ⊤ Refusal)) (cut after : List ℕ) → cut ≡ block
      → cut_block_result r after ≡ cut_block_of m cut
      → says last (cut_block_result r after) ≡ is_cut_copy_of last m block
  copy_told r cut after e h = copy_is (cut_block_result r after) (h ∙ ap (cut_block_of m) e)

  module _ (copy : is_cut_copy_of last m block ≡ true) where
    pub same : equal block last ≡ true → Same ≡ judgement_of last m block
    unfolding judgement_of
    same h = rw (copy, h)

    pub longer : equal block last ≡ false → Longer ≡ judgement_of last m block
    unfolding judgement_of
    longer h = rw (copy, h)

  module _ (none : is_cut_copy_of last m block ≡ false) where
    pub other_sound : (sound_count block ≡ 0 → ⊥) → Other ≡ judgement_of last m block
    unfolding judgement_of
    other_sound h = rw (none, sound_some block h)

    pub other_blank : sound_count block ≡ 0 → is_blank block ≡ true → Other ≡ judgement_of last m block
    unfolding judgement_of
    other_blank e h = rw (none, sound_none block e, h)

    pub torn : sound_count block ≡ 0 → is_blank block ≡ false → Torn ≡ judgement_of last m block
    unfolding judgement_of
    torn e h = rw (none, sound_none block e, h)
