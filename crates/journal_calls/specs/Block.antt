-- The judgement on the block with the last row that a state counts.
use Rattle.std.specs.Prelude.{ℕ, Bool, cond, ◌&&◌, ◌||◌, List, eqb}
use Rattle.base_lists.specs.Lists.{equal}
use Rattle.archive_model.specs.Row.{is_sound, is_blank}
use Rattle.archive_cut.specs.Cut.{cut_block_of}
use Rattle.journal_calls.specs.declared.Judgement.{Judgement}
use Rattle.journal_calls.specs.declared.Judgement.TheVariants.{Same, Longer, Torn, Other}

-- the block, cut to the rows that are counted, is the state's copy
unfoldable pub is_cut_copy_of : List ℕ → ℕ → List ℕ → Bool
is_cut_copy_of last rows block = let cut = cut_block_of rows block in eqb cut.number 0 && equal cut.block last

-- Same: the block is the copy. Longer: it is the copy with more rows after it. Any other block is of another archive if
-- it is sound or all zero, and torn if not.
unfoldable pub judgement_of : List ℕ → ℕ → List ℕ → Judgement
judgement_of last rows block =
    cond (is_cut_copy_of last rows block) (cond (equal block last) Same Longer)
    (cond (is_sound block || is_blank block) Other Torn)

abbrev pub judgement_number : Judgement → ℕ
judgement_number Same = 0
judgement_number Longer = 1
judgement_number Torn = 2
judgement_number Other = 3
