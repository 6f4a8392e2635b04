-- `journal_recovery::mend` meets its contract: a block that is not torn stays as it is.
use mathlib.Core.Path.{◌≡◌, refl, sym, ap, ◌∙◌}
use mathlib.Core.List.{List}
use Prim.Native.Nat.{ℕ}
use Rattle.archive_model.specs.Append.{block_at}
use Rattle.archive_fill.specs.Claims.{with_block}
use Rattle.journal_calls.specs.declared.Judgement.{Judgement}
use Rattle.journal_calls.specs.declared.Judgement.TheVariants.{Same, Longer, Torn, Other}
use Rattle.journal_calls.specs.Claims.{mended_by}
use Rattle.journal_recovery.proofs.Settled.{same_block}
use Rattle.journal_recovery.proofs.mend.Goals as goal

whole : (j : Judgement) (last block : List ℕ) → (j ≡ Torn → ⊥) → mended_by j last block ≡ block
whole Same last block h = refl
whole Longer last block h = refl
whole Torn last block h = absurd (h refl)
whole Other last block h = refl

pub returns-in_default : goal.returns-in_default
returns-in_default c =
    let a = c.args in
    let file = a.file.now in
    sym (ap (λ (b : List ℕ). with_block a.at b file)
    (whole a.found a.last.now (block_at a.at file) c.in_default.not-Torn)
    ∙ same_block a.at file)
