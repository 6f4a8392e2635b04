-- `journal_calls::block::is_copy` meets its contract: a copy of the block is cut and compared.
use mathlib.Core.Path.{◌≡◌, sym, ap, ◌∙◌}
use mathlib.Core.List.{List}
use Prim.Native.Nat.{ℕ}
use mathlib.Core.Bool.{Bool, true, false, ◌&&◌}
use Rattle.std.specs.Prelude.{Result, ⊤, is_ok}
use Rattle.base_lists.specs.Lists.{equal}
use Rattle.base_refusal.specs.declared.Refusal.{Refusal}
use Rattle.archive_cut.specs.Cut.{cut_block_of}
use Rattle.archive_cut.specs.Calls.{cut_block_result}
use Rattle.journal_calls.specs.Block.{is_cut_copy_of}
use Rattle.journal_calls.proofs.Judged.{says_cut, copy-size, copy_told}
use Rattle.journal_calls.proofs.block.is_copy.Goals as goal

pub returns-then-block-ne-BLOCK_LENGTH : goal.returns-then-block-ne-BLOCK_LENGTH
returns-then-block-ne-BLOCK_LENGTH c = let a = c.args in copy-size a.last.now a.rows a.block.now
    c.if-block-ne-BLOCK_LENGTH.true

-- the copy that is cut tells it
copied : (last : List ℕ) (rows : ℕ) (block cut after : List ℕ) (r : Result ⊤ Refusal)
    → cut ≡ block → cut_block_result r after ≡ cut_block_of rows cut
    → is_ok r && equal after last ≡ is_cut_copy_of last rows block
copied last rows block cut after r e h = says_cut last r after ∙ copy_told last rows block r cut after e h

pub returns-then-is_ok : goal.returns-then-is_ok
returns-then-is_ok c =
    let a = c.args in
    let e : is_ok c.cut_block.result ≡ true = sym c.is_ok.ensures.value ∙ c.if-is_ok.true in
    c.equal.ensures ∙ sym (ap (λ (b : Bool). b && equal c.cut_block.new.block a.last.now) e)
    ∙ copied a.last.now a.rows a.block.now _ c.cut_block.new.block c.cut_block.result c.copy_from_slice.ensures.after
    c.cut_block.ensures

pub returns-else-is_ok : goal.returns-else-is_ok
returns-else-is_ok c =
    let a = c.args in
    let e : is_ok c.cut_block.result ≡ false = sym c.is_ok.ensures.value ∙ c.if-is_ok.false in
    c.if-is_ok.false ∙ sym (ap (λ (b : Bool). b && equal c.cut_block.new.block a.last.now) e)
    ∙ copied a.last.now a.rows a.block.now _ c.cut_block.new.block c.cut_block.result c.copy_from_slice.ensures.after
    c.cut_block.ensures
