-- `archive_cut::cut_block` meets its contract: each return is one case of `cut_block_of`.
use mathlib.Core.Path.{◌≡◌, sym, ap, ◌∙◌}
use mathlib.Core.Bool.{true}
use mathlib.Core.List.{List}
use Prim.Native.Nat.{ℕ, ◌≤◌}
use native.Mathlib.Omega.{arith}
use Rattle.archive_model.specs.Row.{row_count, is_sound}
use Rattle.archive_cut.proofs.Blocks.{block_size, block_unsound, block_few, block_has, block-done}
use Rattle.archive_cut.proofs.cut_block.Lts as lts
use Rattle.archive_cut.proofs.cut_block.Reads as reads
use Rattle.archive_cut.proofs.cut_block.Tie as tie
use Rattle.archive_cut.proofs.cut_block.Goals as goal

-- states on the way
abbrev Else-used-rows : Type 0
Else-used-rows = lts.Else3 tie.the-claims reads.Pre reads.Post

pub returns-then-block-ne-BLOCK_LENGTH : goal.returns-then-block-ne-BLOCK_LENGTH
returns-then-block-ne-BLOCK_LENGTH c =
    let a = c.args in
    block_size a.rows a.block.now c.if-block-ne-BLOCK_LENGTH.true

pub returns-then-used-eq0 : goal.returns-then-used-eq0
returns-then-used-eq0 c =
    let a = c.args in
    block_unsound a.rows a.block.now c.if-block-ne-BLOCK_LENGTH.false (sym c.sound-used.ensures ∙ c.if-used-eq0.true)

pub returns-then-used-rows : goal.returns-then-used-rows
returns-then-used-rows c =
    let a = c.args in
    block_few a.rows a.block.now c.if-block-ne-BLOCK_LENGTH.false
    (omega (arith, c.sound-used.ensures, c.if-used-rows.true))

has : (c : Else-used-rows)
    → (is_sound c.args.block.now ≡ true) × (c.args.rows ≤ row_count c.args.block.now)
has c =
    let a = c.args in
    block_has a.rows a.block.now c.if-block-ne-BLOCK_LENGTH.false (λ z. c.if-used-eq0.false (c.sound-used.ensures ∙ z))
    (omega (arith, c.sound-used.ensures, c.if-used-rows.false))

pub shorten-requires : goal.shorten-requires
shorten-requires c = has c.before

pub returns : goal.returns
returns c =
    let c_back3 = c.before.before.before in
    let a = c.args in
    ap (λ (b : List ℕ). record { number = 0; block = b }) c.shorten.ensures
    ∙ block-done a.rows a.block.now c.if-block-ne-BLOCK_LENGTH.false (has c_back3.before.before).0
    (has c_back3.before.before).1
