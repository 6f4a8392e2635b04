-- `archive_file::next_stage` meets its contract: each return is one case.
use mathlib.Core.Path.{◌≡◌, sym, ◌∙◌}
use Rattle.archive_model.specs.Row.{block_number}
use Rattle.archive_file.specs.Archive.{sound_count}
use Rattle.archive_file.proofs.Scans.{stage_wrong, stage-number, stage-short, stage_full}
use Rattle.archive_file.proofs.next_stage.Lts as lts
use Rattle.archive_file.proofs.next_stage.Reads as reads
use Rattle.archive_file.proofs.next_stage.Tie as tie
use Rattle.archive_file.proofs.next_stage.Goals as goal

-- states on the way
abbrev Else-used-eq0 : Type 0
Else-used-eq0 = lts.Else1 tie.the-claims reads.Pre reads.Post

abbrev Else-number_of-k : Type 0
Else-number_of-k = lts.Else2 tie.the-claims reads.Pre reads.Post

pub returns-then-used-eq0 : goal.returns-then-used-eq0
returns-then-used-eq0 c =
    stage_wrong c.args.block.now c.args.k (sym c.requires.1 ∙ c.if-used-eq0.true)

-- where there are rows
some : (c : Else-used-eq0) → sound_count c.args.block.now ≡ 0 → ⊥
some c e = c.if-used-eq0.false (c.requires.1 ∙ e)

pub returns-then-number_of-k : goal.returns-then-number_of-k
returns-then-number_of-k c =
    let a = c.args in
    stage-number a.block.now a.k (some c.before.before.before) (λ k. c.if-number_of-k.true (c.number_of.ensures ∙ k))

-- where the number is right
same : (c : Else-number_of-k) → block_number c.args.block.now ≡ c.args.k
same c = sym c.number_of.ensures ∙ c.if-number_of-k.false

pub returns-then-used-lt-CELLS_PER_BLOCK : goal.returns-then-used-lt-CELLS_PER_BLOCK
returns-then-used-lt-CELLS_PER_BLOCK c =
    let c_back3 = c.before.before.before in
    stage-short c.args.block.now c.args.k (some c_back3.before) (same c.before.before)
    (rw c.requires.1 at c.if-used-lt-CELLS_PER_BLOCK.true)

pub returns : goal.returns
returns c =
    let c_back3 = c.before.before.before in
    stage_full c.args.block.now c.args.k (some c_back3.before) (same c.before.before)
    (rw c.requires.1 at c.if-used-lt-CELLS_PER_BLOCK.false)
