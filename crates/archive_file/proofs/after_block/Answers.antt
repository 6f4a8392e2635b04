-- `archive_file::after_block` meets its contract: each arm is one case.
use mathlib.Core.Path.{◌≡◌, sym, ap, ◌∙◌}
use Rattle.archive_model.specs.Buffer as buffer
use Rattle.archive_file.specs.Archive.{stage_of}
use Rattle.archive_file.specs.declared.Stage.{Stage}
use Rattle.archive_file.proofs.after_block.Lts as lts
use Rattle.archive_file.proofs.after_block.Reads as reads
use Rattle.archive_file.proofs.after_block.Tie as tie
use Rattle.archive_file.proofs.after_block.Goals as goal

-- states on the way
abbrev Start : Type 0
Start = lts.Start tie.the-claims reads.Pre reads.Post

-- the stage that an arm is for
at : (c : Start) (s : Stage) → c.args.stage ≡ s
    → buffer.stage_after (stage_of s) c.args.k c.args.block.now
    ≡ buffer.stage_after (stage_of c.args.stage) c.args.k c.args.block.now
at c s e = ap (λ (t : Stage). buffer.stage_after (stage_of t) c.args.k c.args.block.now) (sym e)

pub returns-in-Filling : goal.returns-in-Filling
returns-in-Filling c =
    let c_back3 = c.before.before.before in
    c.next_stage.ensures ∙ at c_back3.before _ c.in-Filling.is

pub returns-in-Short : goal.returns-in-Short
returns-in-Short c =
    let c_back3 = c.before.before.before in
    ap buffer.Wrong c.saturating_sub.ensures ∙ at c_back3.before _ c.in-Short.is

pub returns-in-Ended : goal.returns-in-Ended
returns-in-Ended c = at c.before.before.before _ c.in-Ended.is

pub returns-in-Wrong : goal.returns-in-Wrong
returns-in-Wrong c = at c.before.before.before _ c.in-Wrong.is
