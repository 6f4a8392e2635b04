-- `journal_calls::block::number_of` meets its contract: at most four bytes are read.
use mathlib.Core.Path.{sym, ap, ◌∙◌}
use native.Mathlib.Omega.{arith}
use lib.ListN.{length-take}
use lib.Seq.{take_all}
use Rattle.base_buffers.specs.Buffer.{part}
use Rattle.block_layout.specs.BigEndian.{unbe}
use Rattle.journal_calls.proofs.block.number_of.Goals as goal

pub returns-then-block-lt4 : goal.returns-then-block-lt4
returns-then-block-lt4 c =
    let block = c.args.block.now in
    c.read_number.ensures ∙ ap unbe (take_all 8 block (omega (arith, c.if-block-lt4.true)) ∙ sym
    (take_all 4 block (omega (arith, c.if-block-lt4.true))))

pub returns : goal.returns
returns c =
    let block = c.args.block.now in
    c.read_number-2.ensures ∙ ap unbe (take_all 8 (part 0 4 block) (rw length-take (omega arith)))
