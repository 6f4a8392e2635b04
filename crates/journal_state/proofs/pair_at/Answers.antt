-- `journal_state::pair_at` meets its contract: the two bytes that are lent are all that is read.
use mathlib.Core.Path.{ap, ◌∙◌}
use native.Mathlib.Omega.{arith}
use lib.ListN.{take, length-take}
use lib.Seq.{take_all}
use Rattle.base_buffers.specs.Buffer.{part}
use Rattle.base_buffers.proofs.Segments.{part-ends}
use Rattle.block_layout.specs.BigEndian.{unbe}
use Rattle.journal_state.proofs.pair_at.Goals as goal

pub returns : goal.returns
returns c =
    let a = c.args in
    c.read_number.ensures
    ∙ ap (λ l. unbe (take 8 l)) (part-ends a.at 2 a.bytes.now)
    ∙ ap unbe (take_all 8 (part a.at 2 a.bytes.now) (rw length-take (omega arith)))
