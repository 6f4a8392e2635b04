-- `archive_file::number_of` meets its contract: the four bytes that are lent are all that is read.
use mathlib.Core.Path.{ap, ◌∙◌}
use native.Mathlib.Omega.{arith}
use lib.ListN.{length-take}
use lib.Seq.{take_all}
use Rattle.base_buffers.specs.Buffer.{part}
use Rattle.block_layout.specs.BigEndian.{unbe}
use Rattle.archive_file.proofs.number_of.Goals as goal

pub returns : goal.returns
returns c = c.read_number.ensures
    ∙ ap unbe
    (take_all 8 (part 0 4 c.args.block.now) (rw length-take (omega arith)))
