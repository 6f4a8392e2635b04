-- `text_collect::put_record` meets its contract: the time at its place, and the record by an array.
use mathlib.Core.Path.{refl}
use native.Mathlib.Omega.{arith}
use Rattle.text_collect.proofs.Storing.{record_printed}
use Rattle.text_collect.proofs.put_record.Goals as goal

pub returns : goal.returns
returns c = (
  record { bytes = refl; next = refl; short = omega arith },
  record_printed c.args.bytes.now c.args.len c.requires.2 c.args.flag
      c.requires.3 c.copy_part.ensures
      c.args.n c.requires.1 c.copy_part-2.ensures,
)
