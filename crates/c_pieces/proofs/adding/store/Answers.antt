-- `c_pieces::adding::store` meets its contract.
use mathlib.Core.Path.{◌≡◌, refl}
use mathlib.Core.Bool.{Bool, true, false, cond, not}
use lib.Dec.{eqb}
use Rattle.std.specs.Int.{from_bool}
use Rattle.archive_file.specs.Archive.{stage_of}
use Rattle.archive_report.proofs.Windows.{lines-count}
use Rattle.c_pieces.proofs.Scans.{stage-back}
use Rattle.c_pieces.proofs.adding.store.Goals as goal

from_bit : (b : Bool) → not (eqb (from_bool b) 0) ≡ b
from_bit true = refl
from_bit false = refl

bit_is : (b : Bool) → from_bool b ≡ cond b 1 0
bit_is true = refl
bit_is false = refl

pub returns : goal.returns
returns c =
    let a = c.args.a in (
      rw (
        c.stage_number.ensures,
        c.stage_position.ensures,
        stage-back (stage_of a.scan.stage),
        c.from.ensures,
        from_bit a.over,
      ),
      rw (
        c.stage_number.ensures,
        c.stage_position.ensures,
        c.from.ensures,
        bit_is a.over,
        lines-count a.lines 0 a.count,
      ),
      refl,
    )
