-- `c_pieces::scan::scan_of` meets its contract.
use mathlib.Core.Path.{ap}
use Rattle.archive_model.specs.Buffer.{Stage}
use Rattle.c_pieces.proofs.scan.scan_of.Goals as goal

pub returns : goal.returns
returns c =
    ap (λ (s : Stage). record { blocks = c.args.blocks; rows = c.args.rows; stage = s })
    c.stage_of.ensures
