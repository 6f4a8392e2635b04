-- `c_pieces::adding::adding_in` meets its contract.
use mathlib.Core.Path.{refl}
use Rattle.c_pieces.proofs.adding.adding_in.Goals as goal

pub returns : goal.returns
returns c =
    (rw (c.scan_of.ensures, c.report_in.ensures.0), refl)
