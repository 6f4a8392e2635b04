-- `c_archive::put_rows` meets its contract: no position goes with 0.
use mathlib.Core.Path.{ap}
use Rattle.archive_model.specs.Append.{Appended}
use Rattle.c_archive.specs.Calls.{has_place, put_rows_call}
use Rattle.c_archive.proofs.put_rows.Goals as goal

pub returns-in-Ok : goal.returns-in-Ok
unfolding has_place
returns-in-Ok c = ap (λ (a : Appended). put_rows_call a c.args.position.now) c.in-Ok.ensures
