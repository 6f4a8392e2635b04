-- `journal_state::lawful::rows_of` meets its contract: an image is restored to a fresh collector.
use native.Mathlib.Omega.{arith}
use Rattle.journal_state.proofs.Laws.{counts-refused, counts-restored, rows_fit}
use Rattle.journal_state.proofs.lawful.rows_of.Goals as goal

pub overflow_add-result : goal.overflow_add-result
overflow_add-result c =
    omega (
      arith,
      rows_fit c.args.image.now c.fresh.result c.fresh.ensures.state c.restore.result c.restore.ensures _
          c.in-Ok.is,
    )

pub returns-in-Ok : goal.returns-in-Ok
returns-in-Ok c =
    counts-restored c.args.image.now c.fresh.result c.fresh.ensures.state c.restore.result c.restore.ensures _
    c.in-Ok.is

pub returns-in-Err : goal.returns-in-Err
returns-in-Err c =
    counts-refused c.args.image.now c.fresh.result c.fresh.ensures.state c.restore.result c.restore.ensures _
    c.in-Err.is
