-- `archive_file::append` meets its contract: the archive is opened, and the row put at its cursor.
use mathlib.Core.Path.{◌∙◌}
use native.Mathlib.Omega.{arith}
use Rattle.std.proofs.lemmas.Result.{err_from_is_err_and}
use Rattle.archive_file.specs.Archive.{row_of}
use Rattle.archive_file.proofs.Calls.{append_rows, append_error}
use Rattle.archive_file.proofs.append.Goals as goal

pub returns : goal.returns
returns c =
    let a = c.args in
    c.append_at.ensures
    ∙ append_rows a.buffer.now (row_of a.bytes.now a.time a.loose) c.in_ok-n.n
    c.in_ok-n.ensures (omega arith)

pub returns-in_err-n : goal.returns-in_err-n
returns-in_err-n c =
    let a = c.args in
    let p = err_from_is_err_and c.from_residual.result c.from_residual.ensures.1 in
    rw (p.1, p.2)
    (append_error a.buffer.now (row_of a.bytes.now a.time a.loose) c.in_err-n.field-0.0 c.in_err-n.ensures)
