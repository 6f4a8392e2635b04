-- `archive_cut::cut` meets its contract: the archive is opened, and cut.
use Prim.Native.Nat.{ℕ}
use mathlib.Core.Path.{◌≡◌}
use mathlib.Core.List.{List}
use Rattle.std.proofs.Common.{Err}
use Rattle.std.proofs.lemmas.Result.{err_from_is_err_and}
use Rattle.base_refusal.specs.Number.{number_of}
use Rattle.base_refusal.specs.declared.Refusal.TheVariants.{Mismatch}
use Rattle.archive_model.specs.Append.{open_of}
use Rattle.archive_file.specs.Archive.{open_result, append_result}
use Rattle.archive_file.specs.declared.ArchiveError.{ArchiveError}
use Rattle.archive_file.proofs.Calls.{opened_rows, opened-damaged, opened-refused}
use Rattle.archive_cut.specs.Cut.{cut_of}
use Rattle.archive_cut.proofs.Cutting.{cut_not}
use Rattle.archive_cut.proofs.cut.Goals as goal

pub cut_from-requires : goal.cut_from-requires
cut_from-requires c = opened_rows c.args.buffer.now c.in_ok-n.n c.in_ok-n.ensures

-- what does not open is not cut
not_opened : (rows : ℕ) (buffer : List ℕ) (e : ArchiveError) → open_result (Err e) ≡ open_of buffer
    → append_result (Err e) buffer ≡ cut_of rows buffer
not_opened rows buffer (ArchiveError.Damaged k) h =
    cut_not rows buffer (number_of Mismatch) k (opened-damaged buffer k h)
not_opened rows buffer (ArchiveError.Refused why) h =
    cut_not rows buffer (number_of why) 0 (opened-refused buffer why h)

pub returns-in_err-n : goal.returns-in_err-n
returns-in_err-n c =
    let p = err_from_is_err_and c.from_residual.result c.from_residual.ensures.1 in
    rw (p.1, p.2) (not_opened c.args.rows c.args.buffer.now c.in_err-n.field-0.0 c.in_err-n.ensures)
