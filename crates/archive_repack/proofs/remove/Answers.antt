-- `archive_repack::remove` meets its contract: the archive is opened, and the listed rows are removed from it.
use Prim.Native.Nat.{ℕ}
use mathlib.Core.Path.{◌≡◌}
use mathlib.Core.List.{List}
use Rattle.std.proofs.Common.{Err}
use Rattle.std.proofs.lemmas.Result.{err_from_is_err_and}
use Rattle.base_refusal.specs.Number.{number_of}
use Rattle.base_refusal.specs.declared.Refusal.TheVariants.{Mismatch}
use Rattle.archive_model.specs.Append.{open_of}
use Rattle.archive_file.specs.Archive.{open_result}
use Rattle.archive_file.specs.declared.ArchiveError.{ArchiveError}
use Rattle.archive_file.proofs.Calls.{opened_rows, opened-damaged, opened-refused}
use Rattle.archive_repack_model.specs.Repack.{remove_of}
use Rattle.archive_repack.specs.Calls.{remove_result}
use Rattle.archive_repack.proofs.Removal.{remove_not}
use Rattle.archive_repack.proofs.remove.Goals as goal

pub remove_from-requires : goal.remove_from-requires
remove_from-requires c = opened_rows c.args.buffer.now c.in_ok-n.n c.in_ok-n.ensures

-- nothing is removed from what does not open
not_opened : (buffer identities : List ℕ) (e : ArchiveError) → open_result (Err e) ≡ open_of buffer
    → remove_result (Err e) buffer ≡ remove_of buffer identities
not_opened buffer identities (ArchiveError.Damaged k) h =
    remove_not buffer identities (number_of Mismatch) k (opened-damaged buffer k h)
not_opened buffer identities (ArchiveError.Refused why) h =
    remove_not buffer identities (number_of why) 0 (opened-refused buffer why h)

pub returns-in_err-n : goal.returns-in_err-n
returns-in_err-n c =
    let p = err_from_is_err_and c.from_residual.result c.from_residual.ensures.1 in
    rw (p.1, p.2) (not_opened c.args.buffer.now c.args.identities.now c.in_err-n.field-0.0 c.in_err-n.ensures)
