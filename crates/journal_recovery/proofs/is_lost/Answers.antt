-- `journal_recovery::is_lost` meets its contract: each return is one case of `lost_at`.
use Rattle.std.specs.Prelude.{Result, Err}
use Rattle.archive_file.specs.declared.ArchiveError.{ArchiveError}
use Rattle.archive_file.specs.declared.ArchiveError.TheVariants.{Damaged, Refused}
use Rattle.journal_model.specs.Disk.{whole_blocks}
use Rattle.journal_recovery.specs.Private.{lost_at}
use mathlib.Core.Bool.{true}
use Prim.Native.Nat.{ℕ, ◌-◌, ◌*◌, ◌<◌}
use native.Mathlib.Omega.{arith}
use mathlib.Core.Path.{◌≡◌, sym, ap, ◌∙◌}
use mathlib.Core.List.{List}
use Rattle.base_buffers.specs.Buffer.{part}
use Rattle.block_layout.specs.Block.{block_length}
use Rattle.archive_model.specs.Append.{open_of}
use Rattle.archive_file.specs.Archive.{open_result}
use Rattle.journal_recovery.proofs.Lost.{lost_short, lost_rows, lost_damaged, lost_refused}
use Rattle.journal_recovery.proofs.is_lost.Goals as goal

-- what `open` said of the blocks before it
opened : (at : ℕ) (file : List ℕ) (r : Result ℕ ArchiveError)
    → open_result r ≡ open_of (part 0 (block_length * at - 0) file)
    → open_result r ≡ open_of (part 0 (block_length * at) file)
opened at file r h =
    let e : block_length * at - 0 ≡ block_length * at = omega arith in
    h ∙ ap (λ (n : ℕ). open_of (part 0 n file)) e

pub returns-then-file-at : goal.returns-then-file-at
returns-then-file-at c = lost_short c.args.at c.args.file.now c.if-file-at.true

-- an archive that does not open
lost : (at : ℕ) (file : List ℕ) (e : ArchiveError) → at < whole_blocks file
    → open_result (Err e) ≡ open_of (part 0 (block_length * at) file) → true ≡ lost_at at file
lost at file (Damaged k) h e = lost_damaged at file h k e
lost at file (Refused why) h e = lost_refused at file h why e

pub returns-in-Ok : goal.returns-in-Ok
returns-in-Ok c =
    let a = c.args in
    lost_rows a.at a.file.now c.if-file-at.false c.in-Ok.n
    (sym (ap open_result c.in-Ok.is) ∙ opened a.at a.file.now c.open.result c.open.ensures)

pub returns-in-Err : goal.returns-in-Err
returns-in-Err c =
    let a = c.args in
    lost a.at a.file.now c.in-Err.field-0 c.if-file-at.false
    (sym (ap open_result c.in-Err.is) ∙ opened a.at a.file.now c.open.result c.open.ensures)
