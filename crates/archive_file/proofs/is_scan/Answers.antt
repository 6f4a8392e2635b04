-- `archive_file::is_scan` meets its contract: each return is one part of `is_scan`.
use mathlib.Core.Path.{◌∙◌}
use native.Mathlib.Omega.{arith}
use Rattle.archive_file.specs.Archive.{scan_of}
use Rattle.archive_file.proofs.Calls.{scan_many, scan_over, scan-stage}
use Rattle.archive_file.proofs.is_scan.Goals as goal

pub returns-then-blocks-gt-MAX_BLOCKS : goal.returns-then-blocks-gt-MAX_BLOCKS
returns-then-blocks-gt-MAX_BLOCKS c = scan_many (scan_of c.args.s) c.if-blocks-gt-MAX_BLOCKS.true

pub overflow_mul-blocks : goal.overflow_mul-blocks
overflow_mul-blocks c = omega arith

pub returns-then-blocks-rows : goal.returns-then-blocks-rows
returns-then-blocks-rows c = scan_over (scan_of c.args.s) c.if-blocks-gt-MAX_BLOCKS.false c.if-blocks-rows.true

pub is_stage-requires : goal.is_stage-requires
is_stage-requires c = (c.if-blocks-gt-MAX_BLOCKS.false, c.if-blocks-rows.false)

pub returns : goal.returns
returns c =
    c.is_stage.ensures ∙ scan-stage (scan_of c.args.s) c.if-blocks-gt-MAX_BLOCKS.false c.if-blocks-rows.false
