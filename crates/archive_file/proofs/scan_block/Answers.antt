-- `archive_file::scan_block` meets its contract: an all-zero block, and any other.
use mathlib.Core.Path.{sym, ◌∙◌}
use native.Mathlib.Omega.{arith}
use Rattle.archive_file.specs.Archive.{stage_of, scan_of}
use Rattle.archive_file.proofs.Scans.{sound_le, scanned_blank, scanned}
use Rattle.archive_file.proofs.scan_block.Goals as goal

pub returns-then-is_blank : goal.returns-then-is_blank
returns-then-is_blank c = (
  scanned_blank c.args.block.now (scan_of c.args.s) (stage_of c.after_blank.result)
      (sym c.is_blank.ensures ∙ c.if-is_blank.true) c.after_blank.ensures,
  omega arith,
)

pub returns : goal.returns
returns c = (
  scanned c.args.block.now (scan_of c.args.s) (stage_of c.after_block.result)
      (sym c.is_blank.ensures ∙ c.if-is_blank.false)
      c.after_block.ensures c.sound-used.result c.sound-used.ensures,
  omega (arith, c.sound-used.ensures, sound_le c.args.block.now),
)

pub overflow_add-result-3 : goal.overflow_add-result-3
overflow_add-result-3 c = omega (arith, c.sound-used.ensures, sound_le c.args.block.now)
