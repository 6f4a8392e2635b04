-- `archive_file::Scan::feed` meets its contract: each return is one case of `feed_of`.
use mathlib.Core.Path.{sym, ◌∙◌}
use native.Mathlib.Omega.{arith}
use Rattle.archive_file.specs.Archive.{scan_of}
use Rattle.archive_model.proofs.Scans.{scan_facts}
use Rattle.archive_file.proofs.Calls.{feed-not, feed_odd, feed_many, feed-done}
use Rattle.archive_file.proofs.Scan.feed.Goals as goal

pub returns-then-not-is_scan : goal.returns-then-not-is_scan
returns-then-not-is_scan c =
    feed-not (scan_of c.args.self) c.args.blocks.now (sym c.is_scan.ensures ∙ c.if-not-is_scan.true)

pub returns-then-blocks-ne0 : goal.returns-then-blocks-ne0
returns-then-blocks-ne0 c =
    feed_odd (scan_of c.args.self) c.args.blocks.now (sym c.is_scan.ensures ∙ c.if-not-is_scan.false)
    c.if-blocks-ne0.true

pub returns-then-passed-blocks-gt-MAX_BLOCKS : goal.returns-then-passed-blocks-gt-MAX_BLOCKS
returns-then-passed-blocks-gt-MAX_BLOCKS c =
    feed_many (scan_of c.args.self) c.args.blocks.now (sym c.is_scan.ensures ∙ c.if-not-is_scan.false)
    c.if-blocks-ne0.false c.if-passed-blocks-gt-MAX_BLOCKS.true

pub returns : goal.returns
returns c =
    feed-done (scan_of c.args.self) c.args.blocks.now (sym c.is_scan.ensures ∙ c.if-not-is_scan.false)
    c.if-blocks-ne0.false c.if-passed-blocks-gt-MAX_BLOCKS.false (scan_of c.scan_blocks.result) c.scan_blocks.ensures

pub overflow_add-passed : goal.overflow_add-passed
overflow_add-passed c =
    omega (arith, scan_facts (scan_of c.args.self) (sym c.is_scan.ensures ∙ c.if-not-is_scan.false))

pub scan_blocks-requires : goal.scan_blocks-requires
scan_blocks-requires c =
    let f = scan_facts (scan_of c.args.self) (sym c.is_scan.ensures ∙ c.if-not-is_scan.false) in
    (c.if-passed-blocks-gt-MAX_BLOCKS.false, f.1)
