-- `archive_report::tally::scan_after` meets its contract: a whole block at such a scan is never refused.
use mathlib.Core.Path.{◌≡◌, refl, ap, ◌∙◌}
use Rattle.std.specs.Prelude.{Result, Ok, Err}
use Rattle.std.specs.Result.{result_unwrap_or}
use Rattle.base_refusal.specs.declared.Refusal.{Refusal}
use Rattle.archive_model.specs.Append.{Feeding}
use Rattle.archive_file.specs.declared.Scan.{Scan}
use Rattle.archive_file.specs.Archive.{scan_of, feed_result}
use Rattle.archive_report.proofs.Blocks.{fed}
use Rattle.archive_report.proofs.tally.scan_after.Goals as goal

-- the scan that an answer leaves
left : (s : Scan) (r : Result Scan Refusal) → scan_of (result_unwrap_or r s) ≡ (feed_result (scan_of s) r).next
left s (Ok next) = refl
left s (Err why) = refl

pub returns : goal.returns
returns c =
    let a = c.args in
    ap scan_of c.unwrap_or.ensures ∙ left a.scan c.feed.result
    ∙ ap (λ (f : Feeding). f.next)
    (c.feed.ensures ∙ fed a.block.now (scan_of a.scan) c.requires.0 c.requires.2 c.requires.1)
