-- `archive_file::open` meets its contract: a scan of all blocks says what the definition of the first mismatch does.
use mathlib.Core.Path.{◌≡◌, sym, ap, ◌∙◌}
use mathlib.Core.Bool.{true}
use native.Mathlib.Omega.{arith}
use lib.ListN.{length}
use Rattle.archive_model.specs.Buffer as buffer
use Rattle.archive_model.proofs.Pieces.{scan-found, scan-rows}
use Rattle.archive_file.specs.Archive.{open_found}
use Rattle.archive_file.proofs.Calls.{whole_facts, open_size, open_whole}
use Rattle.archive_file.proofs.open.Lts as lts
use Rattle.archive_file.proofs.open.Reads as reads
use Rattle.archive_file.proofs.open.Tie as tie
use Rattle.archive_file.proofs.open.Goals as goal

-- states on the way
abbrev Else-not-is_whole : Type 0
Else-not-is_whole = lts.Else1 tie.the-claims reads.Pre reads.Post

pub returns-then-not-is_whole : goal.returns-then-not-is_whole
returns-then-not-is_whole c =
    open_size c.args.buffer.now
    (sym c.is_whole.ensures ∙ c.if-not-is_whole.true)

whole : (c : Else-not-is_whole) → buffer.is_whole (length c.args.buffer.now) ≡ true
whole c = sym c.is_whole.ensures ∙ c.if-not-is_whole.false

pub scan_blocks-end-requires : goal.scan_blocks-end-requires
scan_blocks-end-requires c =
    let b = ap (λ (s : buffer.Scan). s.blocks) c.start.ensures in
    let r = ap (λ (s : buffer.Scan). s.rows) c.start.ensures in
    (omega (arith, b, (whole_facts _ (whole c.before.before)).1), omega (arith, b, r))

pub returns : goal.returns
returns c =
    let c_back3 = c.before.before.before in
    let a = c.args.buffer.now in
    let is =
    c.scan_blocks-end.ensures
    ∙ ap (λ (s : buffer.Scan). buffer.scan_blocks s (buffer.blocks_in a)) c.start.ensures in
    c.rows_found.ensures
    ∙ ap (λ (f : buffer.Found). open_found f c.scan_blocks-end.result.rows)
    (ap (λ (s : buffer.Scan). buffer.stage_found s.stage) is ∙ scan-found a)
    ∙ open_whole a (whole c_back3.before) c.scan_blocks-end.result.rows
    (λ none. ap (λ (s : buffer.Scan). s.rows) is ∙ scan-rows a none)
