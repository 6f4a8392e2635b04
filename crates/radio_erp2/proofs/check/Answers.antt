-- `radio_erp2::check` meets its contract: one law of `Checks` for each return.
use mathlib.Core.Path.{ap, ◌∙◌}
use Rattle.radio_erp2_model.specs.Sizes.{overhead}
use Rattle.radio_erp2_model.proofs.Checks.{check-zero, check-empty, check-mismatch, check-short, check-crc, check-reserved, check_misfit, check-long}
use Rattle.radio_erp2.proofs.check.Goals as goal

pub returns-then-n-eq0 : goal.returns-then-n-eq0
returns-then-n-eq0 c = check-empty _ c.if-n-eq0.true

pub returns-then-l-eq0 : goal.returns-then-l-eq0
returns-then-l-eq0 c = check-zero _ _ c.from-l.ensures c.if-l-eq0.true

pub returns-then-n-l : goal.returns-then-n-l
returns-then-n-l c = check-mismatch _ _ c.from-l.ensures c.if-n-l.true

pub returns-then-l-le-MAX_SHORT : goal.returns-then-l-le-MAX_SHORT
returns-then-l-le-MAX_SHORT c =
    check-short _ _ c.from-l.ensures c.if-l-eq0.false c.if-n-l.false c.if-l-le-MAX_SHORT.true

pub returns-then-s-l : goal.returns-then-s-l
returns-then-s-l c =
    check-crc _ _ c.from-l.ensures c.if-l-eq0.false c.if-n-l.false c.if-l-le-MAX_SHORT.false
    _ c.crc8.ensures c.if-s-l.true

pub returns-then-h-ge-RESERVED : goal.returns-then-h-ge-RESERVED
returns-then-h-ge-RESERVED c =
    check-reserved _ _ c.from-l.ensures c.if-l-eq0.false c.if-n-l.false c.if-l-le-MAX_SHORT.false
    _ c.crc8.ensures c.if-s-l.false _ c.header_of-h.ensures c.if-h-ge-RESERVED.true

pub returns-then-l-overhead : goal.returns-then-l-overhead
returns-then-l-overhead c =
    check_misfit _ _ c.from-l.ensures c.if-l-eq0.false c.if-n-l.false c.if-l-le-MAX_SHORT.false
    _ c.crc8.ensures c.if-s-l.false _ c.header_of-h.ensures c.if-h-ge-RESERVED.false
    _ (c.overhead.ensures ∙ ap overhead c.long_sizes.ensures) c.if-l-overhead.true

pub returns : goal.returns
returns c =
    check-long _ _ c.from-l.ensures c.if-l-eq0.false c.if-n-l.false c.if-l-le-MAX_SHORT.false
    _ c.crc8.ensures c.if-s-l.false _ c.header_of-h.ensures c.if-h-ge-RESERVED.false
    _ (c.overhead.ensures ∙ ap overhead c.long_sizes.ensures) c.if-l-overhead.false
