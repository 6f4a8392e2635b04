-- Eight bytes more.
use Rattle.std.proofs.Common.{◌≡◌, ◌∙◌, sym, ap, List, ℕ, take, drop}
use lib.ListN.{take-append-drop}
use Rattle.base_crc8.specs.Crc8.{crc_from}
use Rattle.base_crc8_long.proofs.Several.{crc-part}
use Rattle.base_crc8_long.proofs.by_eight.Goals as goal

eight_more : (crc : ℕ) (left : List ℕ) → crc_from (crc_from crc (take 8 left)) (drop 8 left) ≡ crc_from crc left
eight_more crc left =
    sym (crc-part crc (take 8 left) (drop 8 left)) ∙ ap (crc_from crc) (take-append-drop 8 left)

pub loop-first-preserved : goal.loop-first-preserved
loop-first-preserved c =
    let parts = c.in-Some.ensures.cases in
    rw (c.eight-crc.ensures, parts.0, parts.1)
    (eight_more c.loop-first.crc c.loop-first.left.now ∙ c.loop-first.invariant)
