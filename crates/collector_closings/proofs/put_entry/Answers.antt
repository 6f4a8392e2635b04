-- `collector_closings::put_entry` meets its contract: one cell, or nothing.
use mathlib.Core.Path.{◌≡◌, refl, sym, ◌∙◌}
use Prim.Native.Nat.{◌+◌, ◌-◌, ◌*◌}
use native.Mathlib.Omega.{arith}
use lib.ListN.{length}
use Rattle.base_buffers.specs.Buffer.{part}
use Rattle.base_buffers.proofs.Segments.{part_length}
use Rattle.block_layout.proofs.Cell.{put-fits, cell_length_lem}
use Rattle.collector_closings.proofs.Cells.{lent-printed}
use Rattle.collector_closings.proofs.put_entry.Goals as goal

pub returns-then-not-is_past : goal.returns-then-not-is_past
returns-then-not-is_past c =
    rw (sym c.is_past.ensures ∙ c.if-not-is_past.true)
    (record { bytes = refl; next = omega arith; short = omega arith })

pub returns : goal.returns
returns c =
    let a = c.args in
    let at = 32 * a.k in
    let out = a.closed.now in
    let n : at + 32 - at ≡ 32 = omega arith in
    let old : length (part at (at + 32 - at) out) ≡ 32 = part_length at (at + 32 - at) out (omega arith) ∙ n in
    let cell = put-fits a.opened a.bytes.now a.copies (part at (at + 32 - at) out) c.requires.0 old in
    let next : 32 * (a.k + 1) ≡ at + 32 = omega arith in
    rw (sym c.is_past.ensures ∙ c.if-not-is_past.false, next)
    (lent-printed out _ _ at (c.put_cell.ensures ∙ cell)
    (cell_length_lem a.opened a.bytes.now a.copies c.requires.0) c.requires.1)
