-- `history_log::end_line` meets its contract.
use mathlib.Core.Path.{◌≡◌}
use Prim.Native.Nat.{◌+◌, ◌-◌, min}
use native.Mathlib.Omega.{arith}
use lib.ListN.{length, take}
use lib.Seq.{length-take-le}
use Rattle.base_buffers.proofs.Segments.{take_clamped}
use Rattle.text_lines.specs.Reading.{line_limit}
use Rattle.text_print.proofs.Finishing.{with_newline}
use Rattle.history_log.proofs.end_line.Goals as goal

pub returns : goal.returns
returns c =
    let line = c.args.line.now in
    let n = c.least-n.result in
    let long = length-take-le n line (omega (arith, c.least-n.ensures)) in
    let z : n - 0 ≡ n = omega arith in
    let y : n + 1 - 0 ≡ n + 1 = omega arith in
    let m : n ≡ min line_limit (length line) = omega (arith, c.least-n.ensures) in
    let front : take n line ≡ take line_limit line = rw m (take_clamped line_limit line) in
    let w = with_newline (take n line) c.args.whole.now c.copy.new.out
    (omega (arith, long, c.least-n.ensures, c.requires)) (rw z at c.copy.ensures.1) in
    (omega (arith, c.least-n.ensures), rw (long, y, front) at w)
