-- `archive_report::lines::make_gap` meets its contract: index by index, what `copy_within` says.
use mathlib.Core.Path.{◌≡◌, ap, ◌∙◌}
use Prim.Native.Nat.{ℕ, ◌+◌, ◌-◌}
use native.Mathlib.Omega.{arith}
use lib.ListN.{get_or}
use Rattle.archive_report.proofs.lines.make_gap.Goals as goal

pub returns : goal.returns
returns c =
    let a = c.args in
    let moved = c.copy_within.ensures.by_index in
    record {
      long = c.copy_within.ensures.len;
      front = λ k h. moved.1 k 0 (omega (arith, h));
      back =
          λ k h l.
          let from : a.from + (k + 5 - (a.from + 5)) ≡ k = omega (arith, h) in
          moved.0 (k + 5) 0 (omega (arith, h)) (omega (arith, h, l, c.requires.0))
          ∙ ap (λ (i : ℕ). get_or a.lines.now i 0) from;
      behind = λ k h. moved.2 k 0 (omega (arith, h, c.requires.0));
    }
