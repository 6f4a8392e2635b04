-- `base_crc8::word` meets its contract.
use mathlib.Core.Path.{sym, ap, ◌∙◌}
use Prim.Native.Nat.{◌+◌, ◌*◌, ◌≤◌}
use native.Mathlib.Omega.{arith}
use lib.ListN.{length, take, drop, length-drop}
use lib.Seq.{drop-drop}
use Rattle.base_crc8.specs.Words.{value_of}
use Rattle.base_crc8.proofs.Words.{value_eight}
use Rattle.base_crc8.proofs.word.Goals as goal

pub returns : goal.returns
returns c =
    let bs = c.args.b.now in
    let f = c.args.from in
    let n : 8 ≤ length (drop f bs) = rw (length-drop f bs) (omega (arith, c.requires)) in
    let e = value_eight (drop f bs) n in (
      rw (c.quad.ensures.0, c.quad-2.ensures.0)
          (sym (e ∙ ap (λ l. value_of (take 4 (drop f bs)) * 4294967296 + value_of (take 4 l)) (drop-drop 4 f bs))),
      c.quad-2.ensures.2,
    )
