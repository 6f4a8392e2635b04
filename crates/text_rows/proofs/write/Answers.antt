-- `text_rows::write` meets its contract: two blocks that meet are all of the text.
use mathlib.Core.Path.{refl}
use native.Mathlib.Omega.{arith}
use Rattle.text_rows.proofs.Pasted.{paste_first, paste_next, pasted}
use Rattle.text_rows.proofs.write.Goals as goal

pub returns : goal.returns
returns c =
    let front = c.put_eight.ensures in
    let back = c.put_eight-2.ensures in
    record {
      bytes = pasted (paste_next (paste_first front) (omega arith) (omega arith) back) (omega arith) (omega arith);
      next = refl;
      short = omega arith;
    }
