-- `text_rows::write_hex` meets its contract: two blocks that meet, or three, are the digits of all bytes.
use native.Mathlib.Omega.{arith}
use Rattle.text_rows.proofs.Words.{hex-length}
use Rattle.text_rows.proofs.Pasted.{paste_first, paste_next, pasted}
use Rattle.text_rows.proofs.write_hex.Goals as goal

pub returns-then-n-le16 : goal.returns-then-n-le16
returns-then-n-le16 c =
    let s = c.args.s.now in
    let front = c.put_digits.ensures in
    let back = c.put_digits-then-n-le16.ensures in
    record {
      bytes =
          pasted (paste_next (paste_first front) (omega arith) (omega arith) back)
          (omega (arith, hex-length s)) (omega arith);
      next = omega (arith, hex-length s);
      short = omega arith;
    }

pub returns : goal.returns
returns c =
    let s = c.args.s.now in
    let front = c.put_digits.ensures in
    let middle = c.put_digits-2.ensures in
    let back = c.put_digits-3.ensures in
    record {
      bytes =
          pasted (paste_next (paste_next (paste_first front) (omega arith) (omega arith) middle)
          (omega arith) (omega arith) back)
          (omega (arith, hex-length s)) (omega arith);
      next = omega (arith, hex-length s);
      short = omega arith;
    }
