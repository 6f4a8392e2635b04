-- `base_crc8::crc8` meets its contract: the two words are what stands before the last eight bytes, and these.
use native.Mathlib.Omega.{arith}
use Rattle.base_crc8.proofs.Words.{crc_two}
use Rattle.base_crc8.proofs.crc8.Goals as goal

pub returns : goal.returns
returns c =
    let bs = c.args.bytes.now in
    rw (
      c.remainder.ensures,
      c.folded.ensures,
      c.begun-high.ensures,
      c.word-low.ensures.0,
      c.word.ensures.0,
    )
    (crc_two bs _ c.word-low.ensures.1 (omega arith) (omega arith))
