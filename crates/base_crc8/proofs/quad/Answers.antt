-- `base_crc8::quad` meets its contract.
use mathlib.Core.Path.{◌≡◌, ap, ◌∙◌}
use mathlib.Core.List.{List}
use Prim.Native.Nat.{ℕ, ◌+◌, ◌*◌, ◌≤◌}
use native.Mathlib.Omega.{arith}
use native.Mathlib.Nat.{add-zero}
use lib.ListN.{length, get_or, take, drop, length-drop}
use lib.Seq.{get_or-drop}
use Rattle.base_crc8.specs.Words.{EightBits, value_of}
use Rattle.base_crc8.proofs.Words.{value_four}
use Rattle.base_crc8.proofs.quad.Goals as goal

four_at : (bs : List ℕ) (f : ℕ) → f + 4 ≤ length bs
    → get_or bs f 0 * 16777216 + (get_or bs (f + 1) 0 * 65536 + (get_or bs (f + 2) 0 * 256 + get_or bs (f + 3) 0))
    ≡ value_of (take 4 (drop f bs))
four_at bs f h =
    let n : 4 ≤ length (drop f bs) = rw (length-drop f bs) (omega arith) in
    let zero-th : get_or (drop f bs) 0 0 ≡ get_or bs f 0 = get_or-drop f bs 0 0
    ∙ ap (λ (k : ℕ). get_or bs k 0) (add-zero f) in
    let e = value_four (drop f bs) n in
    rw (zero-th, get_or-drop f bs 1 0, get_or-drop f bs 2 0, get_or-drop f bs 3 0) at e

pub returns : goal.returns
returns c =
    let bs = c.args.b.now in
    let bytes : EightBits bs = λ i. omega (arith, c.shared_slice_known-5-1.given i) in (
      rw (
        c.u64_of_byte-b0.ensures.0,
        c.u64_of_byte-b1.ensures.0,
        c.u64_of_byte-b2.ensures.0,
        c.u64_of_byte-b3.ensures.0,
      )
          (four_at bs c.args.from c.requires),
      omega (
        arith,
        c.u64_of_byte-b0.ensures.1,
        c.u64_of_byte-b1.ensures.1,
        c.u64_of_byte-b2.ensures.1,
        c.u64_of_byte-b3.ensures.1,
      ),
      bytes,
    )
