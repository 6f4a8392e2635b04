-- The goals that a search does not find.
use mathlib.Core.Path.{◌≡◌, sym, ap, ◌∙◌}
use mathlib.Core.Bool.{cond}
use mathlib.Core.List.{List, [], ◌∷◌, ◌++◌}
use Prim.Native.Nat.{ℕ, ◌+◌, ◌≤◌}
use native.Mathlib.Decide.{dec_lt}
use native.Mathlib.Omega.{arith}
use borrow.Author.Tests.{lt-ltb, le-ltb}
use lib.Dec.{ltb}
use native.Mathlib.Nat.{zero-add}
use lib.ListN.{length, get_or, take, length-take, get_or-eq_default}
use Rattle.base_buffers.specs.Buffer.{resized}
use Rattle.base_buffers.proofs.Buffer.{resized-more}
use Rattle.base_buffers.proofs.Segments.{begin, begun_length, named, store, done, part_at}
use Rattle.block_layout.specs.Cell.{cell_capacity}
use Rattle.c_archive.proofs.put_filled.Goals as goal

-- a byte of the first n, which reads as 0 past them
shown : (bytes : List ℕ) (n i : ℕ) → cond (ltb i n) (get_or bytes i 0) 0 ≡ get_or (take n bytes) i 0
shown bytes n i = elim (dec_lt i n) [
  | yes h ↦ rw (lt-ltb i n h) (sym (part_at 0 n bytes i 0 h ∙ ap (λ (k : ℕ). get_or bytes k 0) (zero-add i)))
  | no h ↦
      let l : n ≤ i = omega arith in
      let past : length (take n bytes) ≤ i = omega (arith, length-take n bytes) in
      rw (le-ltb i n l) (sym (get_or-eq_default (take n bytes) 0 past))
]

pub loop-i-init : goal.loop-i-init
unfolding resized
loop-i-init c = record { bounded = omega arith; begun = begin _ }

pub loop-i-preserved : goal.loop-i-preserved
loop-i-preserved c =
    let bytes = take c.args.n c.args.bytes.now in
    let e : resized c.loop-i.i bytes ++ (c.byte_below.result ∷ []) ≡ resized (c.loop-i.i + 1) bytes =
    rw (c.byte_below.ensures ∙ shown c.args.bytes.now c.args.n c.loop-i.i)
    (resized-more c.loop-i.i bytes) in
    record {
      bounded = omega arith;
      begun = named (store c.loop-i.invariant.begun c.byte_below.result (omega (arith, c.requires))) _ e;
    }

pub returns : goal.returns
returns c =
    let e : cell_capacity ≡ c.loop-i.i = omega (arith, c.loop-i.invariant.bounded) in
    rw e (done c.loop-i.invariant.begun (c.requires ∙ e))

pub bounds-bytes-i : goal.bounds-bytes-i
bounds-bytes-i c = omega arith

pub bounds-out-i : goal.bounds-out-i
bounds-out-i c = omega (arith, begun_length c.loop-i.invariant.begun, c.requires)

pub overflow_step-i : goal.overflow_step-i
overflow_step-i c = omega arith

pub loop-i-smaller : goal.loop-i-smaller
loop-i-smaller c = omega arith

pub shape_of-out : goal.shape_of-out
shape_of-out c = begun_length c.loop-i.invariant.begun
