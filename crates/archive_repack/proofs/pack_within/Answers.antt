-- The goals that a search does not find.
use mathlib.Core.Path.{◌≡◌, refl, sym, ap, ◌∙◌}
use mathlib.Core.List.{List}
use Prim.Native.Nat.{ℕ, ◌+◌, ◌-◌, ◌*◌, ◌≤◌, ◌<◌}
use native.Mathlib.Nat.{zero-add}
use native.Mathlib.Omega.{arith}
use lib.ListN.{length, get_or, take}
use Rattle.base_buffers.specs.Buffer.{part}
use Rattle.block_layout.specs.Block.{block_length}
use Rattle.base_buffers.proofs.Segments.{part_length, part-ends, begun_length, begun_after, within, lent}
use Rattle.archive_model.specs.Append.{block_at, verdict}
use Rattle.archive_model.specs.Buffer.{blocks_for, rows_in}
use Rattle.archive_repack.proofs.pack_within.Invariants.{Packed}
use Rattle.archive_file.specs.Archive.{sound_count}
use Rattle.archive_file.proofs.Scans.{sound_le}
use Rattle.archive_repack_model.specs.Packer.{start_packing, packing}
use Rattle.archive_repack.proofs.Walks.{walk_start, walk_turn, walk_packed, walk_put, walk_long, block-rows}
use Rattle.archive_repack.proofs.Within.{flushed_next, in_use_few, in_use_length, in_use_block, in_use_count, in_use_cells}
use Rattle.archive_repack.proofs.pack_within.Goals as goal

-- ---- the facts of a turn
pub loop-k-init : goal.loop-k-init
loop-k-init c =
    let a = c.args in
    let buffer = a.buffer.now in
    let long = in_use_length buffer c.requires.0 a.blocks c.requires.1 in
    record {
      bounded = omega arith;
      walking =
          walk_start start_packing a.identities.now
          (take (block_length * a.blocks) buffer) buffer 0 a.blocks 0 a.pending.now c.requires.2
          (omega arith) (omega arith) (omega (arith, long)) refl;
    }

-- a block that is read lies in the buffer
inside : (b : List ℕ) (n k : ℕ) → (verdict b).number ≡ 0 → n ≡ blocks_for (length (rows_in b)) → k < n
    → block_length * k + block_length ≤ length b
inside b n k p e h = omega (arith, in_use_few b p n e)

-- so what is read is still as it was
shown : {ids pending : List ℕ} {waits put : ℕ} (b : List ℕ) (n k : ℕ) (out : List ℕ)
    → (verdict b).number ≡ 0 → n ≡ blocks_for (length (rows_in b)) → k < n
    → Packed b n ids out pending waits put k
    → part (block_length * k) (block_length * k + block_length - block_length * k) out
    ≡ block_at k (take (block_length * n) b)
shown b n k out p e h w =
    part-ends (block_length * k) block_length out
    ∙ ap (take block_length) (begun_after w.walking.begun (block_length * k) (omega (arith, w.walking.room)))
    ∙ sym (in_use_block b p n e k h)

-- and its fifth byte is how many rows it has
rows : (b : List ℕ) (n k : ℕ) (block : List ℕ) (r : ℕ)
    → (verdict b).number ≡ 0 → n ≡ blocks_for (length (rows_in b)) → k < n
    → block ≡ block_at k (take (block_length * n) b) → r ≡ get_or block 4 0
    → r ≡ sound_count (block_at k (take (block_length * n) b))
rows b n k block r p e h s is =
    is ∙ ap (λ (l : List ℕ). get_or l 4 0) (s ∙ in_use_block b p n e k h) ∙ in_use_count b p n e k h

pub push_cells-total-requires : goal.push_cells-total-requires
push_cells-total-requires c =
    let a = c.args in
    let b = a.buffer.now in
    let n = a.blocks in
    let k = c.loop-k.k in
    let source = take (block_length * n) b in
    let below : k < n = c.loop-k-test.true in
    let w = c.loop-k.invariant.walking in
    let same : part (block_length * k) (block_length * k + block_length - block_length * k) c.loop-k.buffer
    ≡ block_at k source =
    shown b n k c.loop-k.buffer c.requires.0 c.requires.1 below c.loop-k.invariant in
    let known : c.byte_at-rows.result ≡ sound_count (block_at k source) =
    rows b n k _ _ c.requires.0 c.requires.1 below same c.byte_at-rows.ensures in
    let long = in_use_length b c.requires.0 n c.requires.1 in (
      w.long,
      w.few,
      ap length same ∙ part_length (block_length * k) block_length source (omega (arith, long, below)),
      omega (arith, known, sound_le (block_at k source)),
      rw same (block-rows (block_at k source) c.byte_at-rows.result known),
    )

pub flush-waits-requires : goal.flush-waits-requires
flush-waits-requires c =
    let a = c.args in
    let b = a.buffer.now in
    let n = a.blocks in
    let k = c.loop-k.k in
    let source = take (block_length * n) b in
    let below : k < n = c.loop-k-test.true in
    let w = c.loop-k.invariant.walking in
    let same : part (block_length * k) (block_length * k + block_length - block_length * k) c.loop-k.buffer
    ≡ block_at k source =
    shown b n k c.loop-k.buffer c.requires.0 c.requires.1 below c.loop-k.invariant in
    let known : c.byte_at-rows.result ≡ sound_count (block_at k source) =
    rows b n k _ _ c.requires.0 c.requires.1 below same c.byte_at-rows.ensures in
    let few : c.push_cells-total.result < 30 =
    omega (arith, c.push_cells-total.ensures.few, w.few, known, sound_le (block_at k source)) in
    let fits : block_length * c.loop-k.put + block_length ≤ length b =
    omega (arith, w.room, inside b n k c.requires.0 c.requires.1 below) in
    (c.push_cells-total.auto.pending ∙ w.long, few, lent w.begun block_length _ refl fits)

pub loop-k-preserved : goal.loop-k-preserved
loop-k-preserved c =
    let a = c.args in
    let b = a.buffer.now in
    let n = a.blocks in
    let k = c.loop-k.k in
    let source = take (block_length * n) b in
    let below : k < n = c.loop-k-test.true in
    let w = c.loop-k.invariant.walking in
    let same : part (block_length * k) (block_length * k + block_length - block_length * k) c.loop-k.buffer
    ≡ block_at k source =
    shown b n k c.loop-k.buffer c.requires.0 c.requires.1 below c.loop-k.invariant in
    let known : c.byte_at-rows.result ≡ sound_count (block_at k source) =
    rows b n k _ _ c.requires.0 c.requires.1 below same c.byte_at-rows.ensures in
    let few : c.push_cells-total.result < 30 =
    omega (arith, c.push_cells-total.ensures.few, w.few, known, sound_le (block_at k source)) in
    let fits : block_length * c.loop-k.put + block_length ≤ length b =
    omega (arith, w.room, inside b n k c.requires.0 c.requires.1 below) in
    let long = c.push_cells-total.auto.pending ∙ w.long in
    record {
      bounded = omega (arith, below);
      walking =
          walk_turn start_packing a.identities.now source b 0
          n k c.loop-k.put c.loop-k.waits c.loop-k.pending
          c.loop-k.buffer w below c.byte_at-rows.result
          c.push_cells-total.result c.flush-waits.result _ _ _ known
          (rw same at c.push_cells-total.ensures) long
          (flushed_next c.flush-waits.ensures) (c.flush-waits.auto.pending ∙ long)
          c.flush-waits.auto.full fits;
    }

pub returns : goal.returns
returns c =
    let s = c in
    let b = c.args.buffer.now in
    let source = take (block_length * c.args.blocks) b in
    let ids = s.args.identities.now in
    let blocks = s.args.blocks in
    let k = c.loop-k.k in
    let put = c.loop-k.put in
    let waits = c.loop-k.waits in
    let pending = c.loop-k.pending in
    let out = c.loop-k.buffer in
    let w = c.loop-k.invariant.walking in
    let over : blocks ≤ k = c.loop-k-test.false in
    rw (← in_use_cells b s.requires.0 blocks s.requires.1 ids) (record {
      waits = w.few;
      packed =
          ap (λ (n : ℕ). packing n waits pending) (sym (zero-add put))
          ∙ walk_packed start_packing ids source b 0 blocks k put waits pending out w over;
      put = walk_put start_packing ids source b 0 blocks k put waits pending out w over;
      long = walk_long start_packing ids source b 0 blocks k put waits pending out w over
          ∙ ap (λ (n : ℕ). block_length * n) (zero-add put);
    })

pub overflow_mul-block : goal.overflow_mul-block
overflow_mul-block c = omega (
  arith,
  inside c.args.buffer.now c.args.blocks c.loop-k.k c.requires.0 c.requires.1
      c.loop-k-test.true,
)

pub overflow_mul-block-in-loop-k : goal.overflow_mul-block-in-loop-k
overflow_mul-block-in-loop-k c = omega (
  arith,
  inside c.args.buffer.now c.args.blocks c.loop-k.k c.requires.0
      c.requires.1 c.loop-k-test.true,
)

pub overflow_add-block : goal.overflow_add-block
overflow_add-block c = omega (
  arith,
  inside c.args.buffer.now c.args.blocks c.loop-k.k c.requires.0 c.requires.1
      c.loop-k-test.true,
)

pub slice_bounds-block-count : goal.slice_bounds-block-count
slice_bounds-block-count c = omega arith

pub slice_bounds-block-start : goal.slice_bounds-block-start
slice_bounds-block-start c = omega arith

pub slice_bounds-block-end : goal.slice_bounds-block-end
slice_bounds-block-end c = within c.loop-k.invariant.walking.begun _
    (inside c.args.buffer.now c.args.blocks c.loop-k.k c.requires.0 c.requires.1 c.loop-k-test.true)

pub overflow_cast-rows : goal.overflow_cast-rows
overflow_cast-rows c = omega arith

pub overflow_mul-put : goal.overflow_mul-put
overflow_mul-put c = omega (
  arith,
  c.loop-k.invariant.walking.room,
  inside c.args.buffer.now c.args.blocks
      c.loop-k.k c.requires.0 c.requires.1 c.loop-k-test.true,
)

pub overflow_mul-put-in-loop-k : goal.overflow_mul-put-in-loop-k
overflow_mul-put-in-loop-k c = omega (
  arith,
  c.loop-k.invariant.walking.room,
  inside c.args.buffer.now c.args.blocks
      c.loop-k.k c.requires.0 c.requires.1 c.loop-k-test.true,
)

pub overflow_add-put : goal.overflow_add-put
overflow_add-put c = omega (
  arith,
  c.loop-k.invariant.walking.room,
  inside c.args.buffer.now c.args.blocks
      c.loop-k.k c.requires.0 c.requires.1 c.loop-k-test.true,
)

pub slice_bounds-flush-count : goal.slice_bounds-flush-count
slice_bounds-flush-count c = omega arith

pub slice_bounds-flush-start : goal.slice_bounds-flush-start
slice_bounds-flush-start c = omega arith

pub slice_bounds-flush-end : goal.slice_bounds-flush-end
slice_bounds-flush-end c = within c.loop-k.invariant.walking.begun _ (omega (
  arith,
  c.loop-k.invariant.walking.room,
  inside c.args.buffer.now c.args.blocks c.loop-k.k c.requires.0 c.requires.1 c.loop-k-test.true,
))

pub overflow_add-put-in-loop-k : goal.overflow_add-put-in-loop-k
overflow_add-put-in-loop-k c =
    let a = c.args in
    let b = a.buffer.now in
    let n = a.blocks in
    let k = c.loop-k.k in
    let source = take (block_length * n) b in
    let below : k < n = c.loop-k-test.true in
    let w = c.loop-k.invariant.walking in
    let same : part (block_length * k) (block_length * k + block_length - block_length * k) c.loop-k.buffer
    ≡ block_at k source =
    shown b n k c.loop-k.buffer c.requires.0 c.requires.1 below c.loop-k.invariant in
    let known : c.byte_at-rows.result ≡ sound_count (block_at k source) =
    rows b n k _ _ c.requires.0 c.requires.1 below same c.byte_at-rows.ensures in
    let few : c.push_cells-total.result < 30 =
    omega (arith, c.push_cells-total.ensures.few, w.few, known, sound_le (block_at k source)) in
    let fits : block_length * c.loop-k.put + block_length ≤ length b =
    omega (arith, w.room, inside b n k c.requires.0 c.requires.1 below) in
    omega (arith, fits, few)

pub overflow_step-k : goal.overflow_step-k
overflow_step-k c = omega (
  arith,
  inside c.args.buffer.now c.args.blocks c.loop-k.k c.requires.0 c.requires.1
      c.loop-k-test.true,
)

pub loop-k-smaller : goal.loop-k-smaller
loop-k-smaller c = omega (arith, c.loop-k-test.true)

pub shape_of-buffer : goal.shape_of-buffer
shape_of-buffer c = begun_length c.loop-k.invariant.walking.begun

pub shape_of-pending : goal.shape_of-pending
shape_of-pending c = omega (arith, c.loop-k.invariant.walking.long, c.requires.2)
