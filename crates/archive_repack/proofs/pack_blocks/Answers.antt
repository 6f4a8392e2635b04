-- `archive_repack::pack_blocks` meets its contract.
use mathlib.Core.Path.{◌≡◌, refl, sym, ap, ◌∙◌}
use mathlib.Core.List.{List}
use Prim.Native.Nat.{ℕ, ◌/◌}
use native.Mathlib.Omega.{arith}
use lib.ListN.{length}
use Rattle.block_layout.specs.Block.{block_length}
use Rattle.base_buffers.proofs.Segments.{begun_length, within, lent}
use Rattle.archive_file.specs.Archive.{sound_count}
use Rattle.archive_file.proofs.Scans.{sound_le}
use Rattle.archive_repack_model.specs.Repack.{is_dropped}
use Rattle.archive_repack_model.specs.Packer.{Packing, packing}
use Rattle.archive_repack.proofs.Walks.{Walking, Listing, blocks_over, blocks_low, block_is, blocks_more, walk_start, walk_turn, walk_packed, walk_put, walk_long, list_start, has_room_lem, list-turn, list_end, block-rows}
use Rattle.archive_repack.proofs.pack_blocks.Invariants.{Packed}
use Rattle.archive_repack.proofs.pack_blocks.Goals as goal

start : (p : Packing) (identities piece out positions : List ℕ) (used size : ℕ) (left pending : List ℕ) (k : ℕ)
    → size ≡ block_length → k ≡ 0 → left ≡ piece
    → Walking p identities piece out used (length piece / block_length) 0 0 used pending out
    → Listing piece positions (length piece / block_length) 0 0 positions
    → Packed p identities piece out positions used size left pending out positions used 0 0 k
start p identities piece out positions used size left pending k s z e walking listing =
    rw z (record {
      at = record { sized = s; bounded = omega arith; are = e };
      walking = walking;
      listing = listing;
    })

pub loop-k-init : goal.loop-k-init
loop-k-init c =
    let a = c.args in
    start (packing a.next a.used a.pending.now) a.identities.now a.piece.now a.out.now a.positions.now a.used _ _
    a.pending.now _ (cc) (cc) (cc)
    (walk_start (packing a.next a.used a.pending.now)
    a.identities.now a.piece.now a.out.now a.used _ a.used
    a.pending.now c.requires.0 c.requires.1 (omega arith) refl refl)
    (list_start a.piece.now a.positions.now _ refl)

pub list_block-gone-requires : goal.list_block-gone-requires
list_block-gone-requires c =
    let a = c.args in
    let b = c.in-Some.ensures.steps.0.1 in
    let t = c.loop-k.invariant in
    let k = c.loop-k.k-iterator.count in (
      c.sound-rows.ensures,
      λ d. has_room_lem a.piece.now a.positions.now _ k
          c.loop-k.gone c.loop-k.positions t.listing (blocks_low a.piece.now _ _ k t.at c.in-Some.block.now _ b.0 b.1)
          c.requires.4
          (ap is_dropped (sym (block_is a.piece.now _ _ k t.at c.in-Some.block.now _ b.0 b.1)) ∙ d),
    )

pub push_cells-total-requires : goal.push_cells-total-requires
push_cells-total-requires c =
    let t = c.loop-k.invariant in (
      t.walking.long,
      t.walking.few,
      c.in-Some.ensures.steps.0.1.1 ∙ t.at.sized,
      omega (arith, c.sound-rows.ensures, sound_le c.in-Some.block.now),
      block-rows _ c.sound-rows.result c.sound-rows.ensures,
    )

pub flush-waits-requires : goal.flush-waits-requires
flush-waits-requires c =
    let a = c.args in
    let b = c.in-Some.ensures.steps.0.1 in
    let t = c.loop-k.invariant in
    let low = blocks_low a.piece.now _ _ c.loop-k.k-iterator.count t.at c.in-Some.block.now _ b.0 b.1 in (
      c.push_cells-total.auto.pending ∙ t.walking.long,
      omega (
        arith,
        c.push_cells-total.ensures.few,
        t.walking.few,
        c.sound-rows.ensures,
        sound_le c.in-Some.block.now,
      ),
      lent t.walking.begun block_length _ refl (omega (arith, t.walking.room, low, c.requires.3)),
    )

pub loop-k-preserved : goal.loop-k-preserved
loop-k-preserved c =
    let a = c.args in
    let piece = a.piece.now in
    let steps = c.in-Some.ensures.steps in
    let b = steps.0.1 in
    let t = c.loop-k.invariant in
    let k = c.loop-k.k-iterator.count in
    let block = c.in-Some.block.now in
    let low = blocks_low piece _ _ k t.at block _ b.0 b.1 in
    let is = block_is piece _ _ k t.at block _ b.0 b.1 in
    let pushed = rw is at c.push_cells-total.ensures in
    let listed = rw (steps.1, is) at c.list_block-gone.ensures in
    rw steps.2 (record {
      at = blocks_more piece _ _ k t.at block _ b.0 b.1 _ steps.0.0;
      walking =
          walk_turn (packing a.next a.used a.pending.now)
          a.identities.now piece a.out.now a.used _ k c.loop-k.put
          c.loop-k.waits c.loop-k.pending c.loop-k.out t.walking
          low c.sound-rows.result c.push_cells-total.result
          c.flush-waits.result _ _ _ (c.sound-rows.ensures ∙ ap sound_count is)
          pushed
          (c.push_cells-total.auto.pending ∙ t.walking.long)
          c.flush-waits.ensures (c.flush-waits.auto.pending ∙ c.push_cells-total.auto.pending
          ∙ t.walking.long)
          c.flush-waits.auto.full
          (omega (arith, t.walking.room, low, c.requires.3));
      listing =
          list-turn piece a.positions.now _ k c.loop-k.gone
          c.loop-k.positions t.listing low c.requires.4 _ _ listed;
    })

pub returns : goal.returns
returns c =
    let a = c.args in
    let p = packing a.next a.used a.pending.now in
    let t = c.loop-k.invariant in
    let k = c.loop-k.k-iterator.count in
    let over = blocks_over a.piece.now _ _ k t.at c.in-None.ensures.steps.0.1.0 in record {
      walked = record {
        waits = t.walking.few;
        packed =
            walk_packed p a.identities.now a.piece.now a.out.now
            a.used _ k c.loop-k.put c.loop-k.waits
            c.loop-k.pending c.loop-k.out t.walking over;
        put =
            walk_put p a.identities.now a.piece.now a.out.now
            a.used _ k c.loop-k.put c.loop-k.waits
            c.loop-k.pending c.loop-k.out t.walking over;
        long =
            walk_long p a.identities.now a.piece.now a.out.now
            a.used _ k c.loop-k.put c.loop-k.waits
            c.loop-k.pending c.loop-k.out t.walking over;
      };
      dropped_value =
          list_end a.piece.now a.positions.now _ k c.loop-k.gone
          c.loop-k.positions t.listing over;
    }

pub overflow_add-next : goal.overflow_add-next
overflow_add-next c =
    let t = c.loop-k.invariant in
    omega (arith, t.walking.room, t.at.bounded, c.requires.2)

pub overflow_mul-put : goal.overflow_mul-put
overflow_mul-put c =
    let b = c.in-Some.ensures.steps.0.1 in
    let t = c.loop-k.invariant in
    omega (
      arith,
      t.walking.room,
      blocks_low c.args.piece.now _ _ c.loop-k.k-iterator.count t.at c.in-Some.block.now _ b.0 b.1,
      c.requires.3,
    )

pub overflow_mul-put-in-loop-k : goal.overflow_mul-put-in-loop-k
overflow_mul-put-in-loop-k c =
    let b = c.in-Some.ensures.steps.0.1 in
    let t = c.loop-k.invariant in
    omega (
      arith,
      t.walking.room,
      blocks_low c.args.piece.now _ _ c.loop-k.k-iterator.count t.at c.in-Some.block.now _ b.0 b.1,
      c.requires.3,
    )

pub overflow_add-put : goal.overflow_add-put
overflow_add-put c =
    let b = c.in-Some.ensures.steps.0.1 in
    let t = c.loop-k.invariant in
    omega (
      arith,
      t.walking.room,
      blocks_low c.args.piece.now _ _ c.loop-k.k-iterator.count t.at c.in-Some.block.now _ b.0 b.1,
      c.requires.3,
    )

pub slice_bounds-flush-count : goal.slice_bounds-flush-count
slice_bounds-flush-count c = omega arith

pub slice_bounds-flush-start : goal.slice_bounds-flush-start
slice_bounds-flush-start c = omega arith

pub slice_bounds-flush-end : goal.slice_bounds-flush-end
slice_bounds-flush-end c =
    let b = c.in-Some.ensures.steps.0.1 in
    let t = c.loop-k.invariant in
    let low = blocks_low c.args.piece.now _ _ c.loop-k.k-iterator.count t.at c.in-Some.block.now _ b.0 b.1 in
    within t.walking.begun _ (omega (arith, t.walking.room, low, c.requires.3))

pub overflow_add-put-in-loop-k : goal.overflow_add-put-in-loop-k
overflow_add-put-in-loop-k c =
    let t = c.loop-k.invariant in
    omega (
      arith,
      t.walking.room,
      t.at.bounded,
      c.push_cells-total.ensures.few,
      t.walking.few,
      c.sound-rows.ensures,
      sound_le c.in-Some.block.now,
      c.requires.2,
    )

pub overflow_add-result : goal.overflow_add-result
overflow_add-result c =
    let t = c.loop-k.invariant in
    omega (arith, t.walking.room, t.at.bounded, c.requires.2)

pub shape_of-pending : goal.shape_of-pending
shape_of-pending c = omega (arith, c.loop-k.invariant.walking.long, c.requires.0)

pub shape_of-out : goal.shape_of-out
shape_of-out c = begun_length c.loop-k.invariant.walking.begun

pub shape_of-positions : goal.shape_of-positions
shape_of-positions c = begun_length c.loop-k.invariant.listing.begun
