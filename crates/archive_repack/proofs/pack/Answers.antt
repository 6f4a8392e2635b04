-- `archive_repack::pack` meets its contract: each refusal is one case, and else the walk gives the answer, and what stands behind the cells is cleared.
use mathlib.Core.Path.{◌≡◌, sym, ap, ◌∙◌}
use Prim.Native.Nat.{◌*◌, ◌/◌, ◌≤◌}
use native.Mathlib.Omega.{arith}
use borrow.Author.Tests.{leb-true}
use lib.ListN.{length, length-take}
use Rattle.base_lists.specs.Lists.{padded}
use Rattle.block_layout.specs.Cell.{cell_length}
use Rattle.base_buffers.proofs.Segments.{Writing, packed, begun_length, wipe, done}
use Rattle.archive_repack_model.specs.Packer.{pending_length, Packing, packing, pushed, kept_cells}
use Rattle.archive_repack.proofs.Closing.{before}
use Rattle.archive_repack.proofs.Packs.{packing_facts, pack_no, pack_odd, pack_far, pack_identities, pack_short, pack_list, pack_done}
use Rattle.archive_repack.proofs.pack.Goals as goal

pub returns-then-not-is_packing : goal.returns-then-not-is_packing
returns-then-not-is_packing c =
    let a = c.args in
    pack_no a.next a.used a.pending.now a.piece.now
    a.identities.now a.out.now a.positions.now
    (sym c.is_packing.ensures ∙ c.if-not-is_packing.true)

pub returns-then-piece-ne0 : goal.returns-then-piece-ne0
returns-then-piece-ne0 c =
    let a = c.args in
    pack_odd a.next a.used a.pending.now a.piece.now
    a.identities.now a.out.now a.positions.now
    (sym c.is_packing.ensures ∙ c.if-not-is_packing.false) c.if-piece-ne0.true

pub returns-then-next-piece-gt-MAX_ROWS : goal.returns-then-next-piece-gt-MAX_ROWS
returns-then-next-piece-gt-MAX_ROWS c =
    let a = c.args in
    pack_far a.next a.used a.pending.now a.piece.now
    a.identities.now a.out.now a.positions.now
    (sym c.is_packing.ensures ∙ c.if-not-is_packing.false) c.if-piece-ne0.false c.if-next-piece-gt-MAX_ROWS.true

pub returns-then-identities-gt-MAX_IDENTITIES : goal.returns-then-identities-gt-MAX_IDENTITIES
returns-then-identities-gt-MAX_IDENTITIES c =
    let a = c.args in
    pack_identities a.next a.used a.pending.now a.piece.now
    a.identities.now a.out.now a.positions.now
    (sym c.is_packing.ensures ∙ c.if-not-is_packing.false) c.if-piece-ne0.false
    (omega arith) c.if-identities-gt-MAX_IDENTITIES.true

pub returns-then-out-piece : goal.returns-then-out-piece
returns-then-out-piece c =
    let a = c.args in
    pack_short a.next a.used a.pending.now a.piece.now
    a.identities.now a.out.now a.positions.now
    (sym c.is_packing.ensures ∙ c.if-not-is_packing.false) c.if-piece-ne0.false (omega arith) (omega arith)
    c.if-out-piece.true

pub returns-then-not-is_listable : goal.returns-then-not-is_listable
returns-then-not-is_listable c =
    let a = c.args in
    pack_list a.next a.used a.pending.now a.piece.now
    a.identities.now a.out.now a.positions.now
    (sym c.is_packing.ensures ∙ c.if-not-is_packing.false) c.if-piece-ne0.false
    (omega arith) (omega arith) (omega arith)
    (sym c.is_listable.ensures ∙ c.if-not-is_listable.true)

pub pack_blocks-end-requires : goal.pack_blocks-end-requires
pack_blocks-end-requires c =
    let f = packing_facts _ _ _ (sym c.is_packing.ensures ∙ c.if-not-is_packing.false) in
    (f.0, f.1, omega arith, omega arith, leb-true _ _ (sym c.is_listable.ensures ∙ c.if-not-is_listable.false))

pub returns : goal.returns
returns c =
    let a = c.args in
    let long : length c.pack_blocks-end.new.pending ≡ pending_length =
    c.pack_blocks-end.auto.pending ∙ (packing_facts _ _ _ (sym c.is_packing.ensures ∙ c.if-not-is_packing.false)).0 in
    let few : cell_length * c.pack_blocks-end.result.used ≤ pending_length =
    omega (arith, c.pack_blocks-end.ensures.walked.waits) in
    let wiped : Writing pending_length =
    packed
    (wipe (before c.pack_blocks-end.new.pending (cell_length * c.pack_blocks-end.result.used)
    (omega (arith, few, long)))
    _ pending_length c.clear.ensures c.clear.auto.out few (omega (arith, long))) in
    let v = c.pack_blocks-end.ensures.walked in
    let l = c.pack_blocks-end.ensures.dropped_value in
    let n = c.pack_blocks-end.result.used in
    let u : n
    ≡ length (pushed (packing a.next a.used a.pending.now)
    (kept_cells a.identities.now a.piece.now)).waiting
    / cell_length =
    omega (
      arith,
      ap (λ (p : Packing). length p.waiting) v.packed,
      length-take (cell_length * n) c.pack_blocks-end.new.pending,
      long,
      few,
    ) in
    let z =
    done wiped.begun long ∙ ap (λ (p : Packing). padded pending_length p.waiting) v.packed in
    (λ j.
    record {
      number = 0;
      count = l.0 j;
      used = u j;
      next = (v.packed j).next;
      pending = z j;
      output = v.put j;
      positions = l.1 j;
    })
    ∙ pack_done a.next a.used a.pending.now a.piece.now
    a.identities.now a.out.now a.positions.now
    (sym c.is_packing.ensures ∙ c.if-not-is_packing.false)
    c.if-piece-ne0.false (omega arith) (omega arith)
    (omega arith) (leb-true _ _ (sym c.is_listable.ensures ∙ c.if-not-is_listable.false))

pub overflow_add-next : goal.overflow_add-next
overflow_add-next c = omega (arith, packing_facts _ _ _ (sym c.is_packing.ensures ∙ c.if-not-is_packing.false))

pub overflow_mul-next : goal.overflow_mul-next
overflow_mul-next c = omega (arith, packing_facts _ _ _ (sym c.is_packing.ensures ∙ c.if-not-is_packing.false))

pub overflow_add-next-2 : goal.overflow_add-next-2
overflow_add-next-2 c = omega (arith, packing_facts _ _ _ (sym c.is_packing.ensures ∙ c.if-not-is_packing.false))

pub slice_bounds-clear-end : goal.slice_bounds-clear-end
slice_bounds-clear-end c =
    let long : length c.pack_blocks-end.new.pending ≡ pending_length =
    c.pack_blocks-end.auto.pending ∙ (packing_facts _ _ _ (sym c.is_packing.ensures ∙ c.if-not-is_packing.false)).0 in
    omega (arith, long)

pub shape_of-pending : goal.shape_of-pending
shape_of-pending c =
    let long : length c.pack_blocks-end.new.pending ≡ pending_length =
    c.pack_blocks-end.auto.pending ∙ (packing_facts _ _ _ (sym c.is_packing.ensures ∙ c.if-not-is_packing.false)).0 in
    let few : cell_length * c.pack_blocks-end.result.used ≤ pending_length =
    omega (arith, c.pack_blocks-end.ensures.walked.waits) in
    let wiped : Writing pending_length =
    packed
    (wipe (before c.pack_blocks-end.new.pending (cell_length * c.pack_blocks-end.result.used)
    (omega (arith, few, long)))
    _ pending_length c.clear.ensures c.clear.auto.out few (omega (arith, long))) in
    begun_length wiped.begun ∙ c.pack_blocks-end.auto.pending
