-- A walk over the blocks of a piece: its cells go to the packer, and full blocks to the output.
--     kept_block                              the cells that stay of one block
--     Walking, walk_start, walk_turn, walk-end     what is written and what waits: what is left brings it to the whole
--     LeftBlocks, blocks-over, blocks-low, block-is, blocks-more     the blocks that are left; the last turn, and any other
--     Listing, list-start, list-turn, list-end     the positions of the dropped blocks so far
use Prim.Native.Nat.{ℕ, suc, ◌+◌, ◌-◌, ◌*◌, ◌/◌, ◌≤◌, ◌<◌}
use native.Mathlib.Nat.{add-zero}
use native.Mathlib.Numerals.{add-one}
use native.Mathlib.Decide.{dec_lt}
use native.Mathlib.Omega.{arith}
use mathlib.Core.Path.{◌≡◌, refl, sym, ap, ap₂, ◌∙◌}
use mathlib.Core.Bool.{Bool, true, false, cond, not}
use mathlib.Core.List.{List, [], ◌∷◌, ◌++◌, map, flatten, append_assoc, append-nil, map-map}
use lib.ListN.{length, take, drop, set, length-append, length-take, length-drop, drop_of_length-le, take-append-drop}
use lib.Seq.{take_at, drop_at, drop-drop}
use Rattle.std.specs.Int.{from_bool}
use Rattle.base_lists.specs.Lists.{keep, all, up_from}
use Rattle.base_lists.proofs.Choice.{both}
use Rattle.base_lists.proofs.Equal.{equal_eq}
use Rattle.base_lists.proofs.Tests.{by_test, length-keep}
use Rattle.base_lists.proofs.UpFrom.{length-up_from}
use Rattle.base_buffers.specs.Buffer.{part}
use Rattle.block_layout.specs.Cell.{cell_length}
use Rattle.block_layout.specs.Block.{cells_per_block, block_length, block_cell}
use Rattle.base_buffers.proofs.Segments.{Begun, begin, begun_length, lend, lent, named, store}
use Rattle.archive_model.specs.Row.{Row, row_cell, row_in, row_count, rows_of, is_row, is_sound, is_blank}
use Rattle.archive_model.specs.Buffer.{blocks_in}
use Rattle.archive_model.specs.Append.{block_at}
use Rattle.archive_model.proofs.Pieces.{rows-count}
use Rattle.archive_model.proofs.Exact.{sound_some}
use Rattle.archive_file.specs.Archive.{sound_count}
use Rattle.archive_file.specs.Private.{is_written, cells_from}
use Rattle.archive_file.proofs.Scans.{blocks_from, blocks_none, blocks_next, rest_first, sound_le}
use Rattle.archive_file.proofs.Tested.{sound_cells}
use Rattle.archive_repack_model.specs.Repack.{is_listed, others, is_dropped, dropped, fronted}
use Rattle.archive_repack_model.specs.Packer.{Packing, full_length, full_blocks, pushed_blocks, pushed, cells_of, kept_cells, pending_length, packing}
use Rattle.archive_repack_model.proofs.Packing.{few_blocks, one_block, cells-block-length, blocks_append, push_append, push_none}
use Rattle.archive_repack_model.proofs.Pieces.{kept_in, kept_is, kept_next, kept_none}
use Rattle.archive_repack.specs.Private.{are_rows, kept_cell, kept_from, Waits, Flushed, DropListed}

-- ---- the cells of one block

module _ (identities : List ℕ) where
  -- cells that are written of their rows
  kept-written : (cells : List (List ℕ)) → all is_written cells ≡ true
      → flatten (map (kept_cell identities) cells) ≡ cells_of (others identities (map row_in cells))
  unfolding flatten kept_cell
  kept-written [] ok = refl
  kept-written (c ∷ cells) ok =
      let b = both (is_written c) _ ok in
      let same : row_cell (row_in c) ≡ c =
      equal_eq (row_cell (row_in c)) c (rw (both (is_row (row_in c)) _ b.0).1 tt) in
      go (is_listed identities (row_in c)) same (kept-written cells b.1)
    where
      go : (b : Bool) → row_cell (row_in c) ≡ c
          → flatten (map (kept_cell identities) cells) ≡ cells_of (others identities (map row_in cells))
          → cond b [] c ++ flatten (map (kept_cell identities) cells)
          ≡ cells_of (cond (not b) (row_in c ∷ others identities (map row_in cells))
          (others identities (map row_in cells)))
      go true same e = e
      go false same e = ap₂ ◌++◌ (sym same) e

  rows-cells : (b : List ℕ) → map row_in (cells_from b 0 (row_count b)) ≡ rows_of b
  unfolding cells_from rows_of
  rows-cells b = map-map row_in (λ i. block_cell i b) (up_from 0 (row_count b))

  kept_sound : (b : List ℕ) → is_sound b ≡ true → kept_from identities b 0 (row_count b) ≡ kept_in identities (b ∷ [])
  unfolding kept_from kept_in flatten
  kept_sound b s =
      kept-written (cells_from b 0 (row_count b)) (sound_cells b s)
      ∙ ap (λ (l : List Row). cells_of (others identities l)) (rows-cells b ∙ sym (append-nil (rows_of b)))
      ∙ (rw s)

  kept-other : (b : List ℕ) → is_sound b ≡ false → kept_from identities b 0 0 ≡ kept_in identities (b ∷ [])
  unfolding kept_from kept_in flatten cells_from up_from
  kept-other b n = rw n

  pub kept_block : (b : List ℕ) (rows : ℕ) → rows ≡ sound_count b
      → kept_from identities b 0 rows ≡ kept_in identities (b ∷ [])
  kept_block b rows e =
      by_test {X = kept_from identities b 0 rows ≡ kept_in identities (b ∷ [])} (is_sound b)
      (λ t. ap (kept_from identities b 0) (rw t at e) ∙ kept_sound b t)
      (λ n. ap (kept_from identities b 0) (rw n at e) ∙ kept-other b n)

-- and each of them holds a row
written-rows : (cells : List (List ℕ)) → all is_written cells ≡ true → all (λ c. is_row (row_in c)) cells ≡ true
written-rows [] ok = refl
written-rows (c ∷ cells) ok =
    let b = both (is_written c) _ ok in
    rw (both (is_row (row_in c)) _ b.0).0 (written-rows cells b.1)

no_cells : (b : List ℕ) → are_rows b 0 ≡ true
unfolding cells_from up_from
no_cells b = refl

pub block-rows : (b : List ℕ) (rows : ℕ) → rows ≡ sound_count b → are_rows b rows ≡ true
block-rows b rows e =
    by_test {X = are_rows b rows ≡ true} (is_sound b)
    (λ t. ap (are_rows b) (rw t at e) ∙ written-rows (cells_from b 0 (row_count b)) (sound_cells b t))
    (λ n. ap (are_rows b) (rw n at e) ∙ no_cells b)

-- ---- the packer

-- a part that is put back as it was
put_same : (a k : ℕ) (xs : List ℕ) → take a xs ++ (take k (drop a xs) ++ drop k (drop a xs)) ≡ xs
put_same a k xs = ap (λ (x : List ℕ). take a xs ++ x) (take-append-drop k (drop a xs)) ∙ take-append-drop a xs

begun_same : {old front : List ℕ} {a : ℕ} {xs : List ℕ} → Begun old front a xs
    → (b : ℕ) (ys : List ℕ) → a ≡ b → xs ≡ ys → Begun old front b ys
begun_same {old} {front} {a} {xs} w b ys e f =
    record {
      is = sym f ∙ w.is ∙ ap (λ (n : ℕ). front ++ drop n old) e;
      long = w.long ∙ e;
      bound = omega (arith, e, w.bound);
    }

pub record Walking (p : Packing) (identities piece old : List ℕ)
    (most n k put waits : ℕ) (pending out : List ℕ) : Type 0 where
  pub front : List ℕ
  pub begun : Begun old front (block_length * put) out
  pub long : length pending ≡ pending_length
  pub few : waits < cells_per_block
  pub room : cells_per_block * put + waits ≤ most + cells_per_block * k
  pub blocks : front
      ++ pushed_blocks (packing (p.next + put) waits pending) (kept_in identities (blocks_from piece k (n - k)))
      ≡ pushed_blocks p (kept_in identities (blocks_in piece))
  pub left : pushed (packing (p.next + put) waits pending) (kept_in identities (blocks_from piece k (n - k)))
      ≡ pushed p (kept_in identities (blocks_in piece))

module _ (identities piece : List ℕ) where
  pub rest_turn : (n k : ℕ) → k < n
      → kept_in identities (blocks_from piece k (n - k)) ≡ kept_in identities (block_at k piece ∷ [])
      ++ kept_in identities (blocks_from piece (k + 1) (n - (k + 1)))
  unfolding blocks_from up_from
  rest_turn n k h =
      let e : n - k ≡ suc (n - (k + 1)) = omega arith in
      rw (e, add-one)
      (kept_next identities (block_at k piece)
      (map (λ j. part (block_length * j) block_length piece) (up_from (suc k) (n - suc k))))

  pub rest_end : (n k : ℕ) → n ≤ k → kept_in identities (blocks_from piece k (n - k)) ≡ []
  unfolding blocks_from up_from
  rest_end n k h =
      let e : n - k ≡ 0 = omega arith in
      rw e (kept_none identities)

-- one block pushed: the packing after it, and what is put
module _ (next waits total rest : ℕ) (pending pending1 pending2 cells full full2 : List ℕ)
    (l : length pending1 ≡ pending_length) (most : ℕ)
    (few : total < cells_per_block + cells_per_block)
    (w : Waits (take (cell_length * waits) pending) cells pending1 most total)
    (f : Flushed next total pending1 pending2 full full2 rest) where
  abbrev p : Packing
  p = packing next waits pending

  abbrev all_cells : List ℕ
  all_cells = take (cell_length * total) pending1

  cells-long : length all_cells ≡ cell_length * total
  cells-long = length-take (cell_length * total) pending1 ∙ omega arith

  pub step-blocks : pushed_blocks p cells ≡ full_blocks next all_cells
  step-blocks = ap (full_blocks next) (sym w.are)

  pub step-packing : pushed p cells ≡ packing (next + total / cells_per_block) rest pending2
  unfolding pushed
  step-packing =
      let c : length (take (cell_length * waits) pending ++ cells) / full_length ≡ total / cells_per_block =
      ap (λ (x : List ℕ). length x / full_length) (sym w.are) ∙ omega (arith, cells-long) in
      let n : next + length (take (cell_length * waits) pending ++ cells) / full_length
      ≡ next + total / cells_per_block =
      ap (λ (x : ℕ). next + x) c in
      let d : drop (full_length * (length (take (cell_length * waits) pending ++ cells) / full_length))
      (take (cell_length * waits) pending ++ cells)
      ≡ take (cell_length * rest) pending2 =
      ap₂ (λ (x : ℕ) (y : List ℕ). drop (full_length * x) y) c (sym w.are) ∙ sym f.are in
      λ j. record { next = n j; waiting = d j }

  -- nothing is put
  pub put_none : total < cells_per_block → (full2 ≡ full) × (full_blocks next all_cells ≡ [])
  put_none h =
      let none = few_blocks next all_cells (omega (arith, cells-long)) in
      (f.put ∙ ap (λ (x : List ℕ). fronted x full) none, none)

  -- or one block
  pub put_one : cells_per_block ≤ total → length full ≡ block_length → full2 ≡ full_blocks next all_cells
  put_one h e =
      let block = cells_block-length (omega (arith, cells-long)) (omega (arith, cells-long)) in
      let past : length full ≤ length (full_blocks next all_cells) = omega (arith, e, block) in
      f.put ∙ ap (λ (x : List ℕ). full_blocks next all_cells ++ x) (drop_of_length-le full past)
      ∙ append-nil (full_blocks next all_cells)
    where
      cells_block-length : full_length ≤ length all_cells → length all_cells < full_length + full_length
          → length (full_blocks next all_cells) ≡ block_length
      cells_block-length a b =
          ap length (one_block next all_cells a b)
          ∙ cells-block-length next (take full_length all_cells) (omega (arith, length-take full_length all_cells))

module _ (p : Packing) (identities piece old : List ℕ) (most n : ℕ) where
  pub walk_start : (waits : ℕ) (pending : List ℕ)
      → length pending ≡ pending_length → waits < cells_per_block → waits ≤ most
      → n ≡ length piece / block_length
      → p ≡ packing p.next waits pending → Walking p identities piece old most n 0 0 waits pending old
  walk_start waits pending l few room e is =
      let q : packing (p.next + 0) waits pending ≡ p =
      ap (λ (x : ℕ). packing x waits pending) (add-zero p.next) ∙ sym is in
      let all_blocks = ap (kept_in identities) (rest_first piece n e) in
      record {
        front = [];
        begun = begin old;
        long = l;
        few = few;
        room = omega arith;
        blocks = ap₂ pushed_blocks q all_blocks;
        left = ap₂ pushed q all_blocks;
      }

  -- the next block
  module _ (k put waits : ℕ) (pending out : List ℕ)
      (at : Walking p identities piece old most n k put waits pending out) (below : k < n)
      (rows total waits2 : ℕ) (pending1 pending2 full2 : List ℕ) (sound : rows ≡ sound_count (block_at k piece))
      (pushes : Waits (take (cell_length * waits) pending)
      (kept_from identities (block_at k piece) 0 rows) pending1 (waits + rows) total)
      (l1 : length pending1 ≡ pending_length)
      (flushes : Flushed (p.next + put) total pending1 pending2
      (part (block_length * put) (block_length * put + block_length - block_length * put) out) full2 waits2)
      (l2 : length pending2 ≡ pending_length)
      (same : length full2
      ≡ length (part (block_length * put) (block_length * put + block_length - block_length * put) out))
      (fits : block_length * put + block_length ≤ length old) where
    abbrev N : ℕ
    N = p.next + put

    abbrev cells : List ℕ
    cells = kept_in identities (block_at k piece ∷ [])

    abbrev later : List ℕ
    later = kept_in identities (blocks_from piece (k + 1) (n - (k + 1)))

    abbrev q : Packing
    q = packing N waits pending

    abbrev full : List ℕ
    full = part (block_length * put) (block_length * put + block_length - block_length * put) out

    few_total : total ≤ waits + rows
    few_total = pushes.few

    total_few : total < cells_per_block + cells_per_block
    total_few = omega (arith, few_total, at.few, sound_le (block_at k piece), sound)

    next_is : pushed q cells ≡ packing (p.next + (put + total / cells_per_block)) waits2 pending2
    next_is =
        let e : N + total / cells_per_block ≡ p.next + (put + total / cells_per_block) = omega arith in
        ap (pushed q) (sym (kept_block identities (block_at k piece) rows sound))
        ∙ step-packing N waits total waits2 pending pending1 pending2
        (kept_from identities (block_at k piece) 0 rows) full full2 l1
        (waits + rows) total_few pushes flushes
        ∙ ap (λ (x : ℕ). packing x waits2 pending2) e

    put-blocks : List ℕ
    put-blocks = full_blocks N (take (cell_length * total) pending1)

    blocks_are : pushed_blocks q cells ≡ put-blocks
    unfolding put-blocks
    blocks_are =
        ap (pushed_blocks q) (sym (kept_block identities (block_at k piece) rows sound))
        ∙ step-blocks N waits total waits2 pending pending1 pending2
        (kept_from identities (block_at k piece) 0 rows) full full2 l1
        (waits + rows) total_few pushes flushes

    all_blocks : at.front ++ put-blocks
        ++ pushed_blocks (packing (p.next + (put + total / cells_per_block)) waits2 pending2) later
        ≡ pushed_blocks p (kept_in identities (blocks_in piece))
    all_blocks =
        append_assoc at.front put-blocks
        (pushed_blocks (packing (p.next + (put + total / cells_per_block)) waits2 pending2) later)
        ∙ ap (λ (x : List ℕ). at.front ++ x)
        (ap₂ (λ (x : List ℕ) (r : Packing). x ++ pushed_blocks r later) (sym blocks_are) (sym next_is)
        ∙ sym (blocks_append q cells later)
        ∙ ap (pushed_blocks q) (sym (rest_turn identities piece n k below)))
        ∙ at.blocks

    all_left : pushed (packing (p.next + (put + total / cells_per_block)) waits2 pending2) later
        ≡ pushed p (kept_in identities (blocks_in piece))
    all_left = ap (λ (r : Packing). pushed r later) (sym next_is) ∙ sym (push_append q cells later)
        ∙ ap (pushed q) (sym (rest_turn identities piece n k below)) ∙ at.left

    abbrev out2 : List ℕ
    out2 =
        take (block_length * put) out
        ++ (full2 ++ drop (block_length * put + block_length - block_length * put) (drop (block_length * put) out))

    front_after : Begun old (at.front ++ put-blocks) (block_length * (put + total / cells_per_block)) out2
    unfolding put-blocks
    front_after = elim (dec_lt total cells_per_block) [
      | yes h ↦
          (let none =
          put_none N waits total waits2 pending pending1 pending2
          (kept_from identities (block_at k piece) 0 rows) full full2 l1
          (waits + rows) total_few pushes flushes h in
          let z : block_length * put ≡ block_length * (put + total / cells_per_block) = omega arith in
          let out-is : out ≡ out2 = sym (ap (λ (x : List ℕ). take (block_length * put) out
          ++ (x ++ drop (block_length * put + block_length - block_length * put) (drop (block_length * put) out)))
          none.0
          ∙ put_same (block_length * put) (block_length * put + block_length - block_length * put) out) in
          begun_same (named at.begun (at.front ++ full_blocks N (take (cell_length * total) pending1))
          (sym (append-nil at.front)
          ∙ ap (λ (x : List ℕ). at.front ++ x) (sym none.1)))
          (block_length * (put + total / cells_per_block)) out2 z out-is)
      | no h ↦
          (let long : length full ≡ block_length =
          lent at.begun block_length (block_length * put + block_length) refl fits in
          let one =
          put_one N waits total waits2 pending pending1 pending2
          (kept_from identities (block_at k piece) 0 rows) full full2 l1
          (waits + rows) total_few pushes flushes (omega arith) long in
          let z : block_length * put + block_length ≡ block_length * (put + total / cells_per_block) =
          omega (arith, total_few) in
          begun_same (lend at.begun full2 (full_blocks N (take (cell_length * total) pending1))
          (block_length * put + block_length) one same
          (omega arith) fits)
          (block_length * (put + total / cells_per_block)) out2 z refl)
    ]

    pub walk_turn : Walking p identities piece old most n (k + 1) (put + total / cells_per_block) waits2 pending2 out2
    walk_turn = record {
      front = at.front ++ put-blocks;
      begun = front_after;
      long = l2;
      few = omega (arith, flushes.rest);
      room = omega (arith, flushes.rest, at.room, few_total, sound_le (block_at k piece), sound);
      blocks = all_blocks;
      left = all_left;
    }

  -- the end
  module _ (k put waits : ℕ) (pending out : List ℕ)
      (at : Walking p identities piece old most n k put waits pending out) (over : n ≤ k) where
    none_left : kept_in identities (blocks_from piece k (n - k)) ≡ []
    none_left = rest_end identities piece n k over

    abbrev q_end : Packing
    q_end = packing (p.next + put) waits pending

    few_waiting : length (take (cell_length * waits) pending) < full_length
    few_waiting = omega (arith, length-take (cell_length * waits) pending, at.few)

    front_is : at.front ≡ pushed_blocks p (kept_cells identities piece)
    front_is =
        sym (append-nil at.front)
        ∙ ap (λ (x : List ℕ). at.front ++ x)
        (sym (ap (pushed_blocks q_end) none_left ∙ (push_none q_end few_waiting).0))
        ∙ at.blocks
        ∙ ap (pushed_blocks p) (sym (kept_is identities piece))

    pub walk_packed : packing (p.next + put) waits pending ≡ pushed p (kept_cells identities piece)
    walk_packed =
        sym (ap (pushed q_end) none_left ∙ (push_none q_end few_waiting).1)
        ∙ at.left ∙ ap (pushed p) (sym (kept_is identities piece))

    pub walk_long : block_length * p.next + length (pushed_blocks p (kept_cells identities piece))
        ≡ block_length * (p.next + put)
    walk_long = omega (arith, sym (ap length front_is), at.begun.long)

    pub walk_put : out ≡ fronted (pushed_blocks p (kept_cells identities piece)) old
    walk_put =
        at.begun.is
        ∙ ap₂ (λ (x : List ℕ) (a : ℕ). x ++ drop a old) front_is (sym at.begun.long ∙ ap length front_is)

-- ---- a loop over the blocks of a piece

-- what is left from block k on
pub record LeftBlocks (piece : List ℕ) (size : ℕ) (left : List ℕ) (k : ℕ) : Type 0 where
  pub sized : size ≡ block_length
  pub bounded : k ≤ length piece / block_length
  pub are : left ≡ drop (block_length * k) piece

module _ (piece all : List ℕ) (size k : ℕ) (at : LeftBlocks piece size all k) where
  pub blocks_over : length all < size → length piece / block_length ≤ k
  blocks_over h = omega (arith, ap length at.are, length-drop (block_length * k) piece, at.sized)

  module _ (block left : List ℕ) (e : all ≡ block ++ left) (l : length block ≡ size) where
    long : length block ≡ block_length
    long = l ∙ at.sized

    pub blocks_low : k < length piece / block_length
    blocks_low =
        omega (
          arith,
          ap length at.are,
          ap length e,
          length-append block left,
          length-drop (block_length * k) piece,
          long,
          at.bounded,
        )

    pub block_is : block ≡ block_at k piece
    block_is = sym (take_at block left block_length long) ∙ ap (take block_length) (sym e ∙ at.are)

    pub blocks_more : (size' : ℕ) → size' ≡ size → LeftBlocks piece size' left (k + 1)
    blocks_more size' s =
        let more : block_length * k + block_length ≡ block_length * (k + 1) = omega arith in
        record {
          sized = s ∙ at.sized;
          bounded = omega (arith, blocks_low);
          are =
              sym (drop_at block left block_length long) ∙ ap (drop block_length) (sym e ∙ at.are)
              ∙ drop-drop block_length (block_length * k) piece
              ∙ ap (λ (a : ℕ). drop a piece) more;
        }

-- ---- the list of dropped blocks

module _ (b : List ℕ) (rows : ℕ) (e : rows ≡ sound_count b) where
  pub kept-not-dropped : (rows ≡ 0 → ⊥) → is_dropped b ≡ false
  kept-not-dropped n =
      by_test {X = is_dropped b ≡ false} (is_sound b) (λ t. rw t) (λ f. absurd (n (rw f at e)))

  pub dropped_by : rows ≡ 0 → is_dropped b ≡ not (is_blank b)
  dropped_by n =
      by_test {X = is_dropped b ≡ not (is_blank b)} (is_sound b)
      (λ t. absurd (let r : rows ≡ row_count b = rw t at e in omega (arith, r, n, sound_some b t, rows-count b)))
      (λ f. rw f)

pub record Listing (piece old : List ℕ) (n k gone : ℕ) (positions : List ℕ) : Type 0 where
  pub front : List ℕ
  pub begun : Begun old front gone positions
  pub whole : front ++ keep (λ j. is_dropped (block_at j piece)) (up_from k (n - k)) ≡ dropped piece

module _ (piece old : List ℕ) (n : ℕ) where
  pub list_start : n ≡ length piece / block_length → Listing piece old n 0 0 old
  unfolding dropped
  list_start e =
      let z : n - 0 ≡ length piece / block_length = omega arith in
      record {
        front = [];
        begun = begin old;
        whole = ap (λ (x : ℕ). keep (λ j. is_dropped (block_at j piece)) (up_from 0 x)) z;
      }

  module _ (k gone : ℕ) (positions : List ℕ) (at : Listing piece old n k gone positions) where
    -- where the next one is dropped it has room
    split : k < n → (b : Bool) → is_dropped (block_at k piece) ≡ b
        → at.front ++ cond b (k ∷ keep (λ j. is_dropped (block_at j piece)) (up_from (k + 1) (n - (k + 1))))
        (keep (λ j. is_dropped (block_at j piece)) (up_from (k + 1) (n - (k + 1)))) ≡ dropped piece
    unfolding up_from
    split h b e =
        let z : n - k ≡ suc (n - suc k) = omega arith in
        rw (← e, add-one)
        (ap (λ (x : ℕ). at.front ++ keep (λ j. is_dropped (block_at j piece)) (up_from k x)) (sym z) ∙ at.whole)

    pub has_room_lem : k < n → length (dropped piece) ≤ length old
        → is_dropped (block_at k piece) ≡ true → gone < length positions
    has_room_lem h few d =
        let rest = keep (λ j. is_dropped (block_at j piece)) (up_from (k + 1) (n - (k + 1))) in
        omega (
          arith,
          sym (ap length (split h true d)) ∙ length-append at.front (k ∷ rest),
          at.begun.long,
          begun_length at.begun,
          few,
        )

    pub list-turn : k < n → length (dropped piece) ≤ length old → (after : List ℕ) (r : ℕ)
        → DropListed (is_dropped (block_at k piece)) gone k positions after r → Listing piece old n (k + 1) r after
    list-turn h few after r l =
        by_test {X = Listing piece old n (k + 1) r after} (is_dropped (block_at k piece))
        (λ t.
        let rest = keep (λ j. is_dropped (block_at j piece)) (up_from (k + 1) (n - (k + 1))) in
        let room : gone < length old = omega (arith, has_room_lem h few t, begun_length at.begun) in
        let is : after ≡ set positions gone k = rw t at l.list in
        let count : r ≡ gone + 1 = rw t at l.count in
        rw (is, count) (record {
          front = at.front ++ (k ∷ []);
          begun = store at.begun k room;
          whole = append_assoc at.front (k ∷ []) rest
              ∙ split h true t;
        }))
        (λ f.
        let is : after ≡ positions = rw f at l.list in
        let count : r ≡ gone = rw f at l.count in
        rw (is, count) (record { front = at.front; begun = at.begun; whole = split h false f }))

    pub list_end : n ≤ k → (gone ≡ length (dropped piece)) × (positions ≡ fronted (dropped piece) old)
    unfolding up_from
    list_end h =
        let z : n - k ≡ 0 = omega arith in
        let e : at.front ≡ dropped piece = sym (append-nil at.front)
        ∙ ap (λ (x : ℕ). at.front ++ keep (λ j. is_dropped (block_at j piece)) (up_from k x)) (sym z) ∙ at.whole in (
          sym at.begun.long ∙ ap length e,
          at.begun.is ∙ ap₂ (λ (x : List ℕ) (a : ℕ). x ++ drop a old) e (sym at.begun.long ∙ ap length e),
        )

-- ---- how many of the blocks that are left are dropped

abbrev pub dropped_of : List ℕ → ℕ
dropped_of left = length (keep is_dropped (blocks_in left))

pub dropped_none : (left : List ℕ) → length left < block_length → dropped_of left ≡ 0
dropped_none left h = ap (λ (l : List (List ℕ)). length (keep is_dropped l)) (blocks_none left h)

pub dropped_next : (block left : List ℕ) → length block ≡ block_length
    → dropped_of (block ++ left) ≡ from_bool (is_dropped block) + dropped_of left
dropped_next block left h =
    ap (λ (l : List (List ℕ)). length (keep is_dropped l)) (blocks_next block left h) ∙ go (is_dropped block)
  where
    go : (b : Bool) → length (cond b (block ∷ keep is_dropped (blocks_in left)) (keep is_dropped (blocks_in left)))
        ≡ from_bool b + dropped_of left
    go true = omega arith
    go false = omega arith

module _ (buffer : List ℕ) where
  pub dropped_few : length (dropped buffer) ≤ length buffer / block_length
  unfolding dropped
  dropped_few = omega (
    arith,
    length-keep (λ j. is_dropped (block_at j buffer)) (up_from 0 (length buffer / block_length)),
    length-up_from 0 (length buffer / block_length),
  )
