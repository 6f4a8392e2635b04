-- Calls with pieces one after the other are the whole.
--     full-long, dropped-pieces     how long the blocks are that are written; the dropped blocks of two pieces
--     pack-cases, finish-done       the answers: a refusal that leaves all as it was, or a piece that is packed; the end
--     Reached                       what holds after every call
--     pieces-packed                 the claim
use Prim.Native.Nat.{ℕ, zero, suc, ◌+◌, ◌-◌, ◌*◌, ◌/◌, ◌%◌, ◌≤◌, ◌<◌}
use native.Mathlib.Nat.{zero-add, add-zero}
use native.Mathlib.Omega.{arith}
use mathlib.Core.Path.{◌≡◌, refl, sym, ap, ap₂, ◌∙◌}
use mathlib.Core.Bool.{Bool, true, false, not, ◌&&◌, ◌||◌}
use mathlib.Core.List.{List, [], ◌∷◌, ◌++◌, map, flatten, append-nil}
use lib.Dec.{ltb, eqb}
use lib.ListN.{length, take, drop, length-append, length-take, length-drop}
use lib.Seq.{take_at}
use borrow.Author.Tests.{eq-eqb, ne_eqb, eqb-true, lt-ltb, ltb-true, le-ltb, le-leb, leb-true}
use Rattle.base_lists.specs.Lists.{padded, keep, up_from}
use Rattle.base_lists.proofs.Choice.{both}
use Rattle.base_lists.proofs.Tests.{by_test, and-true, length-keep}
use Rattle.base_lists.proofs.Keep.{keep_append, keep-map}
use Rattle.base_lists.proofs.UpFrom.{up_from_add, map_shift}
use Rattle.base_refusal.specs.Number.{number_of}
use Rattle.base_refusal.specs.declared.Refusal.{Refusal}
use Rattle.base_refusal.specs.declared.Refusal.TheVariants.{ShortOutput, Argument, Size}
use Rattle.base_refusal.proofs.Numbers.{refused-number}
use Rattle.base_buffers.specs.Buffer.{part}
use Rattle.base_buffers.proofs.Buffer.{padded-length}
use Rattle.base_buffers.proofs.Segments.{left, right}
use Rattle.block_layout.specs.Cell.{cell_length}
use Rattle.block_layout.specs.Block.{cells_per_block, block_length}
use Rattle.archive_model.specs.Row.{Row}
use Rattle.archive_model.specs.Buffer.{max_rows, blocks_in}
use Rattle.archive_model.specs.Append.{block_at}
use Rattle.archive_repack_model.specs.Repack.{sound_rows, is_dropped, dropped, fronted, max_identities, is_listed, others}
use Rattle.archive_repack_model.specs.Packer.{Packing, start_packing, full_length, cells_block, full_blocks, pushed_blocks, pushed, waiting_block, kept_cells, pending_length, packing, has_blocks, is_packing, Packed, kept_as, packed_as, pack_of, finish_of, PackCall, PackRun, start_pack_run, ran, pack_all}
use Rattle.archive_repack_model.specs.Claims.{PiecesPacked}
use Rattle.archive_repack_model.proofs.Rows.{map-id, sound_rows-fit, sound_rows_few}
use Rattle.archive_repack_model.proofs.Packing.{push_waits, blocks_append, push_append, cells-block-length, cells-length, push_none}
use Rattle.archive_repack_model.proofs.Removal.{fits-keep}
use Rattle.archive_repack_model.proofs.Pieces.{kept_is, kept_none, kept_pieces, packed-archive, held}

-- ---- how long

blocks-long : (k a n : ℕ) (cells : List ℕ)
    → length (flatten (map (λ j. cells_block (k + j) (part (full_length * j) full_length cells)) (up_from a n)))
    ≡ block_length * n
unfolding flatten up_from
blocks-long k a zero cells = refl
blocks-long k a (suc n) cells =
    let here = part (full_length * a) full_length cells in
    let few : length here ≤ full_length = omega (arith, length-take full_length (drop (full_length * a) cells)) in
    length-append (cells_block (k + a) here) _
    ∙ omega (arith, cells-block-length (k + a) here few, blocks-long k (suc a) n cells)

full_long : (k : ℕ) (cells : List ℕ) → length (full_blocks k cells) ≡ block_length * (length cells / full_length)
unfolding full_blocks
full_long k cells = blocks-long k 0 (length cells / full_length) cells

-- the blocks that are written are as many as the number rises
pushed_long : (p : Packing) (cells : List ℕ)
    → block_length * ((pushed p cells).next - p.next) ≡ length (pushed_blocks p cells)
unfolding pushed
pushed_long p cells = omega (arith, full_long p.next (p.waiting ++ cells))

-- the cells that stay of a piece
module _ (identities piece : List ℕ) where
  abbrev stay : List Row
  stay = others identities (sound_rows piece)

  cells-long : length (kept_cells identities piece) ≡ cell_length * length stay
  unfolding kept_cells
  cells-long = cells-length stay (fits-keep (λ r. not (is_listed identities r)) (sound_rows piece)
      (sound_rows-fit piece))

  stay_few : length stay ≤ cells_per_block * (length piece / block_length)
  stay_few = omega (arith, length-keep (λ r. not (is_listed identities r)) (sound_rows piece), sound_rows_few piece)

-- ---- the dropped blocks of two pieces

keep_same : (p q : ℕ → Bool) (a n : ℕ) → ((k : ℕ) → a ≤ k → k < a + n → p k ≡ q k)
    → keep p (up_from a n) ≡ keep q (up_from a n)
unfolding up_from
keep_same p q a zero h = refl
keep_same p q a (suc n) h =
    rw (h a (omega arith) (omega arith), keep_same p q (suc a) n (λ k l m. h k (omega arith) (omega arith)))

module _ (xs ys : List ℕ) (e : length xs % block_length ≡ 0) where
  abbrev n : ℕ
  n = length xs / block_length

  abbrev m : ℕ
  m = length ys / block_length

  abbrev at : ℕ → Bool
  at k = is_dropped (block_at k (xs ++ ys))

  first : keep at (up_from 0 n) ≡ dropped xs
  unfolding dropped
  first =
      keep_same at (λ k. is_dropped (block_at k xs)) 0 n
      (λ k l h. ap is_dropped (left xs ys (length xs) (block_length * k) block_length refl (omega arith)))

  later : (j : ℕ) → at (n + j) ≡ is_dropped (block_at j ys)
  later j =
      let d : block_length * (n + j) ≡ length xs + block_length * j = omega arith in
      ap is_dropped
      (ap (λ (a : ℕ). part a block_length (xs ++ ys)) d
      ∙ right xs ys (length xs) (block_length * j) block_length refl)

  second : keep at (up_from (n + 0) m) ≡ map (λ k. n + k) (dropped ys)
  unfolding dropped
  second =
      ap (keep at) (sym (map-id (up_from (n + 0) m)) ∙ map_shift (λ (i : ℕ). i) n 0 m)
      ∙ keep-map at (λ k. n + k) (up_from 0 m)
      ∙ ap (map (λ k. n + k)) (keep_same (λ k. at (n + k)) (λ k. is_dropped (block_at k ys)) 0 m (λ k l h. later k))

  dropped_pieces : dropped (xs ++ ys) ≡ dropped xs ++ map (λ k. n + k) (dropped ys)
  unfolding dropped
  dropped_pieces =
      let count : length (xs ++ ys) / block_length ≡ n + m = omega (arith, length-append xs ys) in
      ap (λ (c : ℕ). keep at (up_from 0 c)) count
      ∙ ap (keep at) (up_from_add 0 n m ∙ ap (λ (c : ℕ). up_from 0 n ++ up_from c m) (zero-add n ∙ sym (add-zero n)))
      ∙ keep_append at (up_from 0 n) (up_from (n + 0) m) ∙ ap₂ ◌++◌ first second

-- ---- the answers

module _ (next used : ℕ) (pending : List ℕ) (p : is_packing next used pending ≡ true) where
  module _ (piece identities output positions : List ℕ) where
    abbrev answer : Packed
    answer = pack_of next used pending piece identities output positions

    abbrev cells : List ℕ
    cells = kept_cells identities piece

    abbrev packed : Packed
    packed =
        packed_as (length (dropped piece)) (pushed (packing next used pending) cells)
        (fronted (pushed_blocks (packing next used pending) cells) output)
        (fronted (dropped piece) positions)

    -- a piece that is taken
    record Took : Type 0 where
      even : length piece % block_length ≡ 0
      near : cells_per_block * (next + length piece / block_length) + used ≤ max_rows
      is : answer ≡ packed

    data Answered : Type 0 where
      took : Took → Answered
      refused : (why : Refusal) → answer ≡ kept_as (number_of why) next used pending output positions → Answered

    abbrev fits : Bool
    fits = eqb (length piece % block_length) 0 && has_blocks (next + length piece / block_length) used

    abbrev short : Bool
    short = ltb (length output) (length piece) || ltb (length positions) (length (dropped piece))

    answered : Answered
    unfolding pack_of
    answered = go fits (ltb max_identities (length identities)) short refl refl refl
      where
        go : (f m s : Bool) → fits ≡ f → ltb max_identities (length identities) ≡ m → short ≡ s → Answered
        go false m s a b c = refused Size (rw (p, a))
        go true true s a b c = refused Argument (rw (p, a, b))
        go true false true a b c = refused ShortOutput (rw (p, a, b, c))
        go true false false a b c =
            let w = both (eqb (length piece % block_length) 0) _ a in
            took (record {
              even = eqb-true (length piece % block_length) 0 w.0;
              near = leb-true (cells_per_block * (next + length piece / block_length) + used) max_rows w.1;
              is = rw (p, a, b, c);
            })

  last_few : length (waiting_block (packing next used pending)) ≤ block_length
  unfolding waiting_block is_packing
  last_few =
      let waits = (packing next used pending).waiting in
      let low =
      ltb-true used cells_per_block
      (both (ltb used cells_per_block) _ (both (eqb (length pending) pending_length) _ p).1).0 in
      let few : length waits ≤ full_length = omega (arith, length-take (cell_length * used) pending, low) in
      by_test {X = length (waiting_block (packing next used pending)) ≤ block_length}
      (eqb (length waits) 0) (λ t. rw t (omega arith))
      (λ f. rw f (omega (arith, cells-block-length next waits few)))

  -- the end
  finish_done : (output : List ℕ) → block_length ≤ length output
      → ((finish_of next used pending output).number ≡ 0)
      × (take (finish_of next used pending output).length (finish_of next used pending output).output
      ≡ waiting_block (packing next used pending))
  unfolding finish_of
  finish_done output h =
      let last = waiting_block (packing next used pending) in
      let fits : length last ≤ length output = omega (arith, last_few) in
      let s = le-ltb (length output) (length last) fits in
      (rw (p, s), rw (p, s) (take_at last (drop (length last) output) (length last) refl))

-- ---- after every call

record Reached (identities : List ℕ) (r : PackRun) : Type 0 where
  whole : length r.taken % block_length ≡ 0
  lawful : is_packing r.next r.used r.pending ≡ true
  packer : packing r.next r.used r.pending ≡ pushed start_packing (kept_cells identities r.taken)
  written : r.written ≡ pushed_blocks start_packing (kept_cells identities r.taken)
  positions : r.dropped ≡ dropped r.taken

-- a refusal leaves the run as it was
run-refused : (r : PackRun) (piece output positions : List ℕ) (why : Refusal)
    → ran r piece (kept_as (number_of why) r.next r.used r.pending output positions) ≡ r
run-refused r piece output positions why =
    rw (
      ne_eqb (number_of why) 0 (refused-number why),
      append-nil r.written,
      append-nil r.dropped,
      append-nil r.taken,
    )

module _ (identities : List ℕ) (r : PackRun) (reached : Reached identities r) where
  abbrev P : Packing
  P = packing r.next r.used r.pending

  abbrev K : List ℕ
  K = kept_cells identities r.taken

  lawful_facts : (length r.pending ≡ pending_length)
      × (r.used < cells_per_block) × (cells_per_block * r.next + r.used ≤ max_rows)
  unfolding is_packing
  lawful_facts =
      let a = both (eqb (length r.pending) pending_length) _ reached.lawful in
      let b = both (ltb r.used cells_per_block) _ a.1 in (
        eqb-true (length r.pending) pending_length a.0,
        ltb-true r.used cells_per_block b.0,
        leb-true (cells_per_block * r.next + r.used) max_rows b.1,
      )

  waits-long : length P.waiting ≡ cell_length * r.used
  waits-long = omega (arith, length-take (cell_length * r.used) r.pending, lawful_facts)

  -- a block number for each row
  rows_few : length (stay identities r.taken) ≤ max_rows
  unfolding pushed
  rows_few =
      let e = reached.packer in
      omega (
        arith,
        waits-long,
        ap (λ (q : Packing). q.next) e,
        ap (λ (q : Packing). length q.waiting) e,
        length-drop (full_length * (length K / full_length)) K,
        cells-long identities r.taken,
        lawful_facts,
      )

  module _ (c : PackCall)
      (t : Took r.next r.used r.pending reached.lawful
      c.piece identities c.output c.positions) where
    abbrev C : List ℕ
    C = kept_cells identities c.piece

    abbrev Q : Packing
    Q = pushed P C

    abbrev after : PackRun
    after =
        ran r c.piece
        (packed r.next r.used r.pending reached.lawful c.piece identities c.output c.positions)

    -- the rows that were packed, and those that wait
    counted : cell_length * (cells_per_block * Q.next) + length Q.waiting
        ≡ cell_length * (cells_per_block * r.next + r.used) + length C
    unfolding pushed
    counted =
        omega (
          arith,
          waits-long,
          length-append P.waiting C,
          length-drop (full_length * (length (P.waiting ++ C) / full_length)) (P.waiting ++ C),
        )

    used_now : cell_length * (length Q.waiting / cell_length) ≡ length Q.waiting
    used_now = omega (arith, counted, cells-long identities c.piece)

    few : length Q.waiting < full_length
    few = push_waits P C

    lawful_next : is_packing after.next after.used after.pending ≡ true
    unfolding is_packing
    lawful_next =
        let long : length (padded pending_length Q.waiting) ≡ pending_length =
        padded-length pending_length Q.waiting (omega (arith, few)) in
        let used : length Q.waiting / cell_length < cells_per_block = omega (arith, few) in
        let rows : cells_per_block * Q.next + length Q.waiting / cell_length ≤ max_rows =
        omega (arith, counted, used_now, cells-long identities c.piece, stay_few identities c.piece, t.near) in
        and-true (eq-eqb (length (padded pending_length Q.waiting)) pending_length long)
        (and-true (lt-ltb (length Q.waiting / cell_length) cells_per_block used)
        (le-leb (cells_per_block * Q.next + length Q.waiting / cell_length) max_rows rows))

    cells_now : kept_cells identities (r.taken ++ c.piece) ≡ K ++ C
    cells_now = kept_pieces identities r.taken c.piece reached.whole

    reached_next : Reached identities after
    reached_next = record {
      whole = omega (arith, length-append r.taken c.piece, reached.whole, t.even);
      lawful = lawful_next;
      packer =
          held 0 Q [] [] (omega (arith, used_now)) ∙ ap (λ (q : Packing). pushed q C) reached.packer
          ∙ sym (push_append start_packing K C)
          ∙ ap (pushed start_packing) (sym cells_now);
      written =
          ap₂ ◌++◌ reached.written
          (ap (λ (n : ℕ). take n (fronted (pushed_blocks P C) c.output)) (pushed_long P C)
          ∙ take_at (pushed_blocks P C) (drop (length (pushed_blocks P C)) c.output) (length (pushed_blocks P C)) refl
          ∙ ap (λ (q : Packing). pushed_blocks q C) reached.packer)
          ∙ sym (blocks_append start_packing K C) ∙ ap (pushed_blocks start_packing) (sym cells_now);
      positions =
          ap₂ (λ (d l : List ℕ). d ++ map (λ k. length r.taken / block_length + k) l) reached.positions
          (take_at (dropped c.piece) (drop (length (dropped c.piece)) c.positions)
          (length (dropped c.piece)) refl)
          ∙ sym (dropped_pieces r.taken c.piece reached.whole);
    }

-- ---- the claim

-- one call more
reached_call : (identities : List ℕ) (c : PackCall) (r : PackRun) → Reached identities r
    → Reached identities
    (ran r c.piece (pack_of r.next r.used r.pending c.piece identities c.output c.positions))
reached_call identities c r h =
    go (answered r.next r.used r.pending h.lawful c.piece identities c.output c.positions)
  where
    go : Answered r.next r.used r.pending h.lawful c.piece identities c.output c.positions
        → Reached identities
        (ran r c.piece
        (pack_of r.next r.used r.pending c.piece identities c.output c.positions))
    go (took t) = rw t.is (reached_next identities r h c t)
    go (refused why e) = rw (e, run-refused r c.piece c.output c.positions why) h

reached_all : (identities : List ℕ) (calls : List PackCall) (r : PackRun)
    → Reached identities r → Reached identities (pack_all identities r calls)
reached_all identities [] r h = h
reached_all identities (c ∷ cs) r h = reached_all identities cs _ (reached_call identities c r h)

reached_start : (identities pending : List ℕ) → length pending ≡ pending_length
    → Reached identities (start_pack_run pending)
unfolding is_packing dropped up_from blocks_in
reached_start identities pending h =
    let none : kept_cells identities [] ≡ [] = kept_is identities [] ∙ kept_none identities in
    let start = push_none start_packing (omega arith) in
    record {
      whole = refl;
      lawful = and-true (eq-eqb (length pending) pending_length h) refl;
      packer = sym (ap (pushed start_packing) none ∙ start.1);
      written = sym (ap (pushed_blocks start_packing) none ∙ start.0);
      positions = refl;
    }

pub pieces_packed : PiecesPacked
pieces_packed identities pending output calls h fits =
    let r = pack_all identities (start_pack_run pending) calls in
    let g = reached_all identities calls (start_pack_run pending) (reached_start identities pending h) in
    let e = finish_done r.next r.used r.pending g.lawful output fits in
    record {
      ended = e.0;
      blocks =
          ap₂ ◌++◌ g.written (e.1 ∙ ap waiting_block g.packer) ∙ packed-archive identities r.taken;
      few = rows_few identities r g;
      positions = g.positions;
    }
