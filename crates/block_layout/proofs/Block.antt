-- Blocks: what is read of one that was written, and how one is sealed.
--     block-length, block-crc                    a block has 512 bytes, and the last is the CRC of those before it
--     block-header, block-cell     what is read is what was written
--     seal-not, seal-set, seal-front, seal-written     sealing: refused; in place; after all before it was written; the same, header and cells
use mathlib.Core.Path.{◌≡◌, refl, sym, ap, ◌∙◌}
use mathlib.Core.List.{List, [], ◌∷◌, ◌++◌, append_assoc, flatten}
use Prim.Native.Nat.{ℕ, ◌+◌, ◌-◌, ◌*◌, ◌≤◌, ◌<◌}
use native.Mathlib.Omega.{arith}
use lib.ListN.{length, get_or, take, set, replicate, length-append, drop_of_length-le}
use lib.Seq.{get_or_at, set_split, take_at}
use Rattle.base_crc8.specs.Crc8.{crc_of}
use Rattle.base_lists.specs.Lists.{padded}
use Rattle.base_buffers.specs.Buffer.{part}
use Rattle.block_layout.specs.Cell.{cell_length}
use Rattle.block_layout.specs.Block.{header_length, cells_per_block, body_length, block_length, sealed, seal_block, block_of, block_header, block_cell}
use Rattle.base_buffers.proofs.Segments.{left, right, whole, Each, flatten-length, flatten-part, Begun, begun_length, so_far}
use Rattle.base_buffers.proofs.Buffer.{padded-length, overwritten-fits, overwritten-not}

-- ---- sealing

pub seal_not : (block : List ℕ) → (length block ≡ block_length → ⊥) → seal_block block ≡ block
unfolding seal_block
seal_not block h = overwritten-not block_length (sealed (take body_length block)) block h

seal_fits : (block : List ℕ) → length block ≡ block_length → seal_block block ≡ sealed (take body_length block)
unfolding seal_block
seal_fits block h = overwritten-fits block_length (sealed (take body_length block)) block h

-- the CRC is stored behind what it covers
pub seal_set : (block : List ℕ) → length block ≡ block_length
    → set block body_length (crc_of (take body_length block)) ≡ seal_block block
unfolding sealed
seal_set block h =
    let l : body_length < length block = omega arith in
    let e : length block ≤ block_length = omega arith in
    rw (seal_fits block h, set_split block body_length (crc_of (take body_length block)) l, drop_of_length-le block e)

-- a block that was written up to the CRC
pub seal_front : (front : List ℕ) {orig xs : List ℕ} → Begun orig front body_length xs
    → length orig ≡ block_length → seal_block xs ≡ sealed front
seal_front front {orig} {xs} b l = seal_fits xs (begun_length b ∙ l) ∙ ap sealed (so_far b)

-- the same, its cells in a part of their own
pub seal_written : (header : List ℕ) (cells : List (List ℕ)) {orig xs : List ℕ} → length header ≡ header_length
    → Begun orig (header ++ padded (body_length - header_length) (flatten cells)) body_length xs
    → length orig ≡ block_length → seal_block xs ≡ block_of header cells
unfolding block_of
seal_written header cells {orig} {xs} h b l =
    let e : body_length - header_length - length (flatten cells) ≡ body_length - length (header ++ flatten cells) =
    rw length-append (omega arith) in
    seal_fits xs (begun_length b ∙ l)
    ∙ ap sealed
    (so_far b ∙ sym (append_assoc header (flatten cells) _)
    ∙ ap (λ (n : ℕ). header ++ flatten cells ++ replicate n 0) e)

-- ---- reading

module _ (header : List ℕ) (cells : List (List ℕ)) (h : length header ≡ header_length)
    (each : Each cell_length cells) (few : length cells ≤ cells_per_block) where
  -- what is used, and with the zeros
  abbrev used : List ℕ
  used = header ++ flatten cells

  abbrev body : List ℕ
  body = padded body_length used

  used-length : length used ≡ header_length + cell_length * length cells
  used-length = length-append header (flatten cells) ∙ omega (arith, flatten-length cell_length cells each)

  body_length_lem : length body ≡ body_length
  body_length_lem = padded-length body_length used (omega (arith, used-length))

  pub block-length : length (block_of header cells) ≡ block_length
  unfolding block_of sealed
  block-length = length-append body (crc_of body ∷ []) ∙ omega (arith, body_length_lem)

  pub block-crc : get_or (block_of header cells) body_length 0 ≡ crc_of (take body_length (block_of header cells))
  unfolding block_of sealed
  block-crc =
      get_or_at body (crc_of body) [] 0 body_length body_length_lem
      ∙ ap crc_of (sym (take_at body (crc_of body ∷ []) body_length body_length_lem))

  in_body : (a n : ℕ) → a + n ≤ body_length → part a n (block_of header cells) ≡ part a n body
  unfolding block_of sealed
  in_body a n k = left body (crc_of body ∷ []) body_length a n body_length_lem k

  in_used : (a n : ℕ) → a + n ≤ length used → part a n (block_of header cells) ≡ part a n used
  in_used a n k =
      in_body a n (omega (arith, used-length))
      ∙ left used (replicate (body_length - length used) 0) (length used) a n refl k

  pub block-header : block_header (block_of header cells) ≡ header
  block-header =
      in_used 0 header_length (omega (arith, used-length))
      ∙ left header (flatten cells) header_length 0 header_length h (omega arith)
      ∙ whole header header_length h

  pub block_cell_lem : (i : ℕ) → i < length cells → block_cell i (block_of header cells) ≡ get_or cells i []
  block_cell_lem i l =
      in_used (header_length + cell_length * i) cell_length (omega (arith, used-length))
      ∙ right header (flatten cells) header_length (cell_length * i) cell_length h
      ∙ flatten-part cell_length cells each i l
