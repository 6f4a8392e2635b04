-- A cut keeps the first rows of an archive: of the whole archive in its buffer, or of one block. The layout is that of
-- document 02, A2.
use Rattle.std.specs.Prelude.{ℕ, cond, not, ◌&&◌, List, ltb, leb, eqb, length, take, replicate}
use Rattle.base_refusal.specs.Number.{number_of}
use Rattle.base_refusal.specs.declared.Refusal.TheVariants.{Argument, Mismatch, Size}
use Rattle.block_layout.specs.Block.{block_length}
use Rattle.archive_model.specs.Row.{rows_block, block_number, row_count, rows_of, is_sound}
use Rattle.archive_model.specs.Buffer.{rows_in, buffer_of}
use Rattle.archive_model.specs.Append.{verdict, Appended, refused_append, stored}

-- ---- an archive

-- the archive cut to its first m rows, in the same buffer. Refused: 16 for a wrong length, 12 for a block that does not
-- match (both as `verdict` says), and 10 if the archive has fewer rows. Then the buffer is unchanged.
unfoldable pub cut_of : ℕ → List ℕ → Appended
cut_of m buffer =
    cond (not (eqb (verdict buffer).number 0))
    (refused_append (verdict buffer).number (verdict buffer).position buffer)
    (cond (ltb (length (rows_in buffer)) m) (refused_append (number_of Argument) 0 buffer)
    (stored (buffer_of (length buffer) (take m (rows_in buffer)))))

-- ---- one block

-- the block cut to its first m rows. For m = 0 it is all zero, like the blocks after the end of an archive.
unfoldable pub first_rows : ℕ → List ℕ → List ℕ
first_rows m block = cond (eqb m 0) (replicate block_length 0) (rows_block (block_number block) (take m (rows_of block)))

-- 0 or the number of a refusal, and every byte of the block after the call
pub record CutBlock : Type 0 where
  pub number : ℕ
  pub block : List ℕ

-- one block cut to its first m rows. Refused: 16 for a wrong length, 12 for a block that isn't sound or has fewer rows;
-- then it is unchanged. (A block of zeros isn't sound.)
unfoldable pub cut_block_of : ℕ → List ℕ → CutBlock
cut_block_of m block =
    cond (not (eqb (length block) block_length)) (record { number = number_of Size; block = block })
    (cond (not (is_sound block && leb m (row_count block))) (record { number = number_of Mismatch; block = block })
    (record { number = 0; block = first_rows m block }))
