-- What the contracts of private functions say. No public contract cites these.
use Rattle.std.specs.Prelude.{ℕ, ◌≡◌, List, [], ◌∷◌, ◌++◌, length}
use Rattle.base_lists.specs.Lists.{padded}
use Rattle.block_layout.specs.Block.{body_length, block_length, sealed}
use Rattle.collector_model.specs.Image.{image_length}
use Rattle.journal_state.specs.State.{Kept, max_name, max_tail, mark, archive_field, log_field, out_field}

-- lists of the right lengths
pub record Sized (k : Kept) : Type 0 where
  pub name : length k.name ≡ max_name
  pub last : length k.last ≡ block_length
  pub image : length k.image ≡ image_length
  pub tail : length k.tail ≡ max_tail

-- the first block, with a CRC of the log's bytes
unfoldable pub header_with : Kept → ℕ → ℕ → List ℕ
header_with k version crc =
    sealed (padded body_length (mark version ++ archive_field k ++ log_field k ++ out_field k ++ (crc ∷ [])))
