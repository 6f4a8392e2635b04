-- What is proved of the state file.
use Rattle.std.specs.Prelude.{ℕ, ◌+◌, ◌^◌, ◌≤◌, ◌≡◌, true, List, ltb, length, take}
use Rattle.base_lists.specs.Lists.{all}
use Rattle.block_layout.specs.Block.{block_length}
use Rattle.collector_model.specs.Image.{image_length}
use Rattle.archive_model.specs.Buffer.{max_blocks}
use Rattle.journal_model.specs.Disk.{State, counted, used_blocks}
use Rattle.journal_model.specs.Claims.{IsCopied}
use Rattle.journal_state.specs.State.{Kept, lines, began, had, name_length, number_count, max_name, max_tail, version_of, state_bytes, read_state}
use Rattle.journal_state.specs.Lawful.{image_rows, is_lawful_state, accepts_state}

-- lists of the right lengths, and fourteen numbers of 64 bits
pub record IsKept (k : Kept) : Type 0 where
  pub count : length k.numbers ≡ number_count
  pub fit : all (λ n. ltb n (2 ^ 64)) k.numbers ≡ true
  pub name : length k.name ≡ max_name
  pub last : length k.last ≡ block_length
  pub image : length k.image ≡ image_length
  pub tail : length k.tail ≡ max_tail

-- State read: the bytes that are written for a lawful state are accepted, and read back as that state.
abbrev pub StateRead : Type 0
StateRead =
    (k : Kept) → IsKept k → is_lawful_state k ≡ true
    → (read_state (state_bytes k 2) ≡ k) × (accepts_state (state_bytes k 2) ≡ true)

-- State written: a file that is accepted has a lawful state, and is what is written for it, in its version.
abbrev pub StateWritten : Type 0
StateWritten =
    (bytes : List ℕ) → accepts_state bytes ≡ true
    → (is_lawful_state (read_state bytes) ≡ true)
    × (take (length bytes) (state_bytes (read_state bytes) (version_of (length bytes))) ≡ bytes)

-- the state in the model of the disk, if the archive is one file and the collector began with it
abbrev pub state_of : Kept → State
state_of k = record { lines = lines k; limit = max_blocks; had = had k; last = k.last; image = k.image }

-- what the model needs of a state before a start: the number of rows that it counts, a copy of the last block as the
-- tool writes it, and room for the rows in a file
pub record IsModelled (k : Kept) : Type 0 where
  pub rows : counted (state_of k) ≡ had k + image_rows k.image
  pub copied : IsCopied (state_of k)
  pub room : used_blocks (state_of k) ≤ max_blocks

-- State modelled: this holds for a lawful state whose archive is one file with which the collector began.
abbrev pub StateModelled : Type 0
StateModelled =
    (k : Kept) → length k.last ≡ block_length → is_lawful_state k ≡ true → (name_length k ≡ 0 → ⊥) → began k ≡ 0
    → IsModelled k
