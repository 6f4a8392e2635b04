-- A whole start, on the bytes of a state file and of an archive of one file. Its result is that of the model of the
-- disk.
use Rattle.std.specs.Prelude.{ℕ, ◌*◌, Bool, cond, not, ◌&&◌, List, [], ◌++◌, eqb, ltb, length, drop}
use Rattle.base_refusal.specs.Number.{number_of}
use Rattle.base_refusal.specs.declared.Refusal.TheVariants.{Argument, Mismatch, Size}
use Rattle.block_layout.specs.Block.{block_length}
use Rattle.archive_model.specs.Buffer.{max_blocks}
use Rattle.journal_model.specs.Disk.{State, Disk, whole_blocks, leftovers, is_foreign, started}
use Rattle.journal_state.specs.State.{Kept, began, name_length, read_state}
use Rattle.journal_state.specs.Calls.{accept_of}
use Rattle.journal_state.specs.Claims.{state_of}

-- the number, every byte of the archive, and the number of leftovers, after the call
pub record Start : Type 0 where
  pub number : ℕ
  pub archive : List ℕ
  pub left : ℕ

-- the state has an archive, and the collector began with its file, so `state_of` gives a state of the model
abbrev pub is_one_file : Kept → Bool
is_one_file k = not (eqb (name_length k) 0) && eqb (began k) 0

-- the model's disk, with nothing put aside
abbrev pub disk_of : State → List ℕ → Disk
disk_of s archive = record { state = s; archive = archive; aside = [] }

-- a file whose whole blocks are replaced; the bytes after the last whole block are unchanged
abbrev pub with_whole : List ℕ → List ℕ → List ℕ
with_whole new file = new ++ drop (block_length * whole_blocks file) file

-- the model's start: 12 if it refuses the disk
unfoldable pub settled_of : State → List ℕ → ℕ → Start
settled_of s file left =
    let d = disk_of s file in
    cond (is_foreign d) (record { number = number_of Mismatch; archive = file; left = left }) (record {
      number = 0;
      archive = with_whole (started d).archive file;
      left = length (leftovers d);
    })

-- the number that `accept` answers, whatever was lent to it
abbrev pub accept_number : List ℕ → ℕ
accept_number bytes = (accept_of (read_state bytes) bytes).number

-- 16 for an archive of more than 2^32 blocks; the number of `accept`; 10 for a state without such an archive; 12
unfoldable pub start_result : List ℕ → List ℕ → ℕ → Start
start_result bytes file left =
    let refused : ℕ → Start = λ n. record { number = n; archive = file; left = left } in
    cond (ltb max_blocks (whole_blocks file)) (refused (number_of Size))
    (cond (not (eqb (accept_number bytes) 0)) (refused (accept_number bytes))
    (cond (not (is_one_file (read_state bytes))) (refused (number_of Argument))
    (settled_of (state_of (read_state bytes)) file left)))
