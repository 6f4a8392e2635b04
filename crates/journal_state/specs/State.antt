-- The bytes of the tool's state file (docs/FORMATS.md, "State file of mooringeye collect").
use Rattle.std.specs.Prelude.{ℕ, cond, List, [], ◌∷◌, ◌++◌, eqb, get_or, drop}
use Rattle.base_lists.specs.Lists.{padded}
use Rattle.base_crc8.specs.Crc8.{crc_of}
use Rattle.base_buffers.specs.Buffer.{part, resized}
use Rattle.block_layout.specs.BigEndian.{be, unbe}
use Rattle.block_layout.specs.Block.{body_length, block_length, sealed}
use Rattle.collector_model.specs.Image.{image_length}

-- what a state file keeps: fourteen numbers; the archive's name, filled with zeros; a copy of its block with the last
-- row; the collector's image; the last bytes of the log, filled with zeros
pub record Kept : Type 0 where
  pub numbers : List ℕ
  pub name : List ℕ
  pub last : List ℕ
  pub image : List ℕ
  pub tail : List ℕ

abbrev pub kept : List ℕ → List ℕ → List ℕ → List ℕ → List ℕ → Kept
kept numbers name last image tail = record { numbers = numbers; name = name; last = last; image = image; tail = tail }

-- ---- the numbers

module _ (k : Kept) where
  abbrev pub nth : ℕ → ℕ
  nth i = get_or k.numbers i 0

  -- how many lines of the log were taken
  abbrev pub lines : ℕ
  lines = nth 0

  -- how many rows the collector had counted when the archive's file began, how many rows the file had then, and the
  -- number of the file
  abbrev pub began : ℕ
  began = nth 1

  abbrev pub had : ℕ
  had = nth 2

  abbrev pub file_number : ℕ
  file_number = nth 3

  abbrev pub name_length : ℕ
  name_length = nth 4

  -- 1 if the position in the log is known: its offset, device and inode, and how many of the bytes before the offset
  -- are kept
  abbrev pub logged : ℕ
  logged = nth 5

  abbrev pub offset : ℕ
  offset = nth 6

  abbrev pub tail_length : ℕ
  tail_length = nth 9

  -- 1 if rows are also written to a file: its length, device and inode
  abbrev pub printed : ℕ
  printed = nth 10

-- ---- lengths

abbrev pub number_count : ℕ
number_count = 14

abbrev pub max_name : ℕ
max_name = 255

abbrev pub max_tail : ℕ
max_tail = 512

-- a file of version 1 ends with the image
abbrev pub old_length : ℕ
old_length = 3584

abbrev pub state_length : ℕ
state_length = 4096

-- the version of a file, by its length
abbrev pub version_of : ℕ → ℕ
version_of n = cond (eqb n old_length) 1 2

-- ---- writing

-- "MOORING" and the version
abbrev pub mark : ℕ → List ℕ
mark version = 77 ∷ 79 ∷ 79 ∷ 82 ∷ 73 ∷ 78 ∷ 71 ∷ version ∷ []

module _ (k : Kept) where
  -- bytes 8 to 295
  unfoldable pub archive_field : List ℕ
  archive_field = be 8 (nth k 0) ++ be 8 (nth k 1) ++ be 8 (nth k 2) ++ be 8 (nth k 3) ++ be 1 (nth k 4) ++ k.name

  -- bytes 296 to 322
  unfoldable pub log_field : List ℕ
  log_field = be 1 (nth k 5) ++ be 8 (nth k 6) ++ be 8 (nth k 7) ++ be 8 (nth k 8) ++ be 2 (nth k 9)

  -- bytes 323 to 347
  unfoldable pub out_field : List ℕ
  out_field = be 1 (nth k 10) ++ be 8 (nth k 11) ++ be 8 (nth k 12) ++ be 8 (nth k 13)

  -- the first block
  unfoldable pub state_header : (version : ℕ) → List ℕ
  state_header version =
      sealed (padded body_length (mark version ++ archive_field ++ log_field ++ out_field ++ (crc_of k.tail ∷ [])))

  -- all eight blocks
  unfoldable pub state_bytes : (version : ℕ) → List ℕ
  state_bytes version = state_header version ++ k.last ++ k.image ++ k.tail

-- ---- reading

-- the fourteen numbers in a file
abbrev pub numbers_in : List ℕ → List ℕ
numbers_in bytes =
    unbe (part 8 8 bytes)
    ∷ unbe (part 16 8 bytes)
    ∷ unbe (part 24 8 bytes)
    ∷ unbe (part 32 8 bytes)
    ∷ get_or bytes 40 0
    ∷ get_or bytes 296 0
    ∷ unbe (part 297 8 bytes)
    ∷ unbe (part 305 8 bytes)
    ∷ unbe (part 313 8 bytes)
    ∷ unbe (part 321 2 bytes)
    ∷ get_or bytes 323 0
    ∷ unbe (part 324 8 bytes)
    ∷ unbe (part 332 8 bytes)
    ∷ unbe (part 340 8 bytes)
    ∷ []

-- the state in a file, lawful or not
abbrev pub read_state : List ℕ → Kept
read_state bytes =
    kept (numbers_in bytes) (part 41 max_name bytes) (part block_length block_length bytes) (part 1024 image_length bytes)
    (resized max_tail (drop old_length bytes))
