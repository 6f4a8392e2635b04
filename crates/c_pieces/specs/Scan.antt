-- A scan of an archive's blocks in four numbers, and what the calls write into them.
use Rattle.std.specs.Prelude.{ℕ, cond, not, List, [], ◌∷◌, eqb, get_or}
use Rattle.base_refusal.specs.Number.{number_of}
use Rattle.base_refusal.specs.declared.Refusal.TheVariants.{NotAccepted}
use Rattle.archive_model.specs.Buffer.{Stage, Filling, Short, Ended, Wrong, Scan, stage_found}
use Rattle.archive_model.specs.Append.{Opening, is_scan, Feeding, feed_of}
use Rattle.archive_file.specs.Archive.{open_found}

-- ---- the numbers: how many blocks, how many rows, the stage, and the position of the block that does not match

-- any stage number but 0, 1 and 2 means that a block does not match
unfoldable pub stage_at : ℕ → ℕ → Stage
stage_at stage position =
    cond (eqb stage 0) Filling (cond (eqb stage 1) Short (cond (eqb stage 2) Ended (Wrong position)))

-- the number of a stage
abbrev pub stage_number : Stage → ℕ
stage_number Filling = 0
stage_number Short = 1
stage_number Ended = 2
stage_number (Wrong k) = 3

-- the position of the block that does not match; 0 if there is none
abbrev pub stage_position : Stage → ℕ
stage_position Filling = 0
stage_position Short = 0
stage_position Ended = 0
stage_position (Wrong k) = k

-- the scan in four numbers
abbrev pub scan_at : List ℕ → Scan
scan_at numbers = record {
  blocks = get_or numbers 0 0;
  rows = get_or numbers 1 0;
  stage = stage_at (get_or numbers 2 0) (get_or numbers 3 0);
}

-- the four numbers of a scan
abbrev pub scan_numbers : Scan → List ℕ
scan_numbers s = s.blocks ∷ s.rows ∷ stage_number s.stage ∷ stage_position s.stage ∷ []

-- the numbers before the first piece
abbrev pub no_blocks : List ℕ
no_blocks = 0 ∷ 0 ∷ 0 ∷ 0 ∷ []

-- ---- the calls

-- the number, and every lent number after the call
pub record ScanCall : Type 0 where
  pub number : ℕ
  pub numbers : List ℕ

-- with a refusal every number is unchanged; with 0 a stage always has the same two numbers
abbrev pub scan_shown : List ℕ → Feeding → ScanCall
scan_shown numbers f = record {
  number = f.number;
  numbers = cond (eqb f.number 0) (scan_numbers f.next) numbers;
}

-- a piece: 11 or 16 as `feed_of` says
abbrev pub scan_call : List ℕ → List ℕ → ScanCall
scan_call numbers piece = scan_shown numbers (feed_of (scan_at numbers) piece)

-- after the last piece: 11; then 12 with the position, or the number of rows
unfoldable pub scan_end : Scan → Opening
scan_end s =
    cond (not (is_scan s)) (record { number = number_of NotAccepted; position = 0; rows = 0 })
    (open_found (stage_found s.stage) s.rows)
