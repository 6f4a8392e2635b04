-- What is proved of an archive that is verified in pieces. For pieces that are added to a report, the claim is
-- `PiecesAreWhole` of archive_report_model; for pieces that are packed, `PiecesPacked` of archive_repack_model. The
-- arrays hold the values that those definitions name.
use Rattle.std.specs.Prelude.{ℕ, ◌≡◌, true, cond, eqb}
use mathlib.Core.List.{List, [], ◌∷◌, flatten}
use Rattle.base_lists.specs.Lists.{all}
use Rattle.archive_model.specs.Buffer.{Scan}
use Rattle.archive_model.specs.Append.{open_of, is_scan}
use Rattle.base_numbers.specs.Bytes.{are_bytes}
use Rattle.c_pieces.specs.Scan.{scan_at, scan_numbers, no_blocks, scan_call, scan_end}

-- Scan back: four numbers hold any scan.
abbrev pub ScanBack : Type 0
ScanBack = (s : Scan) → scan_at (scan_numbers s) ≡ s

-- the numbers after the pieces
abbrev pub scan_all : List ℕ → List (List ℕ) → List ℕ
scan_all numbers [] = numbers
scan_all numbers (p ∷ ps) = scan_all (scan_call numbers p).numbers ps

-- the pieces that were answered 0
abbrev pub scanned : List ℕ → List (List ℕ) → List (List ℕ)
scanned numbers [] = []
scanned numbers (p ∷ ps) =
    cond (eqb (scan_call numbers p).number 0) (p ∷ scanned (scan_call numbers p).numbers ps)
    (scanned (scan_call numbers p).numbers ps)

-- Pieces verified: at the end, the pieces that were taken give the answer that they give as one buffer, also with
-- refused pieces among them.
abbrev pub PiecesVerified : Type 0
PiecesVerified =
    (pieces : List (List ℕ)) → scan_end (scan_at (scan_all no_blocks pieces)) ≡ open_of (flatten (scanned no_blocks pieces))

-- Numbers accepted: the numbers that calls leave are accepted by the next call.
abbrev pub NumbersAccepted : Type 0
NumbersAccepted = (pieces : List (List ℕ)) → is_scan (scan_at (scan_all no_blocks pieces)) ≡ true

-- Numbers given: numbers that are accepted are those that some pieces of bytes give.
abbrev pub NumbersGiven : Type 0
NumbersGiven =
    (numbers : List ℕ) → is_scan (scan_at numbers) ≡ true
    → (pieces : List (List ℕ)) × (all are_bytes pieces ≡ true) × (scan_at (scan_all no_blocks pieces) ≡ scan_at numbers)
