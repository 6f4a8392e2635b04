-- The results of the calls on a report, as the model names them (document 02, A12).
use Rattle.std.specs.Prelude.{ℕ, cond, List, eqb, Result, Ok, Err}
use Rattle.std.specs.Result.{result_unwrap_or}
use Rattle.base_refusal.specs.Number.{number_of}
use Rattle.base_refusal.specs.declared.Refusal.TheVariants.{Mismatch}
use Rattle.archive_file.specs.Archive.{scan_of}
use Rattle.archive_report_model.specs.Report as model
use Rattle.archive_report_model.specs.Pieces as pieces
use Rattle.archive_report.specs.declared.Report.{Report}
use Rattle.archive_report.specs.declared.Adding.{Adding}
use Rattle.archive_report.specs.declared.Line.{Line}
use Rattle.archive_report.specs.Lines.{lines_at, with_lines}
use Rattle.archive_file.specs.declared.ArchiveError.{ArchiveError}
use Rattle.base_refusal.specs.declared.Refusal.{Refusal}

-- ---- a report: its lines are the first `count` of the array

abbrev pub report_of : Report → model.Report
report_of s = record { archives = s.archives; lines = lines_at s.lines s.count; kept = s.kept; loose = s.loose }

-- ---- results: the number, the position that goes with 12, and what else is returned

abbrev pub archive_outcome_number : Result Report ArchiveError → ℕ
archive_outcome_number (Ok next) = 0
archive_outcome_number (Err (ArchiveError.Damaged k)) = number_of Mismatch
archive_outcome_number (Err (ArchiveError.Refused why)) = number_of why

abbrev pub archive_outcome_position : Result Report ArchiveError → ℕ
archive_outcome_position (Ok next) = 0
archive_outcome_position (Err (ArchiveError.Damaged k)) = k
archive_outcome_position (Err (ArchiveError.Refused why)) = 0

abbrev pub added_result : Report → Result Report ArchiveError → model.Addition
added_result old r =
    model.addition (archive_outcome_number r) (archive_outcome_position r) (report_of (result_unwrap_or r old))

abbrev pub share_result : Result ℕ Refusal → model.Share
share_result (Ok t) = record { number = 0; thousandths = t }
share_result (Err why) = record { number = number_of why; thousandths = 0 }

abbrev pub line_shown : Line → model.Line
line_shown a = record {
  identity = a.identity;
  kept = a.kept;
  loose = a.loose;
  earliest = a.earliest;
  latest = a.latest;
}

abbrev pub line_result : Result Line Refusal → model.LineAnswer
line_result (Ok a) = record { number = 0; line = line_shown a }
line_result (Err why) = record { number = number_of why; line = model.no_line }

-- ---- an archive in pieces

abbrev pub adding_of : Adding → pieces.Adding
adding_of a = record {
  report = report_of a.before;
  tally = record {
    lines = lines_at a.lines a.count;
    kept = a.kept;
    loose = a.loose;
    over = a.over;
    scan = scan_of a.scan;
  };
}

abbrev pub add_piece_result : Adding → Result Adding Refusal → pieces.PieceAdded
add_piece_result old (Ok next) = pieces.piece_answer 0 (adding_of next)
add_piece_result old (Err why) = pieces.piece_answer (number_of why) (adding_of old)

-- ---- every number of the array of lines: the lines, and after them what was there before; all unchanged with a
-- refusal

abbrev pub lines_added : model.Addition → List ℕ → List ℕ
lines_added a old = cond (eqb a.number 0) (with_lines a.next.lines old) old

abbrev pub lines_fed : pieces.PieceAdded → List ℕ → List ℕ
lines_fed a old = cond (eqb a.number 0) (with_lines a.next.tally.lines old) old

-- when an archive has ended, the array of the report gets the lines that were added to
abbrev pub lines_ended : model.Addition → List ℕ → List ℕ → List ℕ
lines_ended a new old = cond (eqb a.number 0) new old
