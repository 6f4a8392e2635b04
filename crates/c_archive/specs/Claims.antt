-- What is proved of rows in the layout for other languages.
use Rattle.std.specs.Prelude.{◌≡◌, true}
use Rattle.archive_model.specs.Row.{Row, is_row}
use Rattle.archive_fill.specs.Fill.{row_given}
use Rattle.c_archive.specs.Calls.{row_bytes}

-- Row given again: the record that is written for a row says that row. So `put_rows` accepts what `row_at` wrote.
abbrev pub RowGivenAgain : Type 0
RowGivenAgain = (r : Row) → is_row r ≡ true → row_given r.time (row_bytes r) ≡ r
