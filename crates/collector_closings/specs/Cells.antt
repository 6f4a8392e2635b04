-- What a reception closes, as bytes: for each telegram that is no longer open the 32 bytes of an entry (document 01,
-- "Parked collector"), with its number of copies (document 02, A8).
use Rattle.std.specs.Prelude.{ℕ, ◌-◌, Bool, cond, not, ◌&&◌, leb, ltb}
use mathlib.Core.List.{List, [], map, flatten}
use Rattle.radio_erp1.specs.Subtelegram.{is_valid}
use Rattle.block_layout.specs.Cell.{cell_of}
use Rattle.collector_model.specs.View.{Entry, View, Reception, maturity}
use Rattle.collector_model.specs.Step.{max_count, step}
use Rattle.collector_model.specs.Image.{entry_cell}
use Rattle.history_rows.specs.Closings.{closed_from}

-- telegrams, 32 bytes each
unfoldable pub entry_cells : List Entry → List ℕ
entry_cells l = flatten (map entry_cell l)

-- the telegrams that a reception closes, in opening order
unfoldable pub closed_cells : View → Reception → List ℕ
closed_cells v r = entry_cells (closed_from v r (step v r).answer)

-- ---- for the contracts of private functions

-- a telegram that was opened at `opened` is no longer open at `time`
abbrev pub is_past : (opened time : ℕ) → Bool
is_past opened time = not (leb (time - opened) maturity)

-- its 32 bytes if it is no longer open, else none
abbrev pub past_cell : (opened : ℕ) (bytes : List ℕ) (copies time : ℕ) → List ℕ
past_cell opened bytes copies time = cond (is_past opened time) (cell_of opened bytes copies) []

-- whether a reception is KEPT, COPY or LOOSE: the tests of a step that come before, where the caller says whether the
-- state is acceptable
abbrev pub is_taken : (fit : Bool) (received latest : ℕ) (bytes : List ℕ) (time : ℕ) → Bool
is_taken fit received latest bytes time =
    fit && (not (leb max_count received) && (not (ltb time latest) && is_valid bytes))
