-- The claims on `collect`. proofs/Printed.antt proves the first.
use Rattle.std.specs.Prelude.{◌≡◌, ℕ, List}
use Rattle.text_lines.specs.Reading.{line_limit}
use Rattle.text_program.specs.Chunks.{joined}
use Rattle.text_program.specs.Lines.{output_of}
use Rattle.text_program.specs.Collect.{Phase, starting, collect}
use Rattle.text_program.specs.Claims.{pieces_text}
use Rattle.text_collect.specs.Session.{Receiver, model_collector}
use Rattle.text_collect.specs.Printed.{printed_of}
use Rattle.text_collect.specs.Rows.{row_times, row_records, line_ticks}

-- Collect prints (THE CLAIM): for every input, cut into pieces anywhere, the contracts of the program give for the
-- pieces and the end what the reference model says
abbrev pub CollectPrints : Type 0
CollectPrints = (xs : List (List ℕ)) → pieces_text (collect model_collector) line_limit starting xs ≡ printed_of (joined xs)

-- Rows in pieces: however the input is cut into pieces, the times and the records of the rows for an archive, and the
-- count of lines, are those of the whole input.
abbrev pub RowsInPieces : Type 0
RowsInPieces = (s : Phase Receiver) (xs : List (List ℕ))
    → (pieces_text row_times line_limit s xs ≡ output_of row_times s (joined xs))
    × (pieces_text row_records line_limit s xs ≡ output_of row_records s (joined xs))
    × (pieces_text line_ticks line_limit s xs ≡ output_of line_ticks s (joined xs))
