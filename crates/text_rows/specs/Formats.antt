-- The rows of a run in three formats (docs/FORMATS.md, "Text of mooringeye"): as `collect` prints them,
-- comma-separated, and as JSON with an object on each line.
use Rattle.std.specs.Prelude.{ℕ, ◌+◌, ◌*◌, List, [], ◌∷◌, ◌++◌, Option, Some, None}
use Rattle.text_rows.specs.Codes.{codes}
use Rattle.text_rows.specs.Text.{hex_text, row_behind, bad_text, named_total}
use Rattle.text_rows.specs.declared.Row.{Row}
use Rattle.text_rows.specs.declared.formats.Format.{Format}
use Rattle.text_rows.specs.declared.formats.Source.{Source}

-- bytes in hexadecimal after a name
abbrev pub hex_after : List ℕ → List ℕ → List ℕ
hex_after name bytes = name ++ hex_text bytes

-- where a telegram came from: its TXID, its RORG and its level, each after its name
unfoldable pub source_after : (txid rorg level : List ℕ) → Source → List ℕ
source_after txid rorg level s = hex_after txid s.txid ++ hex_after rorg (s.rorg ∷ []) ++ named_total level s.level

-- ---- comma-separated: a value that is not present is empty

unfoldable pub csv_answer : Row → List ℕ
csv_answer Row.Kept = codes ",KEPT,"
csv_answer Row.Copy = codes ",COPY,"
csv_answer Row.Loose = codes ",LOOSE,"
csv_answer (Row.Refused n) = named_total (codes ",REFUSED,") n

unfoldable pub csv_source : Option Source → List ℕ
csv_source (Some s) = source_after (codes ",") (codes ",") (codes ",") s
csv_source None = codes ",,,"

-- time, answer, refusal, telegram, send, txid, rorg, level
unfoldable pub csv_row : (time : List ℕ) → Row → (heard sent : List ℕ) → Option Source → List ℕ
csv_row time row heard sent source =
    time ++ csv_answer row ++ hex_after (codes ",") heard ++ hex_after (codes ",") sent ++ csv_source source ++ codes "\n"

-- ---- JSON: a value that is not present is left out

unfoldable pub json_answer : Row → List ℕ
json_answer Row.Kept = codes ",\"answer\":\"KEPT\""
json_answer Row.Copy = codes ",\"answer\":\"COPY\""
json_answer Row.Loose = codes ",\"answer\":\"LOOSE\""
json_answer (Row.Refused n) = named_total (codes ",\"answer\":\"REFUSED\",\"refusal\":") n

-- the closing quote of the text before, and what is sent
unfoldable pub json_send : List ℕ → List ℕ
json_send [] = codes "\""
json_send (b ∷ bs) = hex_after (codes "\",\"send\":\"") (b ∷ bs) ++ codes "\""

unfoldable pub json_source : Option Source → List ℕ
json_source (Some s) = source_after (codes ",\"txid\":\"") (codes "\",\"rorg\":\"") (codes "\",\"level\":") s
json_source None = []

-- a row as a JSON object
unfoldable pub json_row : (time : List ℕ) → Row → (heard sent : List ℕ) → Option Source → List ℕ
json_row time row heard sent source =
    codes "{\"time\":" ++ time ++ json_answer row ++ hex_after (codes ",\"telegram\":\"") heard ++ json_send sent
    ++ json_source source ++ codes "}\n"

-- ---- in a format

-- the row of a reception, with the text of its time, its answer, what was received, what is sent for it, and where it
-- came from, if that is known
unfoldable pub row_text_in : Format → (time : List ℕ) → Row → (heard sent : List ℕ) → Option Source → List ℕ
row_text_in Format.Text time row heard sent source = row_behind time row sent
row_text_in Format.Csv time row heard sent source = csv_row time row heard sent source
row_text_in Format.Json time row heard sent source = json_row time row heard sent source

-- the row of a line that is BAD
unfoldable pub bad_in : Format → List ℕ
bad_in Format.Text = bad_text
bad_in Format.Csv = codes ",BAD,,,,,,\n"
bad_in Format.Json = codes "{\"answer\":\"BAD\"}\n"

-- the heading before the rows
unfoldable pub heading_in : Format → List ℕ
heading_in Format.Text = []
heading_in Format.Csv = codes "time,answer,refusal,telegram,send,txid,rorg,level\n"
heading_in Format.Json = []

-- ---- how long they are

-- a row with a time of k characters, n bytes received and m to send is at most this long. In JSON it has 143 characters
-- more, if its two numbers have 20 digits.
abbrev pub longest_row_in : ℕ → ℕ → ℕ → ℕ
longest_row_in k n m = k + 143 + 2 * (n + m)

abbrev pub longest_bad_in : ℕ
longest_bad_in = 17

abbrev pub longest_heading : ℕ
longest_heading = 50
