-- What is proved of reports (document 02, A12).
use Rattle.std.specs.Prelude.{ℕ, ◌+◌, ◌*◌, ◌≤◌, ◌<◌, ◌≡◌, Bool, true, cond, ◌&&◌, ltb, leb, eqb, length}
use mathlib.Core.List.{List, [], ◌∷◌, map, flatten, Memᴰ, Permᴰ}
use Rattle.base_lists.specs.Lists.{keep, any, all}
use Rattle.archive_model.specs.Row.{Row}
use Rattle.archive_model.specs.Buffer.{rows_in}
use Rattle.archive_model.specs.Identity.{identity_of}
use Rattle.archive_report_model.specs.Report.{Line, Report, empty_report, kept_in, loose_in, is_rising, is_report, add_of, share_of}
use Rattle.archive_report_model.specs.Pieces.{Adding, start_adding, is_adding, add_piece_of, ended_of}
use Rattle.base_numbers.specs.Bytes.{are_bytes}

-- ---- archives that are added one after another

-- the report after them
abbrev pub add_all : Report → List (List ℕ) → Report
add_all s [] = s
add_all s (b ∷ bs) = add_all (add_of s b).next bs

-- the archives that were answered 0
abbrev pub archives_accepted : Report → List (List ℕ) → List (List ℕ)
archives_accepted s [] = []
archives_accepted s (b ∷ bs) =
    cond (eqb (add_of s b).number 0) (b ∷ archives_accepted (add_of s b).next bs) (archives_accepted (add_of s b).next bs)

-- "where none is refused"
abbrev pub none_refused : Report → List (List ℕ) → Bool
none_refused s [] = true
none_refused s (b ∷ bs) = eqb (add_of s b).number 0 && none_refused (add_of s b).next bs

-- "the rows of all archives taken"
unfoldable pub rows_of_all : List (List ℕ) → List Row
rows_of_all buffers = flatten (map rows_in buffers)

-- ---- the sums

-- the rows of one transmitter
abbrev pub rows_of_transmitter : ℕ → List Row → List Row
rows_of_transmitter identity rows = keep (λ r. eqb (identity_of r) identity) rows

-- t is one of the times, and none is less; or none is greater
abbrev pub is_least : ℕ → List Row → Bool
is_least t rows = any (λ r. eqb r.time t) rows && all (λ r. leb t r.time) rows

abbrev pub is_greatest : ℕ → List Row → Bool
is_greatest t rows = any (λ r. eqb r.time t) rows && all (λ r. leb r.time t) rows

-- the numbers of a line are those of these rows
pub record SumsUp (rows : List Row) (a : Line) : Type 0 where
  pub kept : a.kept ≡ kept_in rows
  pub loose : a.loose ≡ loose_in rows
  pub earliest : is_least a.earliest rows ≡ true
  pub latest : is_greatest a.latest rows ≡ true

-- the numbers of a report are those of these archives
pub record Sums (buffers : List (List ℕ)) (s : Report) : Type 0 where
  pub archives : s.archives ≡ length buffers
  pub kept : s.kept ≡ kept_in (rows_of_all buffers)
  pub loose : s.loose ≡ loose_in (rows_of_all buffers)
  -- "ordered by identity", each once, and exactly the transmitters that sent a row
  pub ordered : is_rising s.lines ≡ true
  pub transmitters : (i : ℕ)
      → any (λ a. eqb a.identity i) s.lines ≡ any (λ r. eqb (identity_of r) i) (rows_of_all buffers)
  pub lines : (a : Line) → Memᴰ a s.lines → SumsUp (rows_of_transmitter a.identity (rows_of_all buffers)) a

-- Totals are sums: "Totals equal the sums over the rows of all archives taken", also with refused archives among them.
abbrev pub TotalsAreSums : Type 0
TotalsAreSums = (buffers : List (List ℕ)) → Sums (archives_accepted empty_report buffers) (add_all empty_report buffers)

-- Any order: "where none is refused their order changes nothing". In another order, none is refused either.
abbrev pub AnyOrder : Type 0
AnyOrder =
    (s : Report) (xs ys : List (List ℕ)) → Permᴰ xs ys → all are_bytes xs ≡ true → none_refused s xs ≡ true
    → (none_refused s ys ≡ true) × (add_all s ys ≡ add_all s xs)

-- Sound: no report that archives give is refused with 11.
abbrev pub Sound : Type 0
Sound = (buffers : List (List ℕ)) → all are_bytes buffers ≡ true → is_report (add_all empty_report buffers) ≡ true

-- Complete: each report that is not refused with 11 is the report of some archives of bytes, none of them refused.
abbrev pub Complete : Type 0
Complete =
    (s : Report) → is_report s ≡ true
    → (buffers : List (List ℕ)) × (all are_bytes buffers ≡ true) × (none_refused empty_report buffers ≡ true)
    × (add_all empty_report buffers ≡ s)

-- t is the share of n rows in the number received, in thousandths, rounded down
pub record RoundedDown (t n received : ℕ) : Type 0 where
  pub most : t ≤ 1000
  pub low : t * received ≤ 1000 * n
  pub high : 1000 * n < (t + 1) * received

-- Share rounded down: every share that is not refused is this one.
abbrev pub ShareRoundedDown : Type 0
ShareRoundedDown =
    (s : Report) (received : ℕ) → (share_of s received).number ≡ 0
    → RoundedDown (share_of s received).thousandths (s.kept + s.loose) received

-- ---- an archive that is added piece by piece

-- what is known after the pieces
abbrev pub add_pieces : Adding → List (List ℕ) → Adding
add_pieces a [] = a
add_pieces a (p ∷ ps) = add_pieces (add_piece_of a p).next ps

-- the pieces that were answered 0
abbrev pub fed_pieces : Adding → List (List ℕ) → List (List ℕ)
fed_pieces a [] = []
fed_pieces a (p ∷ ps) =
    cond (eqb (add_piece_of a p).number 0) (p ∷ fed_pieces (add_piece_of a p).next ps)
    (fed_pieces (add_piece_of a p).next ps)

-- Pieces are whole: what pieces give is refused with 11 exactly if the report is. At the end, the pieces that were
-- taken give what the whole archive gives, also with refused pieces among them.
abbrev pub PiecesAreWhole : Type 0
PiecesAreWhole =
    (s : Report) (pieces : List (List ℕ)) → all are_bytes pieces ≡ true
    → (is_adding (add_pieces (start_adding s) pieces) ≡ is_report s)
    × (ended_of (add_pieces (start_adding s) pieces) ≡ add_of s (flatten (fed_pieces (start_adding s) pieces)))
