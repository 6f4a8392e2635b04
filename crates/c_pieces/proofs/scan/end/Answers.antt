-- `c_pieces::scan::end` meets its contract: each return is one case of `scan_end`.
use mathlib.Core.Path.{◌≡◌, sym, ap, ◌∙◌}
use mathlib.Core.Bool.{Bool, true, false}
use mathlib.Core.List.{List}
use Prim.Native.Nat.{ℕ}
use lib.ListN.{get_or}
use Rattle.archive_model.specs.Buffer.{Scan}
use Rattle.archive_model.specs.Append.{Opening, is_scan}
use Rattle.c_archive.specs.Calls.{open_call}
use Rattle.c_pieces.specs.Scan.{scan_at}
use Rattle.c_pieces.proofs.Scans.{end_not, end_wrong, end_done}
use Rattle.c_pieces.proofs.scan.end.Lts as lts
use Rattle.c_pieces.proofs.scan.end.Reads as reads
use Rattle.c_pieces.proofs.scan.end.Tie as tie
use Rattle.c_pieces.proofs.scan.end.Goals as goal

-- states on the way
abbrev After-is_scan : Type 0
After-is_scan = lts.After-is_scan tie.the-claims reads.Pre reads.Post

abbrev Else-not-is_scan : Type 0
Else-not-is_scan = lts.Else1 tie.the-claims reads.Pre reads.Post

abbrev opening : ℕ → ℕ → ℕ → Opening
opening number position rows = record { number = number; position = position; rows = rows }

abbrev numbers : After-is_scan → List ℕ
numbers c = c.args.numbers.now

-- what an answer leaves
abbrev shown : After-is_scan → Opening → Opening
shown c a = open_call a c.args.rows.now c.args.position.now

-- what was told of the scan that the numbers say
told : (c : After-is_scan) (b : Bool) → c.is_scan.result ≡ b → is_scan (scan_at (numbers c)) ≡ b
told c b e = sym (c.is_scan.ensures ∙ ap (λ (s : Scan). is_scan s) c.scan_of-s.ensures) ∙ e

pub returns-then-not-is_scan : goal.returns-then-not-is_scan
returns-then-not-is_scan c =
    let a = c.args in
    ap (λ (n : ℕ). opening n a.position.now a.rows.now) c.number.ensures
    ∙ ap (shown c.before.before.before) (end_not (numbers c.before.before.before)
    (told c.before.before.before false c.if-not-is_scan.true))

is : (c : Else-not-is_scan) → is_scan (scan_at (numbers c.before)) ≡ true
is c = told c.before true c.if-not-is_scan.false

pub returns-then-numbers-gt2 : goal.returns-then-numbers-gt2
returns-then-numbers-gt2 c =
    let c_back3 = c.before.before.before in
    ap (λ (n : ℕ). opening n (get_or (numbers c_back3.before.before.before) 3 0) c.args.rows.now)
    c.number-then-numbers-gt2.ensures
    ∙ ap (shown c_back3.before.before.before)
    (end_wrong (numbers c_back3.before.before.before) (is c_back3.before.before) c.if-numbers-gt2.true)

pub returns : goal.returns
returns c =
    let c_back3 = c.before.before.before in
    ap (shown c_back3.before.before) (end_done (numbers c_back3.before.before)
    (is c_back3.before) c.if-numbers-gt2.false)
