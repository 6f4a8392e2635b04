-- `text_collect::store_row` meets its contract: KEPT and LOOSE are stored, and nothing else.
use mathlib.Core.Path.{◌≡◌}
use mathlib.Core.Bool.{false, ◌||◌, and-false}
use Prim.Native.Nat.{◌*◌}
use native.Mathlib.Omega.{arith}
use borrow.Author.Tests.{le-leb, lt-leb}
use lib.ListN.{length, take}
use Rattle.collector_model.specs.Answer.{shown_of, is_kept, is_loose}
use Rattle.text_collect.specs.Rows.{is_stored}
use Rattle.text_collect.proofs.Storing.{front_long, printed_none}
use Rattle.text_collect.proofs.store_row.Goals as goal
use Rattle.text_collect.proofs.store_row.Goals.{Start}

-- as many bytes as `len` says
long : (s : Start) → length (take s.args.len s.args.bytes.now) ≡ s.args.len
long s = front_long s.args.bytes.now s.args.len s.requires.2 s.requires.3

pub returns-then-len-gt-MAX_LEN : goal.returns-then-len-gt-MAX_LEN
returns-then-len-gt-MAX_LEN c =
    let xs = take c.args.len c.args.bytes.now in
    let l = long (goal.at.returns-then-len-gt-MAX_LEN c).Start in
    let a = shown_of c.args.answer in
    let e : is_stored a xs ≡ false = rw (lt-leb (length xs) 21 (omega arith)) (and-false (is_kept a || is_loose a)) in
    rw e (printed_none c.args.moments.now c.args.n 1, printed_none c.args.rows.now (23 * c.args.n) 23)

pub returns-in-Kept : goal.returns-in-Kept
returns-in-Kept c =
    let l = long (goal.at.returns-in-Kept c).Start in
    rw (c.in-Kept.is, l, le-leb c.args.len 21 (omega arith)) (rw l at c.put_record.ensures)

pub returns-in-Copy : goal.returns-in-Copy
returns-in-Copy c =
    rw c.in-Copy.is
    (printed_none c.args.moments.now c.args.n 1, printed_none c.args.rows.now (23 * c.args.n) 23)

pub returns-in-Loose : goal.returns-in-Loose
returns-in-Loose c =
    let l = long (goal.at.returns-in-Loose c).Start in
    rw (c.in-Loose.is, l, le-leb c.args.len 21 (omega arith)) (rw l at c.put_record-in-Loose.ensures)

pub returns-in-Refused : goal.returns-in-Refused
returns-in-Refused c =
    rw c.in-Refused.is
    (printed_none c.args.moments.now c.args.n 1, printed_none c.args.rows.now (23 * c.args.n) 23)
