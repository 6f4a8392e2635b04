-- `history_log::take_some` meets its contract: the call is not refused, its rows fit into the next block, and what closes
-- behind the other closings.
use mathlib.Core.Path.{◌≡◌, refl, ◌∙◌}
use mathlib.Core.List.{List}
use Prim.Native.Nat.{ℕ, ◌-◌, ◌*◌, ◌/◌, ◌^◌, ◌≤◌, ◌<◌}
use native.Mathlib.Omega.{arith}
use lib.Dec.{leb}
use lib.ListN.{length, get_or}
use lib.Seq.{length-take-le}
use borrow.Author.Rules.{rules}
use borrow.Author.Tests.{leb-true}
use Rattle.base_lists.proofs.Choice.{both}
use Rattle.block_layout.specs.Cell.{cell_length}
use Rattle.archive_fill.specs.Fill.{row_length}
use Rattle.history_log.specs.Keep.{capacity_of}
use Rattle.history_log.proofs.Calling.{count_fits, closings-fit, turned}
use Rattle.history_log.proofs.take_some.Lts as lts
use Rattle.history_log.proofs.take_some.Reads as reads
use Rattle.history_log.proofs.take_some.Tie as tie
use Rattle.history_log.proofs.take_some.Goals as goal

-- states on the way
abbrev Start : Type 0
Start = lts.Start tie.the-claims reads.Pre reads.Post tie.handed_clauses

abbrev After-lines_as : Type 0
After-lines_as = lts.After-lines_as tie.the-claims reads.Pre reads.Post tie.handed_clauses

small : (s : Start) → length s.args.archive.now < 2 ^ 64
small s = search rules

-- what the call left in its buffers
abbrev moments : After-lines_as → List ℕ
moments c = c.lines_as.new.moments

abbrev rows : After-lines_as → List ℕ
rows c = c.lines_as.new.rows

abbrev closed : After-lines_as → List ℕ
closed c = c.lines_as.new.closed

abbrev done : After-lines_as → List ℕ
done c = c.lines_as.new.done

-- how many rows and closings it gave
abbrev count : After-lines_as → ℕ
count c = get_or (done c) 2 0

abbrev closings : After-lines_as → ℕ
closings c = get_or (done c) 4 0

few : (c : After-lines_as) → count c ≤ 15
few c = count_fits c.lines_as.ensures.lines_as c.requires refl

moments-long : (c : After-lines_as) → length (moments c) ≡ 15
moments-long c = c.lines_as.auto.moments

rows_long : (c : After-lines_as) → length (rows c) ≡ 345
rows_long c = c.lines_as.auto.rows

closed-long : (c : After-lines_as) → length (closed c) ≡ 4096
closed-long c = c.lines_as.auto.closed ∙ c.buffer-closed.ensures

brief : (c : After-lines_as) → cell_length * closings c ≤ 4096
brief c =
    let h = closings-fit c.lines_as.ensures.lines_as c.requires refl in
    omega (arith, h, c.buffer-closed.ensures)

pub put-requires : goal.put-requires
put-requires c =
    let c_back3 = c.before.before.before in
    let c_back6 = c_back3.before.before.before in
    let a = c.args in
    let n = count c_back6.before.before in
    let times_long = length-take-le (n - 0) (moments c_back6.before.before)
    (omega (arith, few c_back6.before.before, moments-long c_back6.before.before)) in
    let records-long = length-take-le (row_length * n - 0) (rows c_back6.before.before)
    (omega (arith, few c_back6.before.before, rows_long c_back6.before.before)) in (
      omega (arith, times_long, records-long),
      λ e some.
          let f = (both a.write _ e).1 in
          let g = (both (leb n (capacity_of (length a.archive.now) - a.n)) _ f).0 in
          let h = leb-true n (capacity_of (length a.archive.now) - a.n) g in
          omega (arith, h, times_long, c.requires.room.rows),
    )

pub put_closings-requires : goal.put_closings-requires
put_closings-requires c e =
    let c_back3 = c.before.before.before in
    let c_back6 = c_back3.before.before.before in
    let c_back9 = c_back6.before.before.before in
    let c_back12 = c_back9.before.before.before in
    let a = c.args in
    let n = closings c_back12.before in
    let room = length a.heard.now / cell_length - a.m in
    let f = (both a.write _ e).1 in
    let g = (both (leb (count c_back12.before) (capacity_of (length a.archive.now) - a.n)) (leb n room) f).1 in
    let h = leb-true n room g in
    let long = length-take-le (cell_length * n - 0) (closed c_back12.before)
    (omega (arith, brief c_back12.before, closed-long c_back12.before)) in
    omega (arith, h, long, c.requires.room.closings)

pub returns : goal.returns
returns c =
    let a = c.args in
    turned c.lines_as.ensures.lines_as c.requires refl c.buffer-closed.ensures a.write refl (omega arith)
    c.buffer-text.ensures c.put.ensures c.put_closings.ensures

pub overflow_mul-fits : goal.overflow_mul-fits
overflow_mul-fits c =
    let c_back3 = c.before.before.before in
    let c_back6 = c_back3.before.before.before in
    let c_back9 = c_back6.before.before.before in
    let c_back12 = c_back9.before.before.before in
    let c_back15 = c_back12.before.before.before in
    omega (arith, small c_back15.before.before)

pub overflow_sub-fits : goal.overflow_sub-fits
overflow_sub-fits c = omega (arith, c.requires.room.rows)

pub overflow_sub-fits-2 : goal.overflow_sub-fits-2
overflow_sub-fits-2 c = omega (arith, c.requires.room.closings)

pub slice_bounds-put-end : goal.slice_bounds-put-end
slice_bounds-put-end c =
    let c_back3 = c.before.before.before in
    omega (arith, few c_back3.before.before.before, moments-long c_back3.before.before.before)

pub overflow_mul-count : goal.overflow_mul-count
overflow_mul-count c =
    let c_back3 = c.before.before.before in
    let c_back6 = c_back3.before.before.before in
    omega (arith, few c_back6.before)

pub slice_bounds-put-end-2 : goal.slice_bounds-put-end-2
slice_bounds-put-end-2 c =
    let c_back3 = c.before.before.before in
    let c_back6 = c_back3.before.before.before in
    omega (arith, few c_back6.before, rows_long c_back6.before)

pub overflow_mul-closings : goal.overflow_mul-closings
overflow_mul-closings c =
    let c_back3 = c.before.before.before in
    let c_back6 = c_back3.before.before.before in
    let c_back9 = c_back6.before.before.before in
    omega (arith, brief c_back9.before.before.before)

pub slice_bounds-put_closings-end : goal.slice_bounds-put_closings-end
slice_bounds-put_closings-end c =
    let c_back3 = c.before.before.before in
    let c_back6 = c_back3.before.before.before in
    let c_back9 = c_back6.before.before.before in
    omega (arith, brief c_back9.before.before.before, closed-long c_back9.before.before.before)
