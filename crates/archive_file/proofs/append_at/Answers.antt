-- `archive_file::append_at` meets its contract: the block of row n is lent, and the rest of the buffer stays.
use mathlib.Core.Path.{◌≡◌, sym, ◌∙◌}
use mathlib.Core.Bool.{true}
use native.Mathlib.Omega.{arith}
use lib.ListN.{length}
use Rattle.archive_model.specs.Buffer.{is_whole}
use Rattle.archive_file.specs.Archive.{row_of}
use Rattle.archive_file.proofs.Calls.{at_size, at_out, at_put}
use Rattle.archive_file.proofs.append_at.Lts as lts
use Rattle.archive_file.proofs.append_at.Reads as reads
use Rattle.archive_file.proofs.append_at.Tie as tie
use Rattle.archive_file.proofs.append_at.Goals as goal

-- states on the way
abbrev Else-not-is_whole : Type 0
Else-not-is_whole = lts.Else1 tie.the-claims reads.Pre reads.Post

pub returns-then-not-is_whole : goal.returns-then-not-is_whole
returns-then-not-is_whole c =
    let a = c.args in
    at_size a.buffer.now a.n (row_of a.bytes.now a.time a.loose)
    (sym c.is_whole.ensures ∙ c.if-not-is_whole.true)

whole : (c : Else-not-is_whole) → is_whole (length c.args.buffer.now) ≡ true
whole c = sym c.is_whole.ensures ∙ c.if-not-is_whole.false

pub returns-then-buffer-k : goal.returns-then-buffer-k
returns-then-buffer-k c =
    let a = c.args in
    c.no_block.ensures a.buffer.now
    ∙ at_out a.buffer.now a.n
    (row_of a.bytes.now a.time a.loose) (whole c.before.before.before) c.if-buffer-k.true

pub returns : goal.returns
returns c =
    let c_back3 = c.before.before.before in
    let a = c.args in
    at_put a.buffer.now a.n (row_of a.bytes.now a.time a.loose)
    (whole c_back3.before.before.before) c.if-buffer-k.false c.put_row.result _ c.put_row.ensures

pub overflow_mul-k : goal.overflow_mul-k
overflow_mul-k c = omega arith

pub overflow_mul-k-2 : goal.overflow_mul-k-2
overflow_mul-k-2 c = omega arith

pub overflow_add-k : goal.overflow_add-k
overflow_add-k c = omega arith

pub slice_bounds-put_row-count : goal.slice_bounds-put_row-count
slice_bounds-put_row-count c = omega arith

pub slice_bounds-put_row-start : goal.slice_bounds-put_row-start
slice_bounds-put_row-start c = omega arith

pub slice_bounds-put_row-end : goal.slice_bounds-put_row-end
slice_bounds-put_row-end c = omega arith
