-- `text_lines::put_two` meets its contract: the two blocks by the law of blocks.
use Rattle.text_lines.proofs.Blocks as blocks
use borrow.Author.Rules.{rules}
use Rattle.text_lines.proofs.put_two.Goals as goal

pub overflow_mul-i : goal.overflow_mul-i
overflow_mul-i c = search rules

pub slice_bounds-copy_part-end : goal.slice_bounds-copy_part-end
slice_bounds-copy_part-end c = search rules

pub copy_part-requires : goal.copy_part-requires
copy_part-requires c = search rules

pub overflow_mul-j : goal.overflow_mul-j
overflow_mul-j c = search rules

pub slice_bounds-copy_part-end-2 : goal.slice_bounds-copy_part-end-2
slice_bounds-copy_part-end-2 c = search rules

pub copy_part-requires-2 : goal.copy_part-requires-2
copy_part-requires-2 c = search rules

pub nibbles-v-requires : goal.nibbles-v-requires
nibbles-v-requires c = search rules

pub joined-b-requires : goal.joined-b-requires
joined-b-requires c = search rules

pub slice_bounds-copy_part-end-3 : goal.slice_bounds-copy_part-end-3
slice_bounds-copy_part-end-3 c = search rules

pub copy_part-requires-3 : goal.copy_part-requires-3
copy_part-requires-3 c = search rules

pub slice_bounds-copy_part-end-5 : goal.slice_bounds-copy_part-end-5
slice_bounds-copy_part-end-5 c = search rules

pub copy_part-requires-4 : goal.copy_part-requires-4
copy_part-requires-4 c = search rules

pub are_nibbles-requires : goal.are_nibbles-requires
are_nibbles-requires c = search rules

pub returns : goal.returns
returns c =
    blocks.put_two c.nibbles-v.result c.joined-b.result
    c.copy_part.ensures c.copy_part-2.ensures
    c.nibbles-v.ensures.1 c.joined-b.ensures.1
    c.copy_part-3.ensures c.copy_part-4.ensures
    c.are_nibbles.ensures
