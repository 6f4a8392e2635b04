-- `collector_checkpoint::put_header` meets its contract: a step for each part that is lent and each byte that is stored.
use mathlib.Core.Path.{sym, ◌∙◌}
use native.Mathlib.Omega.{arith}
use Rattle.block_layout.specs.BigEndian.{be}
use Rattle.collector_model.specs.Header.{header_of}
use Rattle.block_layout.specs.Block.{header_length}
use Rattle.base_buffers.proofs.Segments.{Writing, packed, begin, begun_length, within, store, lend_sized, wipe, done}
use Rattle.base_buffers.proofs.Buffer.{overwritten-fits, overwritten-not}
use Rattle.collector_checkpoint.proofs.put_header.Lts as lts
use Rattle.collector_checkpoint.proofs.put_header.Reads as reads
use Rattle.collector_checkpoint.proofs.put_header.Tie as tie
use Rattle.collector_checkpoint.proofs.put_header.Goals as goal

-- states on the way
abbrev Else-out-ne-HEADER_LENGTH : Type 0
Else-out-ne-HEADER_LENGTH = lts.Else1 tie.the-claims reads.Pre reads.Post

abbrev After-clear : Type 0
After-clear = lts.After-clear tie.the-claims reads.Pre reads.Post

abbrev After-put_number : Type 0
After-put_number = lts.After-put_number tie.the-claims reads.Pre reads.Post

abbrev After-put_number-2 : Type 0
After-put_number-2 = lts.After-put_number2 tie.the-claims reads.Pre reads.Post

pub returns-then-out-ne-HEADER_LENGTH : goal.returns-then-out-ne-HEADER_LENGTH
returns-then-out-ne-HEADER_LENGTH c = sym
    (overwritten-not header_length _ c.args.out.now c.if-out-ne-HEADER_LENGTH.true)

-- what is written, after each step
abbrev step1 : Else-out-ne-HEADER_LENGTH → Writing 2
step1 c =
    let a = c.args in
    packed (store (store (begin a.out.now) a.k (omega arith)) a.used (omega arith))

abbrev step2 : After-clear → Writing 8
step2 c =
    packed (wipe (step1 c.before.before).begun _ 8
    c.clear.ensures c.clear.auto.out (omega arith) (omega arith))

abbrev step3 : After-put_number → Writing 16
step3 c =
    let c_back3 = c.before.before.before in
    let a = c.args in
    packed (lend_sized (step2 c_back3.before).begun _ (λ w. be w a.a) 16
    c.put_number.ensures c.put_number.auto.out (omega arith) (omega arith))

abbrev step4 : After-put_number-2 → Writing 24
step4 c =
    let c_back3 = c.before.before.before in
    let a = c.args in
    packed (lend_sized (step3 c_back3.before).begun _ (λ w. be w a.b) 24
    c.put_number-2.ensures c.put_number-2.auto.out (omega arith) (omega arith))

pub returns : goal.returns
unfolding header_of
returns c =
    let a = c.args in
    done (step4 c.before.before.before).begun (omega arith)
    ∙ sym (overwritten-fits header_length (header_of a.k a.used a.a a.b) a.out.now (omega arith))

pub slice_bounds-clear-end : goal.slice_bounds-clear-end
slice_bounds-clear-end c = within (step1 c).begun 8 (omega arith)

pub slice_bounds-put_number-end : goal.slice_bounds-put_number-end
slice_bounds-put_number-end c = within (step2 c.before.before.before).begun 16 (omega arith)

pub slice_bounds-put_number-end-2 : goal.slice_bounds-put_number-end-2
slice_bounds-put_number-end-2 c = within (step3 c.before.before.before).begun 24 (omega arith)

pub shape_of-out : goal.shape_of-out
shape_of-out c = begun_length (step4 c.before.before.before).begun
