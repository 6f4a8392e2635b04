-- `c_layout::put_frame` meets its contract: a step for the byte that is stored and for the part that is lent.
use mathlib.Core.Path.{sym, ◌∙◌}
use native.Mathlib.Omega.{arith}
use Rattle.base_buffers.specs.Buffer.{resized}
use Rattle.base_buffers.proofs.Segments.{Writing, packed, begin, begun_length, within, store, lend_sized, done}
use Rattle.base_buffers.proofs.Buffer.{overwritten-fits, overwritten-not}
use Rattle.c_layout.specs.Frame.{frame_length, frame_bytes}
use Rattle.c_layout.proofs.put_frame.Lts as lts
use Rattle.c_layout.proofs.put_frame.Reads as reads
use Rattle.c_layout.proofs.put_frame.Tie as tie
use Rattle.c_layout.proofs.put_frame.Goals as goal

-- states on the way
abbrev Else-out-ne-FRAME_LENGTH : Type 0
Else-out-ne-FRAME_LENGTH = lts.Else1 tie.the-claims reads.Pre reads.Post

abbrev After-put_bytes : Type 0
After-put_bytes = lts.After-put_bytes tie.the-claims reads.Pre reads.Post

pub returns-then-out-ne-FRAME_LENGTH : goal.returns-then-out-ne-FRAME_LENGTH
returns-then-out-ne-FRAME_LENGTH c = sym (overwritten-not frame_length _ c.args.out.now c.if-out-ne-FRAME_LENGTH.true)

abbrev step1 : Else-out-ne-FRAME_LENGTH → Writing 1
step1 c =
    let a = c.args in
    packed (store (begin a.out.now) a.len (omega arith))

abbrev step2 : After-put_bytes → Writing 22
step2 c =
    let a = c.args in
    packed (lend_sized (step1 c.before.before).begun _ (λ w. resized w a.bytes.now) 22
    c.put_bytes.ensures c.put_bytes.auto.out (omega arith) (omega arith))

pub returns : goal.returns
unfolding frame_bytes
returns c =
    let a = c.args in
    done (step2 c.before.before.before).begun (omega arith)
    ∙ sym (overwritten-fits frame_length (frame_bytes a.len a.bytes.now) a.out.now (omega arith))

pub slice_bounds-put_bytes-end : goal.slice_bounds-put_bytes-end
slice_bounds-put_bytes-end c = within (step1 c.before).begun 22 (omega arith)

pub shape_of-out : goal.shape_of-out
shape_of-out c = begun_length (step2 c.before.before.before).begun
