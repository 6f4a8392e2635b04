-- The goals that a search does not find.
use Rattle.std.proofs.Common.{◌≡◌, ◌∙◌, ◌≤◌, length, arith, sym, append-nil, drop_of_length-le}
use Rattle.block_layout.specs.BigEndian.{be}
use Rattle.block_layout.proofs.BigEndian.{be-set}
use Rattle.block_layout.proofs.put_number.Goals as goal

pub loop-i-init : goal.loop-i-init
loop-i-init c =
    let out = c.args.out.now in
    let h : length out ≤ length out = omega arith in
    rw (drop_of_length-le out h) (sym (append-nil (be (length out) c.args.n)))

pub loop-i-preserved : goal.loop-i-preserved
loop-i-preserved c =
    let at = c.loop-i in
    at.invariant ∙ be-set at.i at.rest at.out (omega arith) (omega arith)

pub returns : goal.returns
unfolding be
returns c =
    let e : c.loop-i.i ≡ 0 = omega arith in
    sym (rw e at c.loop-i.invariant)
