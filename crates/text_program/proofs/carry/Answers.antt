-- `text_program::carry` meets its contract: without such a part nothing is kept, else all of it or its front.
use native.Mathlib.Omega.{arith}
use Rattle.text_program.proofs.Kept.{past-buffer, past_end, kept}
use Rattle.text_program.proofs.carry.Goals.{then-buffer-end-via-then-buffer-end, then-buffer-end-via-else-buffer-end+then-end-from}
use Rattle.text_program.proofs.carry.Goals as goal

pub returns-then-buffer-end : goal.returns-then-buffer-end
returns-then-buffer-end c = elim c.then-buffer-end.branch [
  | then-buffer-end-via-then-buffer-end w ↦ past-buffer _ _ _ w.if-buffer-end.true
  | then-buffer-end-via-else-buffer-end+then-end-from w ↦ past_end _ _ _ w.if-end-from.true
]

pub returns : goal.returns
returns c =
    let a = c.args in
    kept a.buffer.now a.from a.end (omega arith) (omega arith) c.shift.ensures (omega arith) (omega arith)

pub shift-requires : goal.shift-requires
shift-requires c = omega arith
