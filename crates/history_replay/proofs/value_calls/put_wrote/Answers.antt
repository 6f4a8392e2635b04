-- `history_replay::value_calls::put_wrote` meets its contract: the output is lent first, and then the head before it.
use mathlib.Core.Path.{◌∙◌}
use mathlib.Core.List.{◌++◌}
use native.Mathlib.Omega.{arith}
use Rattle.block_layout.specs.BigEndian.{be}
use Rattle.base_buffers.proofs.Segments.{begin, lend}
use Rattle.collector_state.specs.Collector.{view_of}
use Rattle.base_refusal.specs.Number.{outcome_number}
use Rattle.history_replay_model.specs.Operation.{saving}
use Rattle.history_replay_model.specs.Record.{head_of}
use Rattle.history_replay.proofs.Making.{saved-output, output-length, rest}
use Rattle.history_replay.proofs.value_calls.put_wrote.Goals as goal

pub returns : goal.returns
unfolding view_of
returns c =
    let a = c.args in
    let entry = a.out.now in
    let n = outcome_number c.save_into-answer.result in
    let ys = c.save_into-answer.new.out in
    let v = view_of a.c in
    let length-of = rest v entry ys a.fill n c.requires in
    let l = output-length v entry ys a.fill n c.requires c.save_into-answer.auto.out in
    saved-output v entry ys a.fill n c.requires c.save_into-answer.ensures c.save_into-answer.auto.out _
    (lend (begin _) _ (head_of saving n a.c.summary.totals ++ be 8 length-of) 58
    (c.put_body.ensures
    ∙ λ i. head_of saving (c.outcome_number-number.ensures i) a.c.summary.totals ++ be 8 length-of)
    c.put_body.auto.out (omega arith) (omega (arith, l)))
