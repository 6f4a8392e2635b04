-- `history_replay::calls::put_wrote` meets its contract: the output is lent first, and then the head and the length before it.
use mathlib.Core.Path.{◌∙◌}
use mathlib.Core.List.{◌++◌}
use native.Mathlib.Omega.{arith}
use Rattle.block_layout.specs.BigEndian.{be}
use Rattle.base_buffers.proofs.Segments.{begin, lend}
use Rattle.c_collector.specs.State.{Arrays, arrays_in, state_at}
use Rattle.history_replay_model.specs.Operation.{saving}
use Rattle.history_replay_model.specs.Record.{head_of}
use Rattle.history_replay.proofs.Making.{saved-output, output-length, rest}
use Rattle.history_replay.proofs.calls.put_wrote.Goals.{Start}
use Rattle.history_replay.proofs.calls.put_wrote.Goals as goal

-- what is lent
abbrev lent : Start → Arrays
lent s =
    let a = s.args in
    arrays_in a.state.now

pub returns : goal.returns
returns c =
    let c_back3 = c.before.before.before in
    let c_back6 = c_back3.before.before.before in
    let c_back9 = c_back6.before.before.before in
    let v = state_at (lent c_back9.before.before) in
    let entry = c.args.out.now in
    let fill = c.args.fill in
    let n = c.save_into-number.result in
    let ys = c.save_into-number.new.out in
    let l = output-length v entry ys fill n c.requires c.save_into-number.auto.out in
    saved-output v entry ys fill n c.requires c.save_into-number.ensures c.save_into-number.auto.out _
    (lend (begin _) _ (head_of saving n v.totals ++ be 8 (rest v entry ys fill n c.requires)) 58
    (c.put_body.ensures
    ∙ λ i. head_of saving n (c.totals_of-totals.ensures i) ++ be 8 (rest v entry ys fill n c.requires))
    c.put_body.auto.out (omega arith) (omega (arith, l)))
