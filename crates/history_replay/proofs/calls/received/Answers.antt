-- `history_replay::calls::received` meets its contract: by what `take`, `totals` and `repeat` ensure.
use mathlib.Core.Path.{◌≡◌, refl, ap₂, ◌∙◌}
use mathlib.Core.Bool.{cond}
use mathlib.Core.List.{[]}
use Prim.Native.Nat.{◌+◌, ◌-◌, min}
use lib.Dec.{eqb}
use Rattle.radio_telegram.specs.Frame.{frame_of}
use Rattle.radio_telegram.specs.Repeater.{repeat_result}
use Rattle.base_buffers.specs.Buffer.{part}
use Rattle.history_replay.specs.Calls.{call_setting, call_reception}
use Rattle.history_replay.proofs.Records.{bytes-lent}
use Rattle.history_replay.proofs.Called.{heard_as, received}
use Rattle.history_replay.proofs.calls.received.Lts as lts
use Rattle.history_replay.proofs.calls.received.Reads as reads
use Rattle.history_replay.proofs.calls.received.Tie as tie
use Rattle.history_replay.proofs.calls.received.Goals as goal

-- states on the way
abbrev After-min-n : Type 0
After-min-n = lts.After-min tie.the-claims reads.Pre reads.Post tie.handed_clauses

-- the bytes that are lent are those that the record says
lent-bytes : (c : After-min-n)
    → part 10 (10 + c.min-n.result - 10) c.args.r.now ≡ (call_reception c.args.r.now).bytes
lent-bytes c =
    bytes-lent c.args.r.now _ c.min-n.result
    (c.min-n.ensures ∙ ap₂ min c.usize_of_byte.ensures.0 refl)

pub put_answered-requires : goal.put_answered-requires
put_answered-requires c = c.requires.1

pub returns-clause-called : goal.returns-clause-called
returns-clause-called c =
    let c_back3 = c.before.before.before in
    let c_back6 = c_back3.before.before.before in
    let c_back9 = c_back6.before.before.before in
    let c_back12 = c_back9.before.before.before in
    let r = c.args.r.now in
    received c.totals_of-totals.ensures (call_setting r)
    (heard_as (λ i. record { bytes = lent-bytes c_back12.before i; time = c.number_at-time.ensures i })
    c.take-answer.ensures.takes)
    _ _ _
    (c.sent_for-sent.ensures
    ∙ λ i. cond (eqb c.take-answer.result 0)
    (repeat_result (call_setting r) (lent-bytes c_back12.before i)).sent (frame_of []))
    c.form_with-form.ensures refl c.put_answered.ensures
