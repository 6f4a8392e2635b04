-- `history_replay::value_calls::received` meets its contract: by what `take` and `repeat` ensure.
use mathlib.Core.Path.{◌≡◌, refl, ap₂, ◌∙◌}
use mathlib.Core.Bool.{cond}
use mathlib.Core.List.{[]}
use Prim.Native.Nat.{◌+◌, ◌-◌, min}
use Rattle.radio_telegram.specs.Frame.{frame_of}
use Rattle.radio_telegram.specs.Repeater.{repeat_of}
use Rattle.base_buffers.specs.Buffer.{part}
use Rattle.collector_model.specs.Answer.{is_kept, shown_of}
use Rattle.collector_model.specs.Step.{sent_for}
use Rattle.collector_state.specs.Collector.{Takes}
use Rattle.history_replay.specs.Calls.{call_setting, call_reception}
use Rattle.history_replay.proofs.Records.{bytes-lent}
use Rattle.history_replay.proofs.Called.{heard_as_value, received-value}
use Rattle.history_replay.proofs.value_calls.received.Lts as lts
use Rattle.history_replay.proofs.value_calls.received.Reads as reads
use Rattle.history_replay.proofs.value_calls.received.Tie as tie
use Rattle.history_replay.proofs.value_calls.received.Goals as goal

-- states on the way
abbrev After-take-taken : Type 0
After-take-taken = lts.After-take tie.the-claims reads.Pre reads.Post

abbrev After-sent_for-sent : Type 0
After-sent_for-sent = lts.After-sent_for tie.the-claims reads.Pre reads.Post

-- the bytes that are lent are those that the record says
lent-bytes : (c : After-take-taken)
    → part 10 (10 + c.min-n.result - 10) c.args.r.now
    ≡ (call_reception c.args.r.now).bytes
lent-bytes c = bytes-lent c.args.r.now _ c.min-n.result (c.min-n.ensures
    ∙ ap₂ min c.usize_of_byte.ensures.0 refl)

-- what `take` ensures, of the reception that the record says
taken : (c : After-take-taken) → Takes c.args.c (call_reception c.args.r.now) c.take-taken.result
taken c =
    heard_as_value (λ i.
    record { bytes = lent-bytes c i; time = c.number_at-time.ensures i })
    c.take-taken.ensures

-- and `sent_for` of its answer
sent : (c : After-sent_for-sent) → c.sent_for-sent.result
    ≡ sent_for (call_setting c.args.r.now)
    (shown_of c.take-taken.result.answer)
    (call_reception c.args.r.now)
unfolding sent_for
sent c =
    c.sent_for-sent.ensures
    ∙ λ i.
    frame_of (cond (is_kept (shown_of c.take-taken.result.answer))
    (repeat_of (call_setting c.args.r.now) (lent-bytes c.before.before.before i)) [])

pub returns : goal.returns
returns c =
    let c_back3 = c.before.before.before in
    let c_back6 = c_back3.before.before.before in
    let c_back9 = c_back6.before.before.before in
    received-value (call_setting c.args.r.now) (taken c_back9.before.before) _ _ _ (sent c_back6.before.before)
    c.form_of-form.ensures c.number_of-number.ensures c.put_answered.ensures
