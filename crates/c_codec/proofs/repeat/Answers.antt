-- `c_codec::repeat` meets its contract: beside a refusal nothing is written, and what is sent fits a byte's length.
use Rattle.std.proofs.Common.{◌∙◌, [], ap, sym, refl, arith}
use Rattle.base_buffers.proofs.Buffer.{overwritten-fits}
use Rattle.base_refusal.proofs.Numbers.{refused-number}
use Rattle.radio_telegram.specs.Repeater.{RepeatResult, repeat_result}
use Rattle.c_layout.specs.Frame.{frame_length}
use Rattle.c_codec.specs.Calls.{sent_frame_bytes}
use Rattle.c_codec.proofs.Calls.{repeat_other, repeat_done, sent-len, answered-not, answered_is}
use Rattle.c_codec.proofs.repeat.Goals as goal

pub returns-then-sent-ne-FRAME_LENGTH : goal.returns-then-sent-ne-FRAME_LENGTH
returns-then-sent-ne-FRAME_LENGTH c =
    let a = c.args in
    repeat_other a.setting a.bytes.now a.sent.now c.if-sent-ne-FRAME_LENGTH.true

pub overflow_cast-frame : goal.overflow_cast-frame
overflow_cast-frame c =
    let e = ap (λ (r : RepeatResult). r.sent.len) c.in-Ok.ensures in
    omega (arith, sent-len c.args.setting c.args.bytes.now, e)

pub returns-in-Ok : goal.returns-in-Ok
returns-in-Ok c =
    let a = c.args in
    let told = repeat_result a.setting a.bytes.now in
    let long = c.if-sent-ne-FRAME_LENGTH.false in
    answered_is 0 told.number c.put_frame.new.out (sent_frame_bytes told.sent) a.sent.now
    (ap (λ (r : RepeatResult). r.number) c.in-Ok.ensures) refl
    (c.put_frame.ensures ∙ overwritten-fits frame_length _ a.sent.now long
    ∙ ap (λ (r : RepeatResult). sent_frame_bytes r.sent) c.in-Ok.ensures)
    ∙ repeat_done a.setting a.bytes.now a.sent.now long

pub returns-in-Err : goal.returns-in-Err
returns-in-Err c =
    let a = c.args in
    let told = repeat_result a.setting a.bytes.now in
    answered-not c.number.result told.number [] (sent_frame_bytes told.sent) a.sent.now
    (c.number.ensures ∙ ap (λ (r : RepeatResult). r.number) c.in-Err.ensures)
    (λ z. refused-number c.in-Err.why (sym c.number.ensures ∙ z))
    ∙ repeat_done a.setting a.bytes.now a.sent.now c.if-sent-ne-FRAME_LENGTH.false
