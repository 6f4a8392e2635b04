-- `radio_telegram::repeater::repeat` meets its contract: each way out is one case of `repeat_result`.
use mathlib.Core.Path.{ap, sym, ◌∙◌}
use Rattle.std.proofs.lemmas.Result.{err_from_is_err_and}
use Rattle.radio_telegram.specs.declared.frame.Frame.{Frame}
use Rattle.radio_telegram.proofs.Frames.{frame-written}
use Rattle.radio_telegram.proofs.Repeating.{call-argument, call-refused, call-sent}
use Rattle.radio_telegram.proofs.repeater.repeat.Goals as goal

pub returns-then-setting-gt-MAX_SETTING : goal.returns-then-setting-gt-MAX_SETTING
returns-then-setting-gt-MAX_SETTING c = call-argument _ _ c.if-setting-gt-MAX_SETTING.true

pub returns-in_err-check : goal.returns-in_err-check
returns-in_err-check c =
    let p = err_from_is_err_and c.from_residual.result c.from_residual.ensures.1 in
    rw (p.1, p.2) (call-refused _ _ c.if-setting-gt-MAX_SETTING.false _ c.in_err-check.ensures)

pub returns : goal.returns
returns c =
    ap (λ (f : Frame). record { number = 0; sent = f }) (frame-written _ c.relay-n.ensures)
    ∙ call-sent _ _ c.if-setting-gt-MAX_SETTING.false (sym c.in_ok-check.ensures)
