-- `collector_state::acceptable::mark_at` meets its contract: the entry's length and the check say whether it is valid.
use Rattle.std.proofs.Common.{◌≡◌, ◌*◌, ℕ, ap, sym, ◌∙◌, Some}
use native.Mathlib.Omega.{arith}
use Rattle.radio_erp1.specs.Subtelegram.{max_length, check_of}
use Rattle.radio_erp1.proofs.Checks.{check_facts}
use Rattle.base_buffers.specs.Buffer.{part, resized}
use Rattle.collector_state.specs.Private.{shown_at}
use Rattle.collector_state.proofs.Marks.{long-not-valid, passes, refuses}
use Rattle.collector_state.proofs.acceptable.mark_at.Goals as goal
use Rattle.collector_state.proofs.acceptable.mark_at.Goals.{After-telegram-telegram, Else-is_err}

-- the bytes that the entry shows
shown : (c : After-telegram-telegram)
    → c.telegram-telegram.result.now ≡ shown_at c.args.lens.now c.args.bytes.now c.args.i
shown c =
    c.telegram-telegram.ensures
    ∙ ap (λ (n : ℕ). resized n (part (max_length * c.args.i) max_length c.args.bytes.now)) c.from-len.ensures

passed : (c : Else-is_err) → check_of c.telegram-telegram.result.now ≡ 0
passed c = passes _ _ c.check.ensures (sym c.is_err.ensures.value ∙ c.if-is_err.false)

pub returns-then-len-gt-MAX_LEN : goal.returns-then-len-gt-MAX_LEN
returns-then-len-gt-MAX_LEN c = rw (long-not-valid c.args.lens.now c.args.bytes.now c.args.i (omega arith))

pub returns-then-is_err : goal.returns-then-is_err
returns-then-is_err c =
    rw (
      ← shown (goal.at.returns-then-is_err c).After-telegram-telegram,
      refuses _ _ c.check.ensures (sym c.is_err.ensures.value ∙ c.if-is_err.true),
    )

pub returns : goal.returns
returns c =
    rw (← shown (goal.at.returns c).After-telegram-telegram, passed (goal.at.returns c).Else-is_err)
    (ap (λ (m : ℕ). Some m) c.mark.ensures.0)

pub mark-requires : goal.mark-requires
mark-requires c = (check_facts _ (passed (goal.at.mark-requires c).Else-is_err)).low
