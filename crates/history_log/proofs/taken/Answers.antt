-- `history_log::taken` meets its contract: no right first line has ended, or one has.
use native.Mathlib.Omega.{arith}
use Rattle.history_log.proofs.Noting.{none_taken, all_text}
use Rattle.history_log.proofs.taken.Goals as goal

pub returns-then-setting-gt-MAX_SETTING : goal.returns-then-setting-gt-MAX_SETTING
returns-then-setting-gt-MAX_SETTING c =
    none_taken c.args.log.now (omega (arith, c.if-setting-gt-MAX_SETTING.true, c.first_line-setting.ensures.0))

pub returns : goal.returns
returns c =
    all_text c.args.log.now (omega (arith, c.if-setting-gt-MAX_SETTING.false, c.first_line-setting.ensures.0))
