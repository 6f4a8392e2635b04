-- `c_codec::telegram_in` meets its contract: DESTID is there where the flag is not 0.
use Rattle.std.proofs.Common.{◌≡◌, ◌∙◌, Bool, true, false, cond, not, List, ℕ, Some, None, refl}
use Rattle.std.specs.Bool.{then_some}
use Rattle.c_codec.specs.Fields.{telegram_in}
use Rattle.c_codec.proofs.telegram_in.Goals as goal

flagged : (zero : Bool) (d : List ℕ) → then_some (not zero) d ≡ cond zero None (Some d)
flagged true d = refl
flagged false d = refl

pub returns : goal.returns
unfolding telegram_in
returns c =
    let destid = c.then_some.ensures ∙ flagged _ c.array_of-destid.result in
    cc
