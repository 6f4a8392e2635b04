-- `radio_erp2::is_unholdable` meets its contract: by the form.
use mathlib.Core.Path.{◌≡◌, ap, ◌∙◌}
use Prim.Native.Nat.{ℕ, ◌^◌}
use borrow.Author.Tests.{eq-eqb, ne_eqb}
use Rattle.radio_erp2_model.specs.declared.Sizes.{Sizes}
use Rattle.radio_erp2_model.specs.declared.Telegram.{Telegram}
use Rattle.radio_erp2_model.specs.Building.{sizes_for, is_unholdable}
use Rattle.radio_erp2.proofs.Admitting.{for_high}
use Rattle.radio_erp2.proofs.is_unholdable.Goals as goal

pub limit-requires : goal.limit-requires
limit-requires c = rw c.sizes_for-z.ensures (for_high c.args.t)

limit_is : (t : Telegram) (z : Sizes) (n : ℕ) → z ≡ sizes_for t → n ≡ 256 ^ z.originator
    → n ≡ 256 ^ (sizes_for t).originator
limit_is t z n e h = h ∙ ap (λ (y : Sizes). 256 ^ y.originator) e

pub returns-then-t-ne0 : goal.returns-then-t-ne0
unfolding is_unholdable
returns-then-t-ne0 c =
    rw (limit_is c.args.t _ _ c.sizes_for-z.ensures c.limit.ensures, ne_eqb _ _ c.if-t-ne0.true)

pub returns : goal.returns
unfolding is_unholdable
returns c =
    rw (
      limit_is c.args.t _ _ c.sizes_for-z.ensures c.limit.ensures,
      eq-eqb _ _ c.if-t-ne0.false,
      c.is_extension_over.ensures,
    )
