-- `radio_erp2::is_misfitting` meets its contract: by the form, after data that is too long for any.
use mathlib.Core.Bool.{not}
use mathlib.Core.Path.{◌≡◌, ap, ◌∙◌}
use Prim.Native.Nat.{ℕ, ◌+◌, ◌≤◌}
use native.Mathlib.Omega.{arith}
use borrow.Author.Rules.{rules}
use borrow.Author.Tests.{eq-eqb, ne_eqb}
use Rattle.radio_erp2_model.specs.declared.Telegram.{Telegram}
use Rattle.radio_erp2_model.specs.Sizes.{overhead}
use Rattle.radio_erp2_model.specs.Building.{sizes_for, telegram_size}
use Rattle.radio_erp2.proofs.Admitting.{for_small, long_data, short_misfit, long_misfit}
use Rattle.radio_erp2.proofs.is_misfitting.Goals as goal

pub returns-then-t-gt-MAX_DATA : goal.returns-then-t-gt-MAX_DATA
returns-then-t-gt-MAX_DATA c = long_data _ c.requires c.if-t-gt-MAX_DATA.true

pub overhead-requires : goal.overhead-requires
overhead-requires c = rw c.sizes_for.ensures (for_small c.args.t (search rules))

pub overflow_add-size : goal.overflow_add-size
overflow_add-size c =
    let small : c.overhead.result ≤ 300
    = rw (c.overhead.ensures, c.sizes_for.ensures) (for_small c.args.t (search rules)) in
    let least : c.args.t.len ≤ 250 = c.if-t-gt-MAX_DATA.false in
    omega (arith, small, least)

size_is : (t : Telegram) (n : ℕ) → n ≡ overhead (sizes_for t) → n + t.len ≡ telegram_size t
unfolding telegram_size
size_is t n e = ap (λ (m : ℕ). m + t.len) e

pub returns-then-t-ne0 : goal.returns-then-t-ne0
returns-then-t-ne0 c =
    rw (size_is c.args.t _ (c.overhead.ensures ∙ ap overhead c.sizes_for.ensures), c.from.ensures)
    (short_misfit c.args.t (ap not (ne_eqb _ _ c.if-t-ne0.true)))

pub returns : goal.returns
returns c =
    rw (size_is c.args.t _ (c.overhead.ensures ∙ ap overhead c.sizes_for.ensures))
    (long_misfit c.args.t (ap not (eq-eqb _ _ c.if-t-ne0.false)))
