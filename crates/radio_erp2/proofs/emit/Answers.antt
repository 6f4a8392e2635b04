-- `radio_erp2::emit` meets its contract: no room, or the row.
use mathlib.Core.Path.{◌≡◌, ◌∙◌, ap}
use Prim.Native.Nat.{ℕ, ◌+◌, ◌≤◌}
use native.Mathlib.Omega.{arith}
use borrow.Author.Rules.{rules}
use Rattle.radio_erp2_model.specs.declared.Telegram.{Telegram}
use Rattle.radio_erp2_model.specs.declared.Sizes.{Sizes}
use Rattle.radio_erp2_model.specs.Sizes.{overhead}
use Rattle.radio_erp2_model.specs.Building.{sizes_for, telegram_size}
use Rattle.radio_erp2_model.specs.Claims.{Shaped}
use Rattle.radio_erp2.specs.Private.{row_written}
use Rattle.radio_erp2.proofs.Admitting.{for_small}
use Rattle.radio_erp2.proofs.Emitting.{build_short, build_done, laid_built, data_most}
use Rattle.radio_erp2.proofs.emit.Goals as goal

pub overhead-requires : goal.overhead-requires
overhead-requires c = rw c.sizes_for-z.ensures (for_small c.args.t (search rules))

pub overflow_add-end : goal.overflow_add-end
overflow_add-end c =
    let few : c.overhead.result ≤ 300
    = rw (c.overhead.ensures, c.sizes_for-z.ensures) (for_small c.args.t (search rules)) in
    omega arith

pub overflow_add-end-2 : goal.overflow_add-end-2
overflow_add-end-2 c =
    let few : c.overhead.result ≤ 300
    = rw (c.overhead.ensures, c.sizes_for-z.ensures) (for_small c.args.t (search rules)) in
    omega (arith, few, data_most c.args.t c.requires)

end_is : (t : Telegram) (z : Sizes) (n : ℕ) → n ≡ overhead z → z ≡ sizes_for t → 1 + n + t.len ≡ 1 + telegram_size t
unfolding telegram_size
end_is t z n e f = ap (λ (m : ℕ). 1 + m + t.len) (e ∙ ap overhead f) ∙ omega arith

pub returns-then-out-end : goal.returns-then-out-end
returns-then-out-end c =
    let end = end_is c.args.t _ _ c.overhead.ensures c.sizes_for-z.ensures in
    build_short _ c.requires _ (rw end at c.if-out-end.true)

pub put_row-requires : goal.put_row-requires
put_row-requires c =
    let end = end_is c.args.t _ _ c.overhead.ensures c.sizes_for-z.ensures in
    rw c.sizes_for-z.ensures (laid_built _ c.requires _ (rw end at c.if-out-end.false))

pub returns : goal.returns
returns c =
    let t = c.args.t in
    let end = end_is t _ _ c.overhead.ensures c.sizes_for-z.ensures in
    let shaped : Shaped t
    = record { payload = search rules; optional = search rules; value = search rules; id = search rules } in
    build_done _ c.requires _ shaped (rw end at c.if-out-end.false) _ end _
    (c.put_row.ensures ∙ ap (λ (z : Sizes). row_written t z c.args.out.now) c.sizes_for-z.ensures)
