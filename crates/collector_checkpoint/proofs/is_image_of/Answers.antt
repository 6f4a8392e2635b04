-- `collector_checkpoint::is_image_of` meets its contract: the state is tested, its image written once more, and compared.
use mathlib.Core.Path.{◌≡◌, sym, ap, ◌∙◌}
use mathlib.Core.Bool.{true}
use mathlib.Core.List.{List, append-nil}
use Prim.Native.Nat.{ℕ}
use native.Mathlib.Omega.{arith}
use Rattle.base_lists.specs.Lists.{equal}
use Rattle.collector_model.specs.Acceptable.{acceptable}
use Rattle.collector_state.specs.Collector.{columns_held, view_in}
use Rattle.collector_checkpoint.proofs.Writing.{writable_state}
use Rattle.collector_checkpoint.proofs.is_image_of.Goals.{Else-not-is_acceptable}
use Rattle.collector_checkpoint.proofs.is_image_of.Goals as goal

passed : (c : Else-not-is_acceptable)
    → acceptable (view_in (columns_held c.args.state) c.args.state.summary) ≡ true
passed c = sym c.is_acceptable.ensures ∙ c.if-not-is_acceptable.false

pub returns-then-not-is_acceptable : goal.returns-then-not-is_acceptable
returns-then-not-is_acceptable c = rw (sym c.is_acceptable.ensures ∙ c.if-not-is_acceptable.true)

pub put_image-requires : goal.put_image-requires
put_image-requires c =
    (omega arith, writable_state _ _ (passed (goal.at.put_image-requires c).Else-not-is_acceptable))

pub returns : goal.returns
returns c =
    rw (passed (goal.at.returns c).Else-not-is_acceptable)
    (c.equal.ensures
    ∙ ap (λ (ys : List ℕ). equal ys c.args.image.now) (c.put_image.ensures ∙ append-nil _))
