-- `archive_repack::move_front` meets its contract: the cells behind the first 15 are copied over those.
use mathlib.Core.Path.{ap₂, ◌∙◌}
use mathlib.Core.List.{List, ◌++◌}
use Prim.Native.Nat.{ℕ}
use Rattle.archive_repack.proofs.move_front.Goals as goal

pub returns : goal.returns
returns c =
    let back = c.split_at_mut-front.ensures.back in
    ap₂ (λ (x y : List ℕ). x ++ y) (c.copy_from_slice.ensures.after ∙ back) back
