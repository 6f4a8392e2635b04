-- `c_report::store` meets its contract.
use mathlib.Core.Path.{refl, sym, ap}
use mathlib.Core.List.{[], ◌∷◌}
use Prim.Native.Nat.{ℕ}
use Rattle.archive_report.proofs.Windows.{lines-count}
use Rattle.c_report.proofs.store.Goals as goal

pub returns : goal.returns
returns c =
    let r = c.args.r in
    (refl, ap (λ (n : ℕ). r.archives ∷ n ∷ r.kept ∷ r.loose ∷ []) (sym (lines-count r.lines 0 r.count)), refl)
