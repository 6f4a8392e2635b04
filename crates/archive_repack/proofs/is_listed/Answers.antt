-- `archive_repack::is_listed` meets its contract: some element passes the test.
use mathlib.Core.Path.{◌≡◌}
use Prim.Native.Nat.{ℕ}
use borrow.Author.Rules.{rules}
use borrow.Author.Tests.{tests}
use Rattle.std.proofs.lemmas.Iterator.{cases_from_any, YieldsList-from_slice}
use Rattle.archive_repack.proofs.Cells.{any_is}
use Rattle.archive_repack.proofs.is_listed.Goals as goal

pub returns : goal.returns
returns c =
    let x = c.args.identity in
    any_is x c.args.identities.now c.any.result
    (cases_from_any _ _ _ (λ (y : ℕ). y ≡ x) (λ (y : ℕ). y ≡ x → ⊥) c.any.ensures.ran
    (YieldsList-from_slice c.args.identities.now cc)
    (λ y q k. search (rules, tests)) (λ y q k. search (rules, tests)))
