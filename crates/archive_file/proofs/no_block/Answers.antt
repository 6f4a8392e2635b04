-- `archive_file::no_block` meets its contract.
use Prim.Native.Nat.{ℕ}
use mathlib.Core.Path.{sym, ap}
use borrow.Author.Tests.{eq-eqb}
use Rattle.std.proofs.lemmas.Result.{err_from_is_err_and}
use Rattle.radio_erp1.proofs.Checks.{not_valid}
use Rattle.archive_model.specs.Append.{refused_append}
use Rattle.archive_file.proofs.no_block.Goals as goal

pub returns : goal.returns
returns c old = rw (eq-eqb _ 0 (sym c.in_ok-check.ensures))

pub returns-in_err-check : goal.returns-in_err-check
returns-in_err-check c old =
    let p = err_from_is_err_and c.from_residual.result c.from_residual.ensures.1 in
    rw (p.1, p.2, not_valid _ c.in_err-check.field-0.0 c.in_err-check.ensures)
    (ap (λ (n : ℕ). refused_append n 0 old) c.in_err-check.ensures)
