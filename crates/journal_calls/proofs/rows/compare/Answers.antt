-- `journal_calls::rows::compare` meets its contract: each return is one case of `compare_call`.
use mathlib.Core.Path.{◌≡◌, sym, ap, ap₂, ◌∙◌}
use mathlib.Core.Bool.{cond}
use mathlib.Core.List.{List}
use Prim.Native.Nat.{ℕ, ◌-◌}
use borrow.Author.Tests.{eqb-true}
use lib.Dec.{leb}
use lib.ListN.{length}
use Rattle.archive_model.specs.Row.{Row}
use Rattle.archive_fill.specs.Fill.{rows_given}
use Rattle.archive_fill.proofs.Records.{rows-count}
use Rattle.journal_model.specs.Disk.{agreeing}
use Rattle.journal_calls.proofs.Agreed.{beside, compare_new, compare_left, compare_done, going-count}
use Rattle.journal_calls.proofs.rows.compare.Goals as goal

pub returns-then-not-are_records : goal.returns-then-not-are_records
returns-then-not-are_records c = λ agreed going.
    let a = c.args in
    compare_new a.times.now a.rows.now a.moments.now a.left.now agreed going
    (sym c.are_records.ensures ∙ c.if-not-are_records.true)

pub returns-then-not-are_records-2 : goal.returns-then-not-are_records-2
returns-then-not-are_records-2 c = λ agreed going.
    let a = c.args in
    compare_left a.times.now a.rows.now a.moments.now a.left.now agreed going
    (sym c.are_records.ensures ∙ c.if-not-are_records.false)
    (sym c.are_records-2.ensures ∙ c.if-not-are_records-2.true)

pub returns : goal.returns
returns c = λ agreed going.
    let a = c.args in
    let new : List Row = rows_given a.times.now a.rows.now in
    let left : List Row = rows_given a.moments.now a.left.now in
    let nc = rows-count a.times.now a.rows.now in
    let lc = rows-count a.moments.now a.left.now in
    let going_is : c.going_of-going.result ≡ cond (leb (length new) (agreeing new left)) 0
    (length left - agreeing new left) =
    c.going_of-going.ensures
    ∙ ap (λ (n : ℕ). cond (leb (length a.times.now) n) 0 (length a.moments.now - n)) c.agree-agreed.ensures.0
    ∙ ap₂ (λ (n m : ℕ). cond (leb n (agreeing new left)) 0 (m - agreeing new left)) (sym nc) (sym lc) in
    ap₂ (λ (n m : ℕ). beside n m 0) c.agree-agreed.ensures.0 (going_is ∙ going-count new left)
    ∙ compare_done a.times.now a.rows.now a.moments.now a.left.now agreed going
    (sym c.are_records.ensures ∙ c.if-not-are_records.false)
    (sym c.are_records-2.ensures ∙ c.if-not-are_records-2.false)

pub agree-agreed-requires : goal.agree-agreed-requires
agree-agreed-requires c = (
  eqb-true _ _ (sym c.are_records.ensures ∙ c.if-not-are_records.false),
  eqb-true _ _ (sym c.are_records-2.ensures ∙ c.if-not-are_records-2.false),
)

pub going_of-going-requires : goal.going_of-going-requires
going_of-going-requires c = c.agree-agreed.ensures.1
