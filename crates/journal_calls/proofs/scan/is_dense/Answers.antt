-- `journal_calls::scan::is_dense` meets its contract: each return is one case of `is_dense`.
use native.Mathlib.Omega.{arith}
use Rattle.journal_calls.proofs.Runs.{dense_many, dense_ended, dense_on}
use Rattle.journal_calls.proofs.scan.is_dense.Goals as goal

pub overflow_mul-most : goal.overflow_mul-most
overflow_mul-most c = omega (arith, c.requires)

pub returns-then-most-rows : goal.returns-then-most-rows
returns-then-most-rows c = let a = c.args in dense_many a.ended a.blocks a.rows c.if-most-rows.true

pub overflow_add-result : goal.overflow_add-result
overflow_add-result c = omega (arith, c.if-most-rows.false, c.requires)

pub returns-then-ended : goal.returns-then-ended
returns-then-ended c =
    let a = c.args in
    dense_ended a.ended a.blocks a.rows c.if-most-rows.false c.if-ended.true

pub returns : goal.returns
returns c =
    let a = c.args in
    dense_on a.ended a.blocks a.rows c.if-most-rows.false c.if-ended.false
