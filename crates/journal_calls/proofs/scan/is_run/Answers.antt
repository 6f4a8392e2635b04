-- `journal_calls::scan::is_run` meets its contract: each test is one of `is_run`.
use mathlib.Core.Path.{◌∙◌}
use Rattle.journal_calls.specs.Run.{run_of}
use Rattle.journal_calls.proofs.Runs.{run-limit, run-place, run_many, run_dense}
use Rattle.journal_calls.proofs.scan.is_run.Goals as goal

pub returns-then-limit-gt-MAX_BLOCKS : goal.returns-then-limit-gt-MAX_BLOCKS
returns-then-limit-gt-MAX_BLOCKS c = run-limit (run_of c.args.r) c.if-limit-gt-MAX_BLOCKS.true

pub returns-then-limit-r : goal.returns-then-limit-r
returns-then-limit-r c = run-place (run_of c.args.r) c.if-limit-gt-MAX_BLOCKS.false c.if-limit-r.true

pub returns-then-blocks-gt-MAX_BLOCKS : goal.returns-then-blocks-gt-MAX_BLOCKS
returns-then-blocks-gt-MAX_BLOCKS c =
    run_many (run_of c.args.r) c.if-limit-gt-MAX_BLOCKS.false c.if-limit-r.false c.if-blocks-gt-MAX_BLOCKS.true

pub is_dense-requires : goal.is_dense-requires
is_dense-requires c = c.if-blocks-gt-MAX_BLOCKS.false

pub returns : goal.returns
returns c =
    c.is_dense.ensures ∙ run_dense (run_of c.args.r) c.if-limit-gt-MAX_BLOCKS.false c.if-limit-r.false
    c.if-blocks-gt-MAX_BLOCKS.false
