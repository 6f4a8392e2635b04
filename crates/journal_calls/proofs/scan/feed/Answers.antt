-- `journal_calls::scan::feed` meets its contract: each return is one case of `run_call`.
use mathlib.Core.Path.{sym, ap, ◌∙◌}
use mathlib.Core.Bool.{not}
use mathlib.Core.List.{List}
use Prim.Native.Nat.{ℕ}
use native.Mathlib.Omega.{arith}
use borrow.Author.Tests.{not-true}
use Rattle.archive_model.specs.Buffer.{blocks_in}
use Rattle.journal_calls.specs.Run.{Run, RunCall, run_of, is_run, run_blocks}
use Rattle.journal_calls.proofs.Runs.{run_facts, feed-not, feed_odd, feed_many, feed-done}
use Rattle.journal_calls.proofs.scan.feed.Goals as goal

-- the answer with these numbers
abbrev beside : List ℕ → RunCall
beside l = record { number = 0; numbers = l }

pub returns-then-not-is_run : goal.returns-then-not-is_run
returns-then-not-is_run c =
    feed-not c.args.numbers.now c.args.piece.now
    (sym (ap is_run c.from-r.ensures) ∙ sym c.is_run.ensures ∙ not-true _ (ap not c.if-not-is_run.true))

pub returns-then-piece-ne0 : goal.returns-then-piece-ne0
returns-then-piece-ne0 c =
    let yes = sym (ap is_run c.from-r.ensures) ∙ sym c.is_run.ensures ∙ c.if-not-is_run.false in
    feed_odd c.args.numbers.now c.args.piece.now yes c.if-piece-ne0.true

pub returns-then-passed-piece-gt-MAX_BLOCKS : goal.returns-then-passed-piece-gt-MAX_BLOCKS
returns-then-passed-piece-gt-MAX_BLOCKS c =
    let yes = sym (ap is_run c.from-r.ensures) ∙ sym c.is_run.ensures ∙ c.if-not-is_run.false in
    let said = ap (λ (r : Run). r.blocks) c.from-r.ensures in
    feed_many c.args.numbers.now c.args.piece.now yes c.if-piece-ne0.false
    (omega (arith, c.if-passed-piece-gt-MAX_BLOCKS.true, said))

pub returns : goal.returns
returns c =
    let yes = sym (ap is_run c.from-r.ensures) ∙ sym c.is_run.ensures ∙ c.if-not-is_run.false in
    let said = ap (λ (r : Run). r.blocks) c.from-r.ensures in
    ap (λ (l : List ℕ). beside l) c.into.ensures
    ∙ feed-done c.args.numbers.now c.args.piece.now yes c.if-piece-ne0.false
    (omega (arith, c.if-passed-piece-gt-MAX_BLOCKS.false, said)) (run_of c.run_blocks-next.result)
    (c.run_blocks-next.ensures ∙ ap (λ (r : Run). run_blocks r (blocks_in c.args.piece.now)) c.from-r.ensures)

pub overflow_add-passed : goal.overflow_add-passed
overflow_add-passed c =
    omega (arith, run_facts (run_of c.from-r.result) (sym c.is_run.ensures ∙ c.if-not-is_run.false))

pub run_blocks-next-requires : goal.run_blocks-next-requires
run_blocks-next-requires c =
    (sym c.is_run.ensures ∙ c.if-not-is_run.false, c.if-passed-piece-gt-MAX_BLOCKS.false)
