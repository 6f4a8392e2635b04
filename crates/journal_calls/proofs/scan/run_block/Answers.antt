-- `journal_calls::scan::run_block` meets its contract: each return is one case of `run_block`.
use mathlib.Core.Path.{sym, ◌∙◌}
use native.Mathlib.Omega.{arith}
use Rattle.archive_file.proofs.Scans.{sound_le}
use Rattle.journal_calls.specs.Run.{run_of}
use Rattle.journal_calls.proofs.Runs.{run_facts, block-ended, block_unsound, block-number, block-passed}
use Rattle.journal_calls.proofs.scan.run_block.Goals as goal

pub returns-then-r : goal.returns-then-r
returns-then-r c = let a = c.args in block-ended (run_of a.r) a.block.now c.if-r.true

pub returns-then-used-eq0 : goal.returns-then-used-eq0
returns-then-used-eq0 c =
    let a = c.args in
    block_unsound (run_of a.r) a.block.now c.if-r.false (sym c.sound-used.ensures ∙ c.if-used-eq0.true)

pub returns-then-number_of-place : goal.returns-then-number_of-place
returns-then-number_of-place c =
    let a = c.args in
    block-number (run_of a.r) a.block.now c.if-r.false (λ z. c.if-used-eq0.false (c.sound-used.ensures ∙ z))
    (λ z. c.if-number_of-place.true (c.number_of.ensures ∙ z))

pub returns : goal.returns
returns c =
    let a = c.args in
    block-passed (run_of a.r) a.block.now c.if-r.false (λ z. c.if-used-eq0.false (c.sound-used.ensures ∙ z))
    c.sound-used.result c.sound-used.ensures (sym c.number_of.ensures ∙ c.if-number_of-place.false)

pub overflow_add-result : goal.overflow_add-result
overflow_add-result c = omega (arith, run_facts (run_of c.args.r) c.requires.1)

pub nonzero_rem-result : goal.nonzero_rem-result
nonzero_rem-result c = omega (arith, run_facts (run_of c.args.r) c.requires.1)

pub overflow_add-result-3 : goal.overflow_add-result-3
overflow_add-result-3 c =
    omega (arith, run_facts (run_of c.args.r) c.requires.1, c.sound-used.ensures, sound_le c.args.block.now)
