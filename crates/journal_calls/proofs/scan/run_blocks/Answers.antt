-- The goals that a search does not find.
use mathlib.Core.Path.{◌≡◌, sym, ap, ◌∙◌}
use mathlib.Core.List.{List}
use Prim.Native.Nat.{ℕ, ◌<◌}
use native.Mathlib.Omega.{arith}
use lib.ListN.{length, length-append}
use Rattle.block_layout.specs.Block.{block_length}
use Rattle.archive_model.specs.Buffer.{blocks_in, max_blocks}
use Rattle.journal_calls.specs.Run.{Run, run_of, run_blocks}
use Rattle.journal_calls.proofs.Runs.{run_facts, run_is, Next, block_next, run_next, run_none}
use Rattle.journal_calls.proofs.scan.run_blocks.Goals as goal

pub loop-block-init : goal.loop-block-init
loop-block-init c =
    let e : c.into_iter-block-iterator.result.rest.now ≡ c.args.piece.now = cc in
    record {
      sized = cc;
      facts = run_facts (run_of c.args.r) c.requires.0;
      passed = omega (arith, ap length e);
      rest = ap (λ (l : List ℕ). run_blocks (run_of c.args.r) (blocks_in l)) e;
    }

pub run_block-at-requires : goal.run_block-at-requires
run_block-at-requires c =
    let s = c.in-Some.ensures.steps.1 in
    let v = c.loop-block.invariant in
    let long : length c.in-Some.block.now ≡ block_length = s.1 ∙ v.sized in (
      long,
      run_is (run_of c.loop-block.at) v.facts,
      omega (
        arith,
        ap length s.0,
        length-append c.in-Some.block.now c.next.new.self.rest.now,
        long,
        v.passed,
        c.requires,
      ),
    )

pub loop-block-preserved : goal.loop-block-preserved
loop-block-preserved c =
    let s = c.in-Some.ensures.steps in
    let v = c.loop-block.invariant in
    let block = c.in-Some.block.now in
    let left = c.next.new.self.rest.now in
    let long : length block ≡ block_length = s.1.1 ∙ v.sized in
    let r = run_of c.loop-block.at in
    let e = c.run_block-at.ensures in
    let few : c.loop-block.at.blocks < max_blocks =
    omega (arith, ap length s.1.0, length-append block left, long, v.passed, c.requires) in
    let n : Next r block (run_of c.run_block-at.result) = rw e (block_next r block v.facts few) in
    record {
      sized = s.0 ∙ v.sized;
      facts = n.facts;
      passed = omega (arith, ap length s.1.0, length-append block left, long, n.bound, v.passed);
      rest =
          ap (λ (x : Run). run_blocks x (blocks_in left)) e
          ∙ sym (run_next r block left long)
          ∙ sym (ap (λ (l : List ℕ). run_blocks r (blocks_in l)) s.1.0)
          ∙ v.rest;
    }

pub returns : goal.returns
returns c =
    let left = c.loop-block.block-iterator.rest.now in
    let few : length left < block_length = omega (arith, c.in-None.ensures.steps.1.0, c.loop-block.invariant.sized) in
    sym (run_none (run_of c.loop-block.at) left few) ∙ c.loop-block.invariant.rest
