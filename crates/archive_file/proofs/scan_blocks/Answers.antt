-- `archive_file::scan_blocks` meets its contract.
use mathlib.Core.Path.{◌≡◌, sym, ap, ◌∙◌}
use mathlib.Core.List.{List}
use Prim.Native.Nat.{ℕ, ◌<◌}
use native.Mathlib.Omega.{arith}
use lib.ListN.{length, length-append}
use Rattle.block_layout.specs.Block.{block_length}
use Rattle.archive_model.specs.Buffer as buffer
use Rattle.archive_file.specs.Archive.{scan_of}
use Rattle.archive_file.proofs.Scans.{scanned-count, scan_next, scan_none}
use Rattle.archive_file.proofs.scan_blocks.Goals as goal

pub loop-block-init : goal.loop-block-init
loop-block-init c =
    let e : c.into_iter-block-iterator.result.rest.now ≡ c.args.piece.now = cc in
    record {
      sized = cc;
      passed = omega (arith, ap length e);
      few = omega arith;
      rest = ap (λ (l : List ℕ). buffer.scan_blocks (scan_of c.args.s) (buffer.blocks_in l)) e;
    }

pub scan_block-at-requires : goal.scan_block-at-requires
scan_block-at-requires c =
    let s = c.in-Some.ensures.steps.1 in
    let long : length c.in-Some.block.now ≡ block_length = s.1 ∙ c.loop-block.invariant.sized in
    (long, omega (arith, ap length s.0, length-append c.in-Some.block.now c.next.new.self.rest.now, long), omega arith)

pub loop-block-preserved : goal.loop-block-preserved
loop-block-preserved c =
    let s = c.in-Some.ensures.steps in
    let block = c.in-Some.block.now in
    let left = c.next.new.self.rest.now in
    let long : length block ≡ block_length = s.1.1 ∙ c.loop-block.invariant.sized in
    let e = c.scan_block-at.ensures.0 in
    record {
      sized = s.0 ∙ c.loop-block.invariant.sized;
      passed = omega (arith, ap length s.1.0, length-append block left, long, scanned-count _ _ _ e);
      few = c.scan_block-at.ensures.1;
      rest =
          ap (λ (x : buffer.Scan). buffer.scan_blocks x (buffer.blocks_in left)) e
          ∙ sym (scan_next block left long (scan_of c.loop-block.at))
          ∙ sym (ap (λ (l : List ℕ). buffer.scan_blocks (scan_of c.loop-block.at) (buffer.blocks_in l)) s.1.0)
          ∙ c.loop-block.invariant.rest;
    }

pub returns : goal.returns
returns c =
    let left = c.loop-block.block-iterator.rest.now in
    let few : length left < block_length = omega (arith, c.in-None.ensures.steps.1.0, c.loop-block.invariant.sized) in
    sym (scan_none (scan_of c.loop-block.at) left few) ∙ c.loop-block.invariant.rest
