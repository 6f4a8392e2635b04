-- `archive_repack::dropped_in` meets its contract.
use mathlib.Core.Path.{◌≡◌, ap, ◌∙◌}
use mathlib.Core.List.{List, ◌++◌}
use Prim.Native.Nat.{ℕ, ◌+◌, ◌<◌}
use native.Mathlib.Omega.{arith}
use lib.ListN.{length}
use Rattle.std.specs.Int.{from_bool}
use Rattle.block_layout.specs.Block.{block_length}
use Rattle.archive_repack_model.specs.Repack.{is_dropped, dropped}
use Rattle.archive_repack_model.proofs.Rows.{dropped-count}
use Rattle.archive_repack.proofs.Walks.{dropped_of, dropped_none, dropped_next, dropped_few}
use Rattle.archive_repack.proofs.dropped_in.Goals as goal

-- a turn: one block is counted
turn : (buffer block left all : List ℕ) (gone n : ℕ) → length block ≡ block_length
    → gone + dropped_of all ≡ length (dropped buffer)
    → all ≡ block ++ left → n ≡ from_bool (is_dropped block) → (gone + n) + dropped_of left ≡ length (dropped buffer)
turn buffer block left all gone n h was e is =
    omega (arith, was, is, ap dropped_of e, dropped_next block left h)

pub loop-block-init : goal.loop-block-init
loop-block-init c =
    let buffer = c.args.buffer.now in
    let e : c.into_iter-block-iterator.result.rest.now ≡ buffer = cc in
    record { sized = cc; rest = omega (arith, ap dropped_of e, dropped-count buffer) }

pub loop-block-preserved : goal.loop-block-preserved
loop-block-preserved c =
    let s = c.in-Some.ensures.steps in
    record {
      sized = s.0 ∙ c.loop-block.invariant.sized;
      rest =
          turn c.args.buffer.now c.in-Some.block.now c.next.new.self.rest.now _ c.loop-block.gone _
          (s.1.1 ∙ c.loop-block.invariant.sized) c.loop-block.invariant.rest s.1.0
          (c.from-gone.ensures ∙ ap from_bool c.is_dropped.ensures);
    }

pub overflow_add-gone : goal.overflow_add-gone
overflow_add-gone c =
    let s = c.in-Some.ensures.steps in
    omega (
      arith,
      turn c.args.buffer.now c.in-Some.block.now c.next.new.self.rest.now _ c.loop-block.gone _
          (s.1.1 ∙ c.loop-block.invariant.sized) c.loop-block.invariant.rest s.1.0
          (c.from-gone.ensures ∙ ap from_bool c.is_dropped.ensures),
      dropped_few c.args.buffer.now,
    )

pub returns : goal.returns
returns c =
    let left = c.loop-block.block-iterator.rest.now in
    let few : length left < block_length = omega (arith, c.in-None.ensures.steps.1.0, c.loop-block.invariant.sized) in
    omega (arith, dropped_none left few, c.loop-block.invariant.rest)
