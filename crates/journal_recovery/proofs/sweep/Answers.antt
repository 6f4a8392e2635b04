-- `journal_recovery::sweep` meets its contract: the scan counts the blocks that stay, and those behind them are cleared.
use Prim.Native.Nat.{ℕ, ◌+◌, ◌-◌, ◌*◌, ◌≤◌, ◌<◌}
use native.Mathlib.Omega.{arith}
use mathlib.Core.Path.{◌≡◌, refl, ap, ◌∙◌}
use mathlib.Core.List.{List}
use lib.ListN.{length, get_or}
use Rattle.std.specs.Prelude.{Result, Ok, Err, ⊤, IsOk}
use Rattle.base_refusal.specs.Number.{outcome_number}
use Rattle.base_refusal.specs.declared.Refusal.{Refusal}
use Rattle.base_refusal.proofs.Numbers.{refused-number}
use Rattle.base_buffers.proofs.Segments as segments
use Rattle.block_layout.specs.Block.{cells_per_block, block_length}
use Rattle.archive_model.specs.Buffer.{blocks_for, max_blocks, max_rows}
use Rattle.journal_model.specs.Disk.{whole_blocks}
use Rattle.journal_calls.specs.Run.{RunCall}
use Rattle.journal_recovery.specs.Private.{run_rows, swept_at}
use Rattle.journal_recovery.proofs.Swept.{swept, scanned, scan_done, scan_end}
use Rattle.journal_recovery.proofs.sweep.Goals as goal

-- the block with the last counted row is in the file
there : (rows m at : ℕ) → at ≡ blocks_for rows - 1 → rows ≤ max_rows → blocks_for rows ≤ m
    → (at ≤ m) × (at < max_blocks)
there rows m at e few h = (omega (arith, e, h), omega (arith, e, few))

-- the answer of `feed`
abbrev fed : Result ⊤ Refusal → List ℕ → RunCall
fed r numbers = record { number = outcome_number r; numbers = numbers }

done_ok : (r : Result ⊤ Refusal) → outcome_number r ≡ 0 → IsOk r
done_ok (Ok tt) e = refl
done_ok (Err why) e = absurd (refused-number why e)

pub unwrap-requires : goal.unwrap-requires
unwrap-requires c =
    let file = c.args.file.now in
    let at = c.last_used-at.result in
    let h = there c.args.rows (whole_blocks file) at c.last_used-at.ensures c.requires.0 c.requires.2 in
    done_ok c.feed.result
    (scan_done at file h.0 h.1 c.requires.1 (fed c.feed.result c.feed.new.numbers) c.feed.ensures)

pub overflow_add-behind : goal.overflow_add-behind
overflow_add-behind c =
    let file = c.args.file.now in
    let at = c.last_used-at.result in
    let h = there c.args.rows (whole_blocks file) at c.last_used-at.ensures c.requires.0 c.requires.2 in
    omega (arith, scan_end at file h.0 h.1 c.requires.1 (fed c.feed.result c.feed.new.numbers) c.feed.ensures)

pub overflow_mul-behind : goal.overflow_mul-behind
overflow_mul-behind c =
    let file = c.args.file.now in
    let at = c.last_used-at.result in
    let h = there c.args.rows (whole_blocks file) at c.last_used-at.ensures c.requires.0 c.requires.2 in
    omega (arith, scan_end at file h.0 h.1 c.requires.1 (fed c.feed.result c.feed.new.numbers) c.feed.ensures)

pub slice_bounds-clear-count : goal.slice_bounds-clear-count
slice_bounds-clear-count c =
    let file = c.args.file.now in
    let at = c.last_used-at.result in
    let h = there c.args.rows (whole_blocks file) at c.last_used-at.ensures c.requires.0 c.requires.2 in
    omega (arith, scan_end at file h.0 h.1 c.requires.1 (fed c.feed.result c.feed.new.numbers) c.feed.ensures)

pub slice_bounds-clear-start : goal.slice_bounds-clear-start
slice_bounds-clear-start c =
    let file = c.args.file.now in
    let at = c.last_used-at.result in
    let h = there c.args.rows (whole_blocks file) at c.last_used-at.ensures c.requires.0 c.requires.2 in
    omega (arith, scan_end at file h.0 h.1 c.requires.1 (fed c.feed.result c.feed.new.numbers) c.feed.ensures)

pub returns : goal.returns
returns c =
    let n = c.args.rows in
    let file = c.args.file.now in
    let at = c.last_used-at.result in
    let numbers = c.feed.new.numbers in
    let h = there n (whole_blocks file) at c.last_used-at.ensures c.requires.0 c.requires.2 in
    let counts = scanned at file h.0 h.1 c.requires.1 (fed c.feed.result numbers) c.feed.ensures in
    let end = at + get_or numbers 2 0 in
    let inside = scan_end at file h.0 h.1 c.requires.1 (fed c.feed.result numbers) c.feed.ensures in
    let m = block_length * whole_blocks file in
    let b = segments.wipe
    (segments.skip (segments.begin file) (block_length * end) (omega arith) (omega (arith, inside)))
    c.clear.new.out m c.clear.ensures c.clear.auto.out (omega (arith, inside)) (omega arith) in
    record {
      rows =
          c.saturating_sub.ensures ∙ ap (λ (k : ℕ). k - (n - cells_per_block * at)) counts.count
          ∙ ap (λ (k : ℕ). length (run_rows k file) - (n - cells_per_block * k)) c.last_used-at.ensures;
      bytes =
          swept at file h.0 end (ap (λ (k : ℕ). at + k) counts.blocks) _ b
          ∙ ap (λ (k : ℕ). swept_at k file) c.last_used-at.ensures;
    }
