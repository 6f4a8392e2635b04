-- The goals that a search does not find.
use native.Mathlib.Omega.{arith}
use mathlib.Core.Path.{refl, sym, ap, ◌∙◌}
use mathlib.Core.List.{List}
use Prim.Native.Nat.{ℕ, ◌+◌, ◌*◌, ◌≤◌}
use lib.ListN.{length}
use Rattle.block_layout.specs.Cell.{cell_length}
use Rattle.block_layout.specs.Block.{header_length}
use Rattle.base_buffers.proofs.Segments.{part_length, part-ends}
use Rattle.archive_model.specs.Row.{row_in, is_row}
use Rattle.archive_report_model.specs.Report.{line_of_row}
use Rattle.archive_report_model.proofs.Lines.{more-insert}
use Rattle.base_buffers.specs.Buffer.{part}
use Rattle.archive_report.specs.Lines.{lines_at}
use Rattle.archive_report.proofs.Windows.{lines-count, inserted_as}
use Rattle.archive_report.proofs.Blocks.{valid-row, running_first, running_next, running_many, running_end}
use Rattle.archive_report.proofs.tally.add_rows.Goals as goal

pub loop-i-init : goal.loop-i-init
loop-i-init c =
    record {
      bounded = omega arith;
      running =
          running_first c.args.block.now c.args.used c.args.count
          c.args.lines.now c.requires.4 c.requires.3 c.requires.5;
      grown = omega arith;
      behind = λ k h. refl;
    }

pub add_cell-n-requires : goal.add_cell-n-requires
add_cell-n-requires c =
    let block = c.args.block.now in
    let from = header_length + cell_length * c.loop-i.i in
    let go = c.loop-i.invariant.running in (
      ap length (part-ends from cell_length block)
          ∙ part_length from cell_length block (omega (arith, c.requires.0, c.requires.1, c.loop-i-test.true)),
      ap (λ (l : List ℕ). is_row (row_in l)) (part-ends from cell_length block)
          ∙ valid-row block c.args.used c.loop-i.i c.requires.2 c.loop-i-test.true,
      go.few,
      go.long,
      go.rising,
      omega (arith, go.total, c.requires.6, c.requires.1, c.loop-i-test.true),
    )

pub shape_of-lines-then-n-gt-MAX_LINES : goal.shape_of-lines-then-n-gt-MAX_LINES
shape_of-lines-then-n-gt-MAX_LINES c =
    c.add_cell-n.ensures.long ∙ c.loop-i.invariant.running.long ∙ sym c.requires.4

pub returns-then-n-gt-MAX_LINES : goal.returns-then-n-gt-MAX_LINES
returns-then-n-gt-MAX_LINES c =
    let block = c.args.block.now in
    let ins =
    inserted_as (ap (λ (l : List ℕ). line_of_row (row_in l))
    (part-ends (header_length + cell_length * c.loop-i.i) cell_length block))
    c.add_cell-n.ensures in
    record {
      long = ins.long ∙ c.loop-i.invariant.running.long ∙ sym c.requires.4;
      lines = λ h. absurd (omega (arith, h, c.if-n-gt-MAX_LINES.true));
      many =
          λ h. running_many block c.args.used c.loop-i.n c.loop-i.i
          c.add_cell-n.result (lines_at c.args.lines.now c.args.count)
          c.loop-i.lines _ c.loop-i.invariant.running c.loop-i-test.true ins h;
      grows = λ h. absurd (omega (arith, h, c.if-n-gt-MAX_LINES.true));
      behind = λ h. absurd (omega (arith, h, c.if-n-gt-MAX_LINES.true));
    }

pub loop-i-preserved : goal.loop-i-preserved
loop-i-preserved c =
    let block = c.args.block.now in
    let ins =
    inserted_as (ap (λ (l : List ℕ). line_of_row (row_in l))
    (part-ends (header_length + cell_length * c.loop-i.i) cell_length block))
    c.add_cell-n.ensures in
    let more : c.loop-i.n ≤ c.add_cell-n.result =
    omega (
      arith,
      ins.count,
      lines-count c.loop-i.lines 0 c.loop-i.n,
      more-insert (line_of_row (row_in (part (header_length + cell_length * c.loop-i.i) cell_length block)))
          (lines_at c.loop-i.lines c.loop-i.n),
    ) in
    record {
      bounded = omega (arith, c.loop-i-test.true);
      running =
          running_next block c.args.used c.loop-i.n c.loop-i.i c.add_cell-n.result
          (lines_at c.args.lines.now c.args.count) c.loop-i.lines _
          c.loop-i.invariant.running c.loop-i-test.true ins c.if-n-gt-MAX_LINES.false;
      grown = omega (arith, c.loop-i.invariant.grown, more);
      behind = λ k h. ins.behind k h ∙ c.loop-i.invariant.behind k (omega (arith, h, more));
    }

pub returns : goal.returns
returns c =
    let go = c.loop-i.invariant.running in
    record {
      long = go.long ∙ sym c.requires.4;
      lines =
          λ h. running_end c.args.block.now c.args.used c.loop-i.n c.loop-i.i
          (lines_at c.args.lines.now c.args.count) c.loop-i.lines go c.loop-i-test.false;
      many = λ h. absurd (omega (arith, h, go.few));
      grows = λ h. c.loop-i.invariant.grown;
      behind = λ h. c.loop-i.invariant.behind;
    }

pub shape_of-lines : goal.shape_of-lines
shape_of-lines c = c.loop-i.invariant.running.long ∙ sym c.requires.4
