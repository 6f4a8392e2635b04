-- The goals that a search does not find.
use native.Mathlib.Omega.{arith}
use mathlib.Core.Path.{◌≡◌, refl, sym, ap, ◌∙◌}
use mathlib.Core.List.{List, []}
use Prim.Native.Nat.{ℕ, zero, suc, ◌+◌, ◌-◌, ◌*◌, ◌/◌, ◌<◌}
use lib.ListN.{length, get_or, take, drop}
use Rattle.std.specs.Simd.{first_chunks}
use Rattle.std.proofs.lemmas.List.{drop-drop}
use Rattle.base_buffers.specs.Buffer.{part}
use Rattle.block_layout.specs.Block.{block_length}
use Rattle.base_buffers.proofs.Segments.{part_length}
use Rattle.archive_file.proofs.Scans.{blocks_from, rest_first}
use Rattle.archive_report_model.specs.Pieces.{Tally, add_block, add_blocks}
use Rattle.archive_report.specs.Private.{tally_of}
use Rattle.archive_report.proofs.Blocks.{sane_next, sane_as, blocks_of, blocks_next, blocks_end}
use Rattle.archive_report.proofs.Windows.{lines-count}
use Rattle.archive_report.proofs.Arrays.{grows_none, grows_then}
use Rattle.archive_report.proofs.tally.add_blocks.Goals as goal

-- block i of those that were cut out of a piece
cut_at : (n i : ℕ) (s : List ℕ) → i < n → get_or (first_chunks 512 n s) i [] ≡ part (block_length * i) block_length s
cut_at zero i s h = absurd (omega arith)
cut_at (suc n) zero s h = refl
cut_at (suc n) (suc i) s h =
    let next : 512 + 512 * i ≡ 512 * suc i = omega arith in
    cut_at n i (drop 512 s) (omega arith)
    ∙ ap (take 512) (drop-drop (512 * i) 512 s ∙ ap (λ (k : ℕ). drop k s) next)

cut : (piece : List ℕ) {blocks : List (List ℕ)} {i : ℕ} → blocks ≡ first_chunks 512 (length piece / 512) piece
    → i < length piece / 512 → get_or blocks i [] ≡ part (block_length * i) block_length piece
cut piece {blocks} {i} e h = ap (λ (l : List (List ℕ)). get_or l i []) e ∙ cut_at (length piece / 512) i piece h

pub loop-block-init : goal.loop-block-init
loop-block-init c =
    let a = c.args in
    record {
      bounded = omega arith;
      long = c.requires.0;
      passed = omega arith;
      sane = c.requires.2;
      grows =
          grows_none a.t a.lines.now
          (omega (arith, c.requires.2.few, lines-count a.lines.now 0 a.t.count));
      rest = ap (add_blocks (tally_of a.t a.lines.now)) (rest_first a.piece.now _ (omega arith));
    }

pub add_block-at-requires : goal.add_block-at-requires
add_block-at-requires c =
    let piece = c.args.piece.now in
    let v = c.loop-block.invariant in (
      ap length
          (cut piece c.as_chunks.ensures.front (omega (arith, c.loop-block-test.true, c.as_chunks.ensures.front_len)))
          ∙ part_length (block_length * c.loop-block.block-index) block_length piece
          (omega (arith, c.loop-block-test.true, c.as_chunks.ensures.front_len)),
      v.long,
      omega (arith, v.passed, c.as_chunks.ensures.front_len, c.loop-block-test.true, c.requires.1),
      v.sane,
    )

pub loop-block-preserved : goal.loop-block-preserved
loop-block-preserved c =
    let piece = c.args.piece.now in
    let v = c.loop-block.invariant in
    let t = tally_of c.loop-block.at c.loop-block.lines in
    let i = c.loop-block.block-index in
    let e =
    c.add_block-at.ensures.lines_after
    ∙ ap (add_block t)
    (cut piece c.as_chunks.ensures.front (omega (arith, c.loop-block-test.true, c.as_chunks.ensures.front_len))) in
    record {
      bounded = omega (arith, c.loop-block-test.true, c.as_chunks.ensures.front_len);
      long = c.add_block-at.auto.lines ∙ v.long;
      passed = omega (arith, blocks_of _ t (part (block_length * i) block_length piece) e, v.passed);
      sane =
          sane_as e
          (sane_next (part (block_length * i) block_length piece) t v.sane
          (omega (arith, v.passed, c.as_chunks.ensures.front_len, c.loop-block-test.true, c.requires.1)));
      grows =
          grows_then c.args.t c.loop-block.at c.add_block-at.result c.args.lines.now
          c.loop-block.lines _ v.grows c.add_block-at.ensures.grows.0 c.add_block-at.ensures.grows.1;
      rest = ap (λ (u : Tally). add_blocks u (blocks_from piece (i + 1) (length piece / block_length - (i + 1)))) e
          ∙ sym (blocks_next piece t (length piece / block_length) i
          (omega (arith, c.loop-block-test.true, c.as_chunks.ensures.front_len))) ∙ v.rest;
    }

pub returns-clause-lines_after : goal.returns-clause-lines_after
returns-clause-lines_after c =
    let piece = c.args.piece.now in
    sym (blocks_end piece (tally_of c.loop-block.at c.loop-block.lines)
    (length piece / block_length) c.loop-block.block-index
    (omega (arith, c.loop-block-test.false, c.as_chunks.ensures.front_len)))
    ∙ c.loop-block.invariant.rest

pub returns-clause-grows : goal.returns-clause-grows
returns-clause-grows c = c.loop-block.invariant.grows
