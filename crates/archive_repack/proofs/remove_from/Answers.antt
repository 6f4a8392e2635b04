-- `archive_repack::remove_from` meets its contract: more than 32 identities are refused, and else the walk and the closing give the archive without the rows
-- that are listed.
use mathlib.Core.Path.{◌≡◌, refl, ap, ◌∙◌}
use mathlib.Core.List.{List}
use Prim.Native.Nat.{ℕ, ◌≤◌}
use native.Mathlib.Omega.{arith}
use lib.ListN.{length}
use Rattle.archive_model.specs.Buffer.{blocks_for, rows_in, max_rows}
use Rattle.archive_model.specs.Append.{verdict}
use Rattle.archive_model.proofs.Cursor.{blocks_of, rows_few}
use Rattle.archive_repack.proofs.Within.{in_use_few}
use Rattle.archive_repack.proofs.Removal.{removed_few, remove_done, remove_many}
use Rattle.archive_repack.proofs.remove_from.Goals as goal

pub returns-then-identities-gt-MAX_IDENTITIES : goal.returns-then-identities-gt-MAX_IDENTITIES
returns-then-identities-gt-MAX_IDENTITIES c =
    remove_many c.args.buffer.now c.args.identities.now c.requires.0 c.if-identities-gt-MAX_IDENTITIES.true

-- ---- what is known of it

-- an archive has at most 15 times 2^32 rows
rows-low : (b : List ℕ) → (verdict b).number ≡ 0 → length (rows_in b) ≤ max_rows
rows-low b p = omega (arith, rows_few b p, (blocks_of b p).1)

pub close-requires : goal.close-requires
close-requires c = (
  c.pack_within-end.auto.pending,
  c.pack_within-end.ensures.waits,
  omega (
    arith,
    removed_few c.args.buffer.now c.args.identities.now c.requires.0
        c.blocks_for-blocks.result (c.blocks_for-blocks.ensures ∙ ap blocks_for c.requires.1)
        c.pack_within-end.result.next c.pack_within-end.result.used _
        c.pack_within-end.auto.pending c.pack_within-end.ensures.waits c.pack_within-end.ensures.packed,
    (c.blocks_for-blocks.ensures ∙ ap blocks_for c.requires.1),
  ),
  omega (
    arith,
    in_use_few c.args.buffer.now c.requires.0 c.blocks_for-blocks.result
        (c.blocks_for-blocks.ensures ∙ ap blocks_for c.requires.1),
    c.pack_within-end.auto.buffer,
  ),
)

pub returns : goal.returns
returns c =
    let r = c.pack_within-end.result in
    let w = c.pack_within-end.ensures in
    remove_done c.args.buffer.now c.args.identities.now c.requires.0
    c.blocks_for-blocks.result (c.blocks_for-blocks.ensures ∙ ap blocks_for c.requires.1) r.next r.used _
    c.pack_within-end.auto.pending w.waits w.packed _ _ c.if-identities-gt-MAX_IDENTITIES.false w.long w.put
    c.close.ensures c.blocks_for-after.result c.blocks_for-after.ensures

pub blocks_for-blocks-requires : goal.blocks_for-blocks-requires
blocks_for-blocks-requires c = omega (arith, rows-low c.args.buffer.now c.requires.0, c.requires.1)

pub pack_within-end-requires : goal.pack_within-end-requires
pack_within-end-requires c = (c.requires.0, (c.blocks_for-blocks.ensures ∙ ap blocks_for c.requires.1), refl)

pub overflow_mul-blocks : goal.overflow_mul-blocks
overflow_mul-blocks c = omega (
  arith,
  in_use_few c.args.buffer.now c.requires.0 c.blocks_for-blocks.result
      (c.blocks_for-blocks.ensures ∙ ap blocks_for c.requires.1),
)

pub overflow_mul-end : goal.overflow_mul-end
overflow_mul-end c = omega (
  arith,
  removed_few c.args.buffer.now c.args.identities.now c.requires.0
      c.blocks_for-blocks.result (c.blocks_for-blocks.ensures ∙ ap blocks_for c.requires.1)
      c.pack_within-end.result.next c.pack_within-end.result.used _
      c.pack_within-end.auto.pending c.pack_within-end.ensures.waits c.pack_within-end.ensures.packed,
  rows-low c.args.buffer.now c.requires.0,
)

pub overflow_add-end : goal.overflow_add-end
overflow_add-end c = omega (
  arith,
  removed_few c.args.buffer.now c.args.identities.now c.requires.0
      c.blocks_for-blocks.result (c.blocks_for-blocks.ensures ∙ ap blocks_for c.requires.1)
      c.pack_within-end.result.next c.pack_within-end.result.used _
      c.pack_within-end.auto.pending c.pack_within-end.ensures.waits c.pack_within-end.ensures.packed,
  rows-low c.args.buffer.now c.requires.0,
)

pub blocks_for-after-requires : goal.blocks_for-after-requires
blocks_for-after-requires c = omega (
  arith,
  removed_few c.args.buffer.now c.args.identities.now c.requires.0
      c.blocks_for-blocks.result (c.blocks_for-blocks.ensures ∙ ap blocks_for c.requires.1)
      c.pack_within-end.result.next c.pack_within-end.result.used _
      c.pack_within-end.auto.pending c.pack_within-end.ensures.waits c.pack_within-end.ensures.packed,
  rows-low c.args.buffer.now c.requires.0,
)

pub overflow_sub-result : goal.overflow_sub-result
overflow_sub-result c = omega (
  arith,
  removed_few c.args.buffer.now c.args.identities.now c.requires.0
      c.blocks_for-blocks.result (c.blocks_for-blocks.ensures ∙ ap blocks_for c.requires.1)
      c.pack_within-end.result.next c.pack_within-end.result.used _
      c.pack_within-end.auto.pending c.pack_within-end.ensures.waits c.pack_within-end.ensures.packed,
  c.blocks_for-after.ensures,
  (c.blocks_for-blocks.ensures ∙ ap blocks_for c.requires.1),
)
