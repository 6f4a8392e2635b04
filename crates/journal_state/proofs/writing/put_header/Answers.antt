-- `journal_state::writing::put_header` meets its contract: a step for each part that is lent, and the byte that is stored.
use mathlib.Core.Path.{refl, ap, ◌∙◌}
use mathlib.Core.List.{[]}
use Prim.Native.Nat.{ℕ}
use native.Mathlib.Omega.{arith}
use Rattle.base_buffers.specs.Buffer.{resized}
use Rattle.base_buffers.proofs.Buffer.{resized_whole}
use Rattle.base_buffers.proofs.Segments.{Writing, packed, begin, begun_length, within, store, lend, lent, wipe}
use Rattle.block_layout.specs.Block.{body_length}
use Rattle.block_layout.proofs.Block.{seal_front}
use Rattle.journal_state.specs.State.{Kept, kept, mark, archive_field, log_field, out_field}
use Rattle.journal_state.specs.Private.{header_with}
use Rattle.journal_state.proofs.Fields.{log_alone, out-alone}
use Rattle.journal_state.proofs.writing.put_header.Lts as lts
use Rattle.journal_state.proofs.writing.put_header.Reads as reads
use Rattle.journal_state.proofs.writing.put_header.Tie as tie
use Rattle.journal_state.proofs.writing.put_header.Goals as goal

-- states on the way
abbrev Start : Type 0
Start = lts.Start tie.the-claims reads.Pre reads.Post

abbrev After-put_bytes : Type 0
After-put_bytes = lts.After-put_bytes tie.the-claims reads.Pre reads.Post

abbrev After-put_archive : Type 0
After-put_archive = lts.After-put_archive tie.the-claims reads.Pre reads.Post

abbrev After-put_log : Type 0
After-put_log = lts.After-put_log tie.the-claims reads.Pre reads.Post

abbrev After-put_out : Type 0
After-put_out = lts.After-put_out tie.the-claims reads.Pre reads.Post

abbrev After-slice_known-5-1 : Type 0
After-slice_known-5-1 = lts.After-slice_known5 tie.the-claims reads.Pre reads.Post

abbrev After-clear : Type 0
After-clear = lts.After-clear tie.the-claims reads.Pre reads.Post

abbrev said : Start → Kept
said s = kept s.args.numbers.now s.args.name.now [] [] []

-- what is written, after each part

abbrev marked : After-put_bytes → Writing 8
marked c =
    let b = begin c.args.out.now in
    packed
    (lend b _ (mark c.args.version) 8
    (c.put_bytes.ensures ∙ ap (λ (n : ℕ). resized n (mark c.args.version)) (lent b 8 8 (omega arith) (omega
    (arith, c.requires.0))) ∙ resized_whole 8 (mark c.args.version) refl)
    c.put_bytes.auto.out (omega arith) (omega (arith, c.requires.0)))

abbrev archived : After-put_archive → Writing 296
archived c =
    let c_back3 = c.before.before.before in
    let c_back6 = c_back3.before.before.before in
    packed (lend (marked c_back3.before).begun _
    (archive_field (said c_back6.before.before.before)) 296 c.put_archive.ensures
    c.put_archive.auto.out (omega arith) (omega (arith, c.requires.0)))

abbrev placed : After-put_log → Writing 323
placed c =
    let c_back3 = c.before.before.before in
    let c_back6 = c_back3.before.before.before in
    let c_back9 = c_back6.before.before.before in
    let c_back12 = c_back9.before.before.before in
    packed
    (lend (archived c_back3.before).begun _ (log_field (said c_back12.before)) 323
    (c.put_log.ensures ∙ log_alone (said c_back12.before))
    c.put_log.auto.out (omega arith) (omega (arith, c.requires.0)))

abbrev printed : After-put_out → Writing 348
printed c =
    let c_back3 = c.before.before.before in
    let c_back6 = c_back3.before.before.before in
    let c_back9 = c_back6.before.before.before in
    let c_back12 = c_back9.before.before.before in
    let c_back15 = c_back12.before.before.before in
    packed
    (lend (placed c_back3.before).begun _ (out_field (said c_back15.before.before)) 348
    (c.put_out.ensures ∙ out-alone (said c_back15.before.before))
    c.put_out.auto.out (omega arith) (omega (arith, c.requires.0)))

abbrev summed : After-slice_known-5-1 → Writing 349
summed c =
    packed (store (printed c.before.before).begun c.args.crc (omega (arith, c.requires.0)))

abbrev cleared : After-clear → Writing body_length
cleared c =
    packed (wipe (summed c.before.before).begun _ body_length c.clear.ensures c.clear.auto.out (omega arith) (omega
    (arith, c.requires.0)))

pub returns : goal.returns
unfolding header_with
returns c =
    let c_back3 = c.before.before.before in
    let c_back6 = c_back3.before.before.before in
    c.seal.ensures ∙ seal_front _ (cleared c_back6.before).begun c.requires.0

pub slice_bounds-clear-end : goal.slice_bounds-clear-end
slice_bounds-clear-end c = within (summed c.before).begun body_length (omega (
  arith,
  c.requires.0,
))

pub shape_of-out : goal.shape_of-out
shape_of-out c =
    let c_back3 = c.before.before.before in
    let c_back6 = c_back3.before.before.before in
    c.seal.auto.block ∙ begun_length (cleared c_back6.before).begun
