-- `history_replay::value_calls::cut` meets its contract: by what `checkpoint`, `fresh` and `restore` ensure.
use mathlib.Core.Path.{◌≡◌, refl, sym, ap, ◌∙◌}
use mathlib.Core.List.{List}
use Prim.Native.Nat.{ℕ, ◌+◌, ◌-◌}
use native.Mathlib.Omega.{arith}
use lib.ListN.{length, take, length-replicate}
use Rattle.base_buffers.specs.Buffer.{part}
use Rattle.base_buffers.proofs.Segments.{Writing, packed, begin, lend, lent, within, done, part_length}
use Rattle.collector_model.specs.Image.{image_length, checkpoint_of}
use Rattle.collector_state.specs.Collector.{view_of, next_number, next_in}
use Rattle.collector_checkpoint.specs.Checkpoint.{Restores}
use Rattle.history_replay_model.specs.Operation.{restoring}
use Rattle.history_replay_model.specs.Record.{head_of, seen_bytes}
use Rattle.history_replay.specs.Calls.{output_in}
use Rattle.history_replay.specs.Private.{wrote_of}
use Rattle.history_replay.proofs.Making.{output_is, image_lent}
use Rattle.history_replay.proofs.Called.{at-next, restored_as_value, resumed-value}
use Rattle.history_replay.proofs.value_calls.cut.Lts as lts
use Rattle.history_replay.proofs.value_calls.cut.Reads as reads
use Rattle.history_replay.proofs.value_calls.cut.Tie as tie
use Rattle.history_replay.proofs.value_calls.cut.Goals as goal

-- states on the way
abbrev After-output_length-n : Type 0
After-output_length-n = lts.After-output_length tie.the-claims reads.Pre reads.Post

abbrev After-put_wrote : Type 0
After-put_wrote = lts.After-put_wrote tie.the-claims reads.Pre reads.Post

abbrev After-restore-restored : Type 0
After-restore-restored = lts.After-restore tie.the-claims reads.Pre reads.Post

abbrev end : After-output_length-n → ℕ
end c = 58 + c.output_length-n.result

abbrev output : After-output_length-n → List ℕ
output c = output_in c.args.r.now

output-length : (c : After-output_length-n) → length (output c) ≡ c.output_length-n.result
output-length c = length-replicate _ _ ∙ sym c.output_length-n.ensures.0

room : (c : After-output_length-n) → length c.args.out.now ≡ end c + 50
room c = omega (arith, c.requires.1, output-length c)

-- what is lent for the first cell is as long as it
first_room : (c : After-output_length-n) → length (part 0 (end c - 0) c.args.out.now) ≡ end c
first_room c =
    let h = room c in
    part_length 0 (end c - 0) c.args.out.now (omega arith) ∙ omega arith

-- the first cell, by what `checkpoint` ensures
abbrev first : (c : After-put_wrote) → Writing (end c.before.before.before)
first c =
    let out = c.args.out.now in
    let h = room c.before.before.before in
    let v = view_of c.args.c in
    packed
    (lend (begin out) _ (seen_bytes (wrote_of v (output c.before.before.before))) (end c.before.before.before)
    (c.put_wrote.ensures
    ∙ ap (λ (o : List ℕ). seen_bytes (wrote_of v o))
    (output_is c.args.r.now (part 0 (end c.before.before.before - 0) out)
    (first_room c.before.before.before ∙ omega (arith, output-length c.before.before.before))))
    c.put_wrote.auto.out (omega arith) (omega arith))

-- what `restore` ensures of the image in it
restored : (c : After-restore-restored) → (
    let c_back3 = c.before.before.before in
    let c_back6 = c_back3.before.before.before in
    Restores c.fresh-fresh.result
    (take image_length (checkpoint_of (view_of c.args.c)
    (output c_back6.before.before.before)).output)
    c.restore-restored.result)
restored c =
    let c_back3 = c.before.before.before in
    let c_back6 = c_back3.before.before.before in
    restored_as_value
    (image_lent (view_of c.args.c) (output c_back6.before.before.before) _ _
    c.min-last.result
    (first c_back3.before.before.before).begun.is (c.min-last.ensures
    ∙ omega (arith, output-length c_back6.before.before.before)))
    c.restore-restored.ensures

pub returns : goal.returns
returns c =
    let c_back3 = c.before.before.before in
    let c_back6 = c_back3.before.before.before in
    let c_back9 = c_back6.before.before.before in
    let c_back12 = c_back9.before.before.before in
    let c_back15 = c_back12.before.before.before in
    let h = room c_back15.before.before in
    let q = c.restore-restored.result in
    let d = c.fresh-fresh.result in
    let both =
    lend (first c_back12.before.before).begun _
    (head_of restoring (next_number q) (next_in d q).summary.totals) (end c_back15.before.before + 50)
    (c.put_head.ensures
    ∙ λ i. head_of restoring (c.next_number-number.ensures i) (c.next_in-next.ensures i).summary.totals)
    c.put_head.auto.out (omega arith) (omega arith) in
    at-next c.next_in-next.ensures
    (resumed-value (output c_back15.before.before) _ refl c.fresh-fresh.ensures (restored c_back6.before.before)
    (done both h))

pub overflow_add-end : goal.overflow_add-end
overflow_add-end c = omega (arith, c.output_length-n.ensures.1)

pub slice_bounds-put_wrote-count : goal.slice_bounds-put_wrote-count
slice_bounds-put_wrote-count c = omega arith

pub slice_bounds-put_wrote-start : goal.slice_bounds-put_wrote-start
slice_bounds-put_wrote-start c = omega arith

pub slice_bounds-put_wrote-end : goal.slice_bounds-put_wrote-end
slice_bounds-put_wrote-end c = omega (arith, room c.before)

pub put_wrote-requires : goal.put_wrote-requires
put_wrote-requires c = omega (arith, first_room c.before.before.before)

pub overflow_add-last : goal.overflow_add-last
overflow_add-last c = omega (arith, c.output_length-n.ensures.1)

pub slice_bounds-restore-end : goal.slice_bounds-restore-end
slice_bounds-restore-end c =
    let c_back3 = c.before.before.before in
    let c_back6 = c_back3.before.before.before in
    within (first c_back3.before.before).begun _
    (omega (arith, room c_back6.before.before, c.min-last.ensures))

pub overflow_add-end-2 : goal.overflow_add-end-2
overflow_add-end-2 c = omega (arith, c.output_length-n.ensures.1)

pub slice_bounds-put_head-count : goal.slice_bounds-put_head-count
slice_bounds-put_head-count c = omega arith

pub slice_bounds-put_head-end : goal.slice_bounds-put_head-end
slice_bounds-put_head-end c =
    let c_back3 = c.before.before.before in
    let c_back6 = c_back3.before.before.before in
    let c_back9 = c_back6.before.before.before in
    within (first c_back6.before.before.before).begun
    _ (omega (arith, room c_back9.before.before.before))

pub put_head-requires : goal.put_head-requires
put_head-requires c =
    let c_back3 = c.before.before.before in
    let c_back6 = c_back3.before.before.before in
    let c_back9 = c_back6.before.before.before in
    let c_back12 = c_back9.before.before.before in
    lent (first c_back9.before.before).begun 50 _ refl
    (omega (arith, room c_back12.before.before))
