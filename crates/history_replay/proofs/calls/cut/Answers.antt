-- `history_replay::calls::cut` meets its contract: by what `checkpoint`, `fresh`, `restore` and `totals` ensure.
use mathlib.Core.Path.{◌≡◌, refl, sym, ap, ◌∙◌}
use mathlib.Core.List.{List}
use Prim.Native.Nat.{ℕ, ◌+◌, ◌-◌}
use native.Mathlib.Omega.{arith}
use lib.ListN.{length, length-replicate}
use Rattle.base_buffers.specs.Buffer.{part}
use Rattle.base_buffers.proofs.Segments.{Writing, packed, begin, begun_length, lend, lent, within, done, part_length}
use Rattle.c_collector.specs.State.{Arrays, arrays_in, state_at}
use Rattle.history_replay_model.specs.Operation.{restoring}
use Rattle.history_replay_model.specs.Record.{head_of, seen_bytes}
use Rattle.history_replay.specs.Calls.{output_in}
use Rattle.history_replay.specs.Private.{wrote_of}
use Rattle.history_replay.proofs.Making.{output_is, image_lent}
use Rattle.history_replay.proofs.Called.{restored_as, resumed}
use Rattle.history_replay.proofs.calls.cut.Lts as lts
use Rattle.history_replay.proofs.calls.cut.Reads as reads
use Rattle.history_replay.proofs.calls.cut.Tie as tie
use Rattle.history_replay.proofs.calls.cut.Goals as goal

-- states on the way
abbrev Start : Type 0
Start = lts.Start tie.the-claims reads.Pre reads.Post tie.handed_clauses

abbrev After-output_length-n : Type 0
After-output_length-n = lts.After-output_length tie.the-claims reads.Pre reads.Post tie.handed_clauses

abbrev After-put_wrote : Type 0
After-put_wrote = lts.After-put_wrote tie.the-claims reads.Pre reads.Post tie.handed_clauses

abbrev After-put_head : Type 0
After-put_head = lts.After-put_head tie.the-claims reads.Pre reads.Post tie.handed_clauses

-- what is lent
abbrev lent-arrays : Start → Arrays
lent-arrays s =
    let a = s.args in
    arrays_in a.state.now

-- ---- lengths

abbrev end : After-output_length-n → ℕ
end c = 58 + c.output_length-n.result

abbrev output : After-output_length-n → List ℕ
output c = output_in c.args.r.now

output-length : (c : After-output_length-n) → length (output c) ≡ c.output_length-n.result
output-length c = length-replicate _ _ ∙ sym c.output_length-n.ensures.0

room : (c : After-output_length-n) → length c.args.out.now ≡ end c + 50
room c = omega (arith, c.requires.1, output-length c)

-- what is lent for the first cell is as long as it
first_room : (c : After-output_length-n) → length (part 0 (end c - 0) c.args.out.now) ≡ end c
first_room c =
    let h = room c in
    part_length 0 (end c - 0) c.args.out.now (omega arith) ∙ omega arith

-- ---- the two cells

abbrev first : (c : After-put_wrote) → Writing (end c.before.before.before)
first c =
    let c_back3 = c.before.before.before in
    let c_back6 = c_back3.before.before.before in
    let out = c.args.out.now in
    let h = room c.before.before.before in
    let v = state_at (lent-arrays c_back6) in
    packed
    (lend (begin out) _ (seen_bytes (wrote_of v (output c.before.before.before))) (end c.before.before.before)
    (c.put_wrote.ensures
    ∙ ap (λ (o : List ℕ). seen_bytes (wrote_of v o))
    (output_is c.args.r.now (part 0 (end c.before.before.before - 0) out)
    (first_room c.before.before.before ∙ omega (arith, output-length c.before.before.before))))
    c.put_wrote.auto.out (omega arith) (omega arith))

abbrev both : (c : After-put_head) → (
    let c_back3 = c.before.before.before in
    let c_back6 = c_back3.before.before.before in
    let c_back9 = c_back6.before.before.before in
    let c_back12 = c_back9.before.before.before in
    Writing (end c_back12.before.before + 50))
both c =
    let c_back3 = c.before.before.before in
    let c_back6 = c_back3.before.before.before in
    let c_back9 = c_back6.before.before.before in
    let c_back12 = c_back9.before.before.before in
    let h = room c_back12.before.before in
    packed
    (lend (first c_back9.before.before).begun _ (head_of restoring c.restore-number.result c.totals_of-totals.result)
    (end c_back12.before.before + 50) c.put_head.ensures
    c.put_head.auto.out (omega arith) (omega arith))

pub returns-clause-called : goal.returns-clause-called
returns-clause-called c =
    let c_back3 = c.before.before.before in
    let c_back6 = c_back3.before.before.before in
    let c_back9 = c_back6.before.before.before in
    let c_back12 = c_back9.before.before.before in
    let c_back15 = c_back12.before.before.before in
    let c_back18 = c_back15.before.before.before in
    resumed c.totals_of-totals.ensures (output c_back15.before.before) _ refl c.clear.ensures.fresh
    (restored_as (image_lent (state_at (lent-arrays c_back18.before.before))
    (output c_back15.before.before) _ _ c.min-last.result (first c_back12.before.before).begun.is
    (c.min-last.ensures ∙ omega (arith, output-length c_back15.before.before)))
    c.restore-number.ensures.restores)
    (done (both c.before.before.before).begun (room c_back15.before.before))

pub overflow_add-end : goal.overflow_add-end
overflow_add-end c = omega (arith, c.output_length-n.ensures.1)

pub slice_bounds-put_wrote-end : goal.slice_bounds-put_wrote-end
slice_bounds-put_wrote-end c = omega (arith, room c.before)

pub put_wrote-requires : goal.put_wrote-requires
put_wrote-requires c = omega (arith, first_room c.before.before.before)

pub overflow_add-last : goal.overflow_add-last
overflow_add-last c = omega (arith, c.min-last.ensures)

pub slice_bounds-restore-end : goal.slice_bounds-restore-end
slice_bounds-restore-end c =
    let c_back3 = c.before.before.before in
    let c_back6 = c_back3.before.before.before in
    let c_back9 = c_back6.before.before.before in
    within (first
    c_back6.before).begun _
    (omega (arith, room c_back9.before, c.min-last.ensures))

pub overflow_add-end-2 : goal.overflow_add-end-2
overflow_add-end-2 c = omega (arith, c.output_length-n.ensures.1)

pub slice_bounds-put_head-end : goal.slice_bounds-put_head-end
slice_bounds-put_head-end c =
    let c_back3 = c.before.before.before in
    let c_back6 = c_back3.before.before.before in
    let c_back9 = c_back6.before.before.before in
    let c_back12 = c_back9.before.before.before in
    within (first c_back9.before).begun _
    (omega (arith, room c_back12.before))

pub put_head-requires : goal.put_head-requires
put_head-requires c =
    let c_back3 = c.before.before.before in
    let c_back6 = c_back3.before.before.before in
    let c_back9 = c_back6.before.before.before in
    let c_back12 = c_back9.before.before.before in
    lent (first c_back9.before.before).begun 50 _ refl
    (omega (arith, room c_back12.before.before))

pub shape_of-out : goal.shape_of-out
shape_of-out c = begun_length (both c.before.before.before).begun
