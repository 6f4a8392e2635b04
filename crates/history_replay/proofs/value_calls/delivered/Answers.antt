-- `history_replay::value_calls::delivered` meets its contract: by what `burst_within` ensures.
use mathlib.Core.Path.{◌≡◌, refl, sym, ap, ◌∙◌}
use mathlib.Core.List.{◌++◌}
use Prim.Native.Nat.{◌+◌, ◌*◌, ◌≤◌}
use native.Mathlib.Omega.{arith}
use borrow.Author.Rules.{rules}
use lib.ListN.{length, replicate, length-replicate}
use Rattle.block_layout.specs.BigEndian.{be}
use Rattle.base_buffers.proofs.Segments.{Writing, packed, begin, begun_length, within, lend, lent, done}
use Rattle.collector_state.specs.Collector.{next_number, next_in}
use Rattle.history_replay_model.specs.Operation.{delivering}
use Rattle.history_replay_model.specs.Record.{head_of}
use Rattle.history_replay.specs.Calls.{call_setting, lent_in, burst_receptions_in, place_in, places_in}
use Rattle.history_replay.specs.Private.{BurstGiven}
use Rattle.history_replay.proofs.Called.{at-next, given_as, given-length, delivered-value}
use Rattle.history_replay.proofs.value_calls.delivered.Lts as lts
use Rattle.history_replay.proofs.value_calls.delivered.Reads as reads
use Rattle.history_replay.proofs.value_calls.delivered.Tie as tie
use Rattle.history_replay.proofs.value_calls.delivered.Goals as goal

-- states on the way
abbrev After-burst_in-made : Type 0
After-burst_in-made = lts.After-burst_in tie.the-claims reads.Pre reads.Post

abbrev After-put_body : Type 0
After-put_body = lts.After-put_body tie.the-claims reads.Pre reads.Post

abbrev After-put_replies : Type 0
After-put_replies = lts.After-put_replies tie.the-claims reads.Pre reads.Post

-- how many places there are
many : (c : After-burst_in-made) → c.place_count-m.result ≤ 259
many c = c.place_count-m.ensures.1

room : (c : After-burst_in-made) → length c.args.out.now ≡ 58 + 31 * c.place_count-m.result
room c = c.requires.1 ∙ ap (λ n. 58 + 31 * n) (sym c.place_count-m.ensures.0)

-- what `burst_within` ensures, of the receptions and places that the record says
taken : (c : After-burst_in-made) → BurstGiven c.args.c (call_setting c.args.r.now)
    (burst_receptions_in (lent_in c.args.lent.now c.args.r.now))
    (places_in c.args.r.now)
    c.place_count-m.result c.burst_in-made.result
taken c =
    let r = c.args.r.now in
    given_as (ap burst_receptions_in c.lent_in.ensures)
    (ap (λ n. replicate n (place_in r)) c.place_count-m.ensures.0) c.burst_in-made.ensures

-- the head and the length, and then the places
abbrev step1 : After-put_body → Writing 58
step1 c =
    let c_back3 = c.before.before.before in
    let c_back6 = c_back3.before.before.before in
    let h = room c_back6 in
    let m = c.place_count-m.result in
    let b = c.burst_in-made.result.bursted in
    packed
    (lend (begin c.args.out.now) _
    (head_of delivering (next_number b) (next_in c.args.c b).summary.totals ++ be 8 m) 58
    (c.put_body.ensures
    ∙ λ i. head_of delivering (c.next_number-number.ensures i) (c.next_in-next.ensures i).summary.totals ++ be 8 m)
    c.put_body.auto.out (omega arith) (omega arith))

abbrev step2 : (c : After-put_replies) → Writing (58 + 31 * c.place_count-m.result)
step2 c =
    let c_back3 = c.before.before.before in
    let c_back6 = c_back3.before.before.before in
    let c_back9 = c_back6.before.before.before in
    let h = room c_back9.before in
    packed
    (lend (step1 c_back3.before).begun _ _ (58 + 31 * c.place_count-m.result)
    c.put_replies.ensures c.put_replies.auto.out (omega arith)
    (omega arith))

pub put_replies-requires : goal.put_replies-requires
put_replies-requires c =
    let c_back3 = c.before.before.before in
    let c_back6 = c_back3.before.before.before in
    let c_back9 = c_back6.before.before.before in
    let m = c.place_count-m.result in (
      many c_back9.before,
      lent (step1 c_back3.before).begun (31 * m) (58 + 31 * m) refl
          (omega (arith, room c_back9.before)),
    )

pub returns : goal.returns
returns c =
    let c_back3 = c.before.before.before in
    let c_back6 = c_back3.before.before.before in
    let c_back9 = c_back6.before.before.before in
    let c_back12 = c_back9.before.before.before in
    let m = c.place_count-m.result in
    at-next c.next_in-next.ensures
    (delivered-value _ _ _ m (taken c_back12.before)
    (given-length (taken c_back12.before) (length-replicate _ _ ∙ sym c.place_count-m.ensures.0))
    (done (step2 c.before.before.before).begun
    (room c_back12.before)))

pub burst_in-made-requires : goal.burst_in-made-requires
burst_in-made-requires c = (search rules, c.place_count-m.ensures.1)

pub slice_bounds-put_body-end : goal.slice_bounds-put_body-end
slice_bounds-put_body-end c =
    let c_back3 = c.before.before.before in
    omega (arith, room c_back3.before)

pub overflow_mul-m : goal.overflow_mul-m
overflow_mul-m c =
    let c_back3 = c.before.before.before in
    let c_back6 = c_back3.before.before.before in
    let c_back9 = c_back6.before.before.before in
    omega (arith, many c_back9)

pub overflow_add-m : goal.overflow_add-m
overflow_add-m c =
    let c_back3 = c.before.before.before in
    let c_back6 = c_back3.before.before.before in
    let c_back9 = c_back6.before.before.before in
    omega (arith, many c_back9)

pub slice_bounds-put_replies-end : goal.slice_bounds-put_replies-end
slice_bounds-put_replies-end c =
    let c_back3 = c.before.before.before in
    let c_back6 = c_back3.before.before.before in
    let c_back9 = c_back6.before.before.before in
    within (step1 c.before.before.before).begun _
    (omega (arith, room c_back9))

pub shape_of-out : goal.shape_of-out
shape_of-out c = begun_length (step2 c.before.before.before).begun
