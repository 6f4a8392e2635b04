-- `history_replay::calls::delivered` meets its contract: by what `burst` and `totals` ensure.
use mathlib.Core.Path.{◌≡◌, refl, sym, ap, ◌∙◌}
use mathlib.Core.List.{List, ◌++◌, map, flatten}
use Prim.Native.Nat.{ℕ, ◌+◌, ◌-◌, ◌*◌, ◌≤◌}
use native.Mathlib.Omega.{arith}
use borrow.Author.Rules.{rules}
use lib.ListN.{length, replicate}
use Rattle.base_buffers.specs.Buffer.{part}
use Rattle.block_layout.specs.BigEndian.{be}
use Rattle.base_buffers.proofs.Segments.{Writing, packed, begin, begun_length, within, lend, lent, done}
use Rattle.history_calls.specs.Answers.{replies_in_places}
use Rattle.history_replay_model.specs.Operation.{delivering}
use Rattle.history_replay_model.specs.Record.{head_of, reply_of}
use Rattle.history_replay.specs.Calls.{call_setting, lent_in, burst_receptions_in, place_in, places_in}
use Rattle.history_replay.proofs.Lent.{count, front, front_length, come_back, come_back-length, come_back_front, places_lent}
use Rattle.history_replay.proofs.Called.{made_as, delivered}
use Rattle.history_replay.proofs.calls.delivered.Lts as lts
use Rattle.history_replay.proofs.calls.delivered.Reads as reads
use Rattle.history_replay.proofs.calls.delivered.Tie as tie
use Rattle.history_replay.proofs.calls.delivered.Goals as goal

-- states on the way
abbrev After-place_count-m : Type 0
After-place_count-m = lts.After-place_count tie.the-claims reads.Pre reads.Post tie.handed_clauses

abbrev After-places_in-places : Type 0
After-places_in-places = lts.After-places_in tie.the-claims reads.Pre reads.Post tie.handed_clauses

abbrev After-burst_in-number : Type 0
After-burst_in-number = lts.After-burst_in tie.the-claims reads.Pre reads.Post tie.handed_clauses

abbrev After-put_body : Type 0
After-put_body = lts.After-put_body tie.the-claims reads.Pre reads.Post tie.handed_clauses

abbrev After-put_places : Type 0
After-put_places = lts.After-put_places tie.the-claims reads.Pre reads.Post tie.handed_clauses

-- ---- lengths

-- how many places there are
abbrev m : After-place_count-m → ℕ
m c = c.place_count-m.result

many : (c : After-place_count-m) → m c ≤ 259
many c = c.place_count-m.ensures.1

room : (c : After-place_count-m) → length c.args.out.now ≡ 58 + 31 * m c
room c = c.requires.1 ∙ ap (λ n. 58 + 31 * n) (sym c.place_count-m.ensures.0)

-- the places that are lent
long : (c : After-places_in-places) → length c.places_in-places.result ≡ 6216
long c = search rules

in_places : (c : After-places_in-places) → 24 * m c.before ≤ length c.places_in-places.result
in_places c = omega (arith, long c, many c.before)

-- and come back
abbrev new : After-burst_in-number → List ℕ
new c = c.burst_in-number.new.places

new-length : (c : After-burst_in-number) → (
    let c_back3 = c.before.before.before in
    length (new c)
    ≡ 24 * m c_back3.before.before)
new-length c =
    let c_back3 = c.before.before.before in
    front_length (24 * m c_back3.before.before) c.places_in-places.result
    (new c) (in_places c_back3.before) c.burst_in-number.auto.places

-- ---- what is written

abbrev step1 : After-put_body → Writing 58
step1 c =
    let c_back3 = c.before.before.before in
    let c_back6 = c_back3.before.before.before in
    let c_back9 = c_back6.before.before.before in
    let h = room c_back9 in
    packed
    (lend (begin c.args.out.now) _
    (head_of delivering c.burst_in-number.result c.totals_of-totals.result ++ be 8 (m c_back9)) 58
    c.put_body.ensures
    c.put_body.auto.out (omega arith) (omega arith))

abbrev step2 : (c : After-put_places) → (
    let c_back3 = c.before.before.before in
    let c_back6 = c_back3.before.before.before in
    let c_back9 = c_back6.before.before.before in
    let c_back12 = c_back9.before.before.before in
    Writing (58 + 31 * m c_back12.before.before))
step2 c =
    let c_back3 = c.before.before.before in
    let c_back6 = c_back3.before.before.before in
    let c_back9 = c_back6.before.before.before in
    let c_back12 = c_back9.before.before.before in
    let h = room c_back12.before.before in
    packed
    (lend (step1 c_back3.before.before).begun _ _ (58 + 31 * m c_back12.before.before) c.put_places.ensures
    c.put_places.auto.out (omega arith) (omega arith))

-- the places that are lent again
all_back : (c : After-put_body) → (
    let c_back3 = c.before.before.before in
    let c_back6 = c_back3.before.before.before in
    let c_back9 = c_back6.before.before.before in
    24 * m c_back9
    ≤ length (come_back (24 * m c_back9)
    c.places_in-places.result (new c_back3.before)))
all_back c =
    let c_back3 = c.before.before.before in
    let c_back6 = c_back3.before.before.before in
    let c_back9 = c_back6.before.before.before in
    let kept = c.burst_in-number.auto.places in
    omega (
      arith,
      come_back-length (24 * m c_back9) c.places_in-places.result (new c_back3.before)
          (in_places c_back6.before.before) kept,
      in_places c_back6.before.before,
    )

places_back : (c : After-put_body)
    → (
    let c_back3 = c.before.before.before in
    let c_back6 = c_back3.before.before.before in
    let c_back9 = c_back6.before.before.before in
    length (part 0 (24 * m c_back9 - 0)
    (come_back (24 * m c_back9)
    c.places_in-places.result
    (new c_back3.before)))
    ≡ 24 * m c_back9)
places_back c =
    let c_back3 = c.before.before.before in
    let c_back6 = c_back3.before.before.before in
    let c_back9 = c_back6.before.before.before in
    ap length
    (come_back_front (24 * m c_back9) c.places_in-places.result
    (new c_back3.before) (in_places c_back6.before.before) c.burst_in-number.auto.places)
    ∙ new-length c_back3.before

pub put_places-requires : goal.put_places-requires
put_places-requires c =
    let c_back3 = c.before.before.before in
    let c_back6 = c_back3.before.before.before in
    let c_back9 = c_back6.before.before.before in
    let c_back12 = c_back9.before.before.before in (
      places_back c_back3.before.before,
      lent (step1 c_back3.before.before).begun
          (31 * m c_back12.before.before) _ refl (omega (arith, room c_back12.before.before)),
    )

pub returns-clause-called : goal.returns-clause-called
returns-clause-called c =
    let c_back3 = c.before.before.before in
    let c_back6 = c_back3.before.before.before in
    let c_back9 = c_back6.before.before.before in
    let c_back12 = c_back9.before.before.before in
    let c_back15 = c_back12.before.before.before in
    let r = c.args.r.now in
    delivered c.totals_of-totals.ensures (call_setting r)
    (burst_receptions_in (lent_in c.args.lent.now r)) _ (new c_back12) (places_in r)
    (m c_back15.before.before)
    (made_as (ap burst_receptions_in c.lent_in.ensures) c.burst_in-number.ensures.made)
    (ap replies_in_places (front (24 * m c_back15.before.before) c.places_in-places.result
    ∙ c.places_in-places.ensures)
    ∙ places_lent r (m c_back15.before.before) c.requires.0
    ∙ ap (λ n. replicate n (place_in r)) c.place_count-m.ensures.0)
    (count (new c_back12) (m c_back15.before.before)
    (new-length c_back12))
    (done (step2 c.before.before.before).begun (room c_back15.before.before)
    ∙ ap (λ (l : List ℕ). head_of delivering c.burst_in-number.result c.totals_of-totals.result
    ++ be 8 (m c_back15.before.before) ++ flatten (map reply_of (replies_in_places l)))
    (come_back_front (24 * m c_back15.before.before) c.places_in-places.result (new c_back12)
    (in_places c_back15.before) c.burst_in-number.auto.places))

pub places_in-places-requires : goal.places_in-places-requires
places_in-places-requires c = (search rules, c.place_count-m.ensures.1)

pub overflow_mul-m-2 : goal.overflow_mul-m-2
overflow_mul-m-2 c =
    let c_back3 = c.before.before.before in
    let c_back6 = c_back3.before.before.before in
    let c_back9 = c_back6.before.before.before in
    let c_back12 = c_back9.before.before.before in
    omega (arith, many c_back12)

pub overflow_add-m : goal.overflow_add-m
overflow_add-m c =
    let c_back3 = c.before.before.before in
    let c_back6 = c_back3.before.before.before in
    let c_back9 = c_back6.before.before.before in
    let c_back12 = c_back9.before.before.before in
    omega (arith, many c_back12)

pub slice_bounds-put_places-end : goal.slice_bounds-put_places-end
slice_bounds-put_places-end c =
    let c_back3 = c.before.before.before in
    let c_back6 = c_back3.before.before.before in
    let c_back9 = c_back6.before.before.before in
    let c_back12 = c_back9.before.before.before in
    within (step1 c.before.before.before).begun _ (omega (
      arith,
      room
          c_back12,
    ))

pub overflow_mul-m-3 : goal.overflow_mul-m-3
overflow_mul-m-3 c =
    let c_back3 = c.before.before.before in
    let c_back6 = c_back3.before.before.before in
    let c_back9 = c_back6.before.before.before in
    let c_back12 = c_back9.before.before.before in
    omega (arith, many c_back12.before)

pub slice_bounds-put_places-end-2 : goal.slice_bounds-put_places-end-2
slice_bounds-put_places-end-2 c =
    let c_back3 = c.before.before.before in
    all_back c_back3.before

pub shape_of-out : goal.shape_of-out
shape_of-out c = begun_length (step2 c.before.before.before).begun
