-- `text_print::take_chunk` meets its contract: what is left of the chunk is kept, and at the end it is one more line.
use mathlib.Core.Path.{◌≡◌}
use mathlib.Core.List.{List}
use Prim.Native.Nat.{ℕ, ◌+◌, ◌-◌, ◌≤◌}
use native.Mathlib.Omega.{arith}
use lib.ListN.{length, take, drop, length-take, length-drop}
use Rattle.text_collect.specs.Session.{phase_of}
use Rattle.text_print.specs.Private.{Drained}
use Rattle.text_print.proofs.Chunk.{kept_of, kept-count, kept_few, kept-fits, kept_front, kept_open, room-left, stepped, ended}
use Rattle.text_print.proofs.take_chunk.Lts as lts
use Rattle.text_print.proofs.take_chunk.Reads as reads
use Rattle.text_print.proofs.take_chunk.Tie as tie
use Rattle.text_print.proofs.take_chunk.Goals as goal

-- states on the way
abbrev After-carry-kept : Type 0
After-carry-kept = lts.After-carry tie.the-claims reads.Pre reads.Post

abbrev buffer : After-carry-kept → List ℕ
buffer c = c.args.buffer.now

drained : (c : After-carry-kept) → (let a = c.args in let l = c.take_lines-d in
    Drained (phase_of a.s) (take a.end (buffer c)) a.out.now l.new.out l.result)
drained c =
    let z : c.args.end - 0 ≡ c.args.end = omega arith in
    rw z at c.take_lines-d.ensures

fits : (c : After-carry-kept) → c.args.end ≤ length (buffer c)
fits c = let h = c.requires in omega (arith, h.0, h.1)

ordered : (c : After-carry-kept) → c.take_lines-d.result.used ≤ c.args.end
ordered c = omega (arith, (drained c).within, length-take c.args.end (buffer c))

pub slice_bounds-finish-end : goal.slice_bounds-finish-end
slice_bounds-finish-end c =
    let c_back3 = c.before.before.before in
    omega (
      arith,
      kept-count (buffer c_back3.before.before) _ _ (fits c_back3.before.before)
          (ordered c_back3.before.before) c.carry-kept.ensures,
      kept-fits (buffer c_back3.before.before) _ _ (fits c_back3.before.before) (ordered c_back3.before.before),
      c.carry-kept.auto.buffer,
    )

-- what is kept, as `finish` is lent it
kept_there : (c : After-carry-kept)
    → take (c.carry-kept.result - 0) c.carry-kept.new.buffer
    ≡ kept_of (buffer c) c.take_lines-d.result.used c.args.end (fits c) (ordered c)
kept_there c =
    let z : c.carry-kept.result - 0 ≡ c.carry-kept.result = omega arith in
    rw z (kept_front (buffer c) _ _ (fits c) (ordered c) c.carry-kept.ensures)

room : (c : After-carry-kept) → c.take_lines-d.result.written + 512 ≤ length c.take_lines-d.new.out
room c =
    room-left (buffer c) _ _ (fits c) (ordered c) c.carry-kept.ensures c.requires.0
    c.take_lines-d.result.session (drained c).fed (drained c).rest c.requires.2

pub finish-more-requires : goal.finish-more-requires
finish-more-requires c =
    let c_back3 = c.before.before.before in
    let s = c_back3.before.before.before in
    let l = c.take_lines-d in
    let out = l.new.out in
    let w = l.result.written in (
      rw (kept_there s) (kept_few (buffer s) _ _
          (fits s) (ordered s)),
      rw (kept_there s) (kept_open (buffer s) _ _ (fits s) (ordered s) (drained s).rest),
      omega (arith, room s, length-take (length out - w) (drop w out), length-drop w out),
    )

pub returns-then-last : goal.returns-then-last
returns-then-last c =
    let c_back3 = c.before.before.before in
    let c_back6 = c_back3.before.before.before in
    let c_back9 = c_back6.before.before.before in
    let z : c.carry-kept.result - 0 ≡ c.carry-kept.result = omega arith in
    rw c.if-last.true
    (ended (buffer c_back9.before) _ _ (fits c_back9.before) (ordered c_back9.before) c.carry-kept.ensures c.requires.0
    c.take_lines-d.result.session (drained c_back9.before).fed (drained c_back9.before).rest c.requires.2
    (rw z at c.finish-more.ensures))

pub returns : goal.returns
returns c =
    let c_back3 = c.before.before.before in
    rw (c.if-last.false, c.is_over.ensures)
    (stepped (buffer c_back3.before.before.before) _ _ (fits c_back3.before.before.before)
    (ordered c_back3.before.before.before) c.carry-kept.ensures c.requires.0
    c.take_lines-d.result.session (drained c_back3.before.before.before).fed
    (drained c_back3.before.before.before).rest c.requires.2)
