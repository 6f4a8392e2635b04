-- The goals that a search does not find.
use mathlib.Core.Path.{◌≡◌, sym, ◌∙◌}
use mathlib.Core.List.{[], flatten}
use Prim.Native.Nat.{◌*◌, ◌+◌, ◌≤◌}
use native.Mathlib.Omega.{arith}
use borrow.Author.Rules.{rules}
use lib.ListN.{length, get_or}
use Rattle.base_buffers.proofs.Segments.{begin, begun_length, within, turn, turned, done}
use Rattle.collector_model.specs.declared.Answer.TheVariants.{Kept}
use Rattle.collector_burst.specs.declared.Reply.{Reply}
use Rattle.history_replay_model.specs.Record.{reply_of}
use Rattle.history_replay.specs.Private.{reply_cell}
use Rattle.history_replay.proofs.Filling.{cells, cells-length, cell_at}
use Rattle.history_replay.proofs.value_lists.put_replies.Lts as lts
use Rattle.history_replay.proofs.value_lists.put_replies.Reads as reads
use Rattle.history_replay.proofs.value_lists.put_replies.Tie as tie
use Rattle.history_replay.proofs.value_lists.put_replies.Goals as goal

-- states on the way
abbrev At-loop-i : Type 0
At-loop-i = lts.At-loop tie.the-claims reads.Pre reads.Post goal.the-invariant-loop-i goal.the-decreases-loop-i

abbrev In-loop-i : Type 0
In-loop-i = lts.In-loop tie.the-claims reads.Pre reads.Post goal.the-invariant-loop-i goal.the-decreases-loop-i

-- the list by value has all its places
places : (c : At-loop-i) → c.args.m ≤ length c.args.replies
places c =
    let h : length c.args.replies ≡ 259 = search rules in
    omega (arith, c.requires.0)

-- there is room for one more
room : (c : In-loop-i) → 31 * c.loop-i.i + 31 ≤ length c.args.out.now
room c = omega (arith, c.requires.1)

-- what is read past the end of a list
abbrev no_reply : Reply
no_reply = record { answer = Kept; sent = record { len = 0; bytes = [] } }

pub loop-i-init : goal.loop-i-init
unfolding flatten
loop-i-init c = record { bounded = omega arith; begun = begin _ }

pub loop-i-preserved : goal.loop-i-preserved
unfolding reply_of
loop-i-preserved c =
    let c_back3 = c.before.before.before in
    let c_back6 = c_back3.before.before.before in
    let c_back9 = c_back6.before.before.before in
    let a = c.args in
    let h = places c_back9.before in
    let i = c.loop-i.i in
    record {
      bounded = omega arith;
      begun =
          turn a.out.now (cells a.m a.replies) 31 i _ _
          c.loop-i.invariant.begun (omega (arith, cells-length a.m a.replies h))
          (c.put_reply.ensures
          ∙ (λ j. reply_cell (c.form_of-form.ensures j) (c.number_of-number.ensures j)
          (get_or a.replies i no_reply).sent)
          ∙ sym (cell_at a.m a.replies h i no_reply (omega arith))) c.put_reply.auto.out
          (room c_back6.before.before.before);
    }

pub returns : goal.returns
returns c =
    let a = c.args in
    let h = places c.before in
    done (turned a.out.now (cells a.m a.replies) 31 a.m c.loop-i.i _
    c.loop-i.invariant.begun (omega arith) (cells-length
    a.m a.replies h))
    c.requires.1

pub bounds-replies-i : goal.bounds-replies-i
bounds-replies-i c = omega (arith, places c.before)

pub slice_bounds-put_reply-end : goal.slice_bounds-put_reply-end
slice_bounds-put_reply-end c =
    let c_back3 = c.before.before.before in
    within c.loop-i.invariant.begun _ (room c_back3.before)

pub overflow_step-i : goal.overflow_step-i
overflow_step-i c = omega arith

pub loop-i-smaller : goal.loop-i-smaller
loop-i-smaller c = omega arith

pub shape_of-out : goal.shape_of-out
shape_of-out c = begun_length c.loop-i.invariant.begun
