-- `c_burst::put_reply` meets its contract: a step for each byte that is stored, and for the part that is lent.
use mathlib.Core.Path.{◌≡◌, sym, ◌∙◌}
use native.Mathlib.Omega.{arith}
use lib.ListN.{length}
use Rattle.radio_erp1.specs.Subtelegram.{max_length}
use Rattle.base_buffers.proofs.Segments.{Writing, packed, begin, begun_length, within, lent, store, lend, done}
use Rattle.base_buffers.proofs.Buffer.{resized_whole, copied}
use Rattle.c_layout.specs.Frame.{frame_bytes}
use Rattle.c_burst.specs.Bytes.{reply_bytes}
use Rattle.c_burst.proofs.put_reply.Lts as lts
use Rattle.c_burst.proofs.put_reply.Reads as reads
use Rattle.c_burst.proofs.put_reply.Tie as tie
use Rattle.c_burst.proofs.put_reply.Goals as goal

-- states on the way
abbrev Start : Type 0
Start = lts.Start tie.the-claims reads.Pre reads.Post

abbrev After-number_of : Type 0
After-number_of = lts.After-number_of tie.the-claims reads.Pre reads.Post

abbrev After-copy-arg-1 : Type 0
After-copy-arg-1 = lts.After-copy-arg tie.the-claims reads.Pre reads.Post

abbrev After-copy : Type 0
After-copy = lts.After-copy tie.the-claims reads.Pre reads.Post

-- a place has 24 bytes
long : (c : Start) → length c.args.reply.now ≡ 24
long c = c.requires.0

-- what is written, after each step
abbrev headed : After-number_of → Writing 3
headed c =
    packed
    (store
    (store (store (begin c.args.reply.now) c.kind_of.result (omega (arith, long c.before.before.before)))
    c.number_of.result
    (omega (arith, long c.before.before.before)))
    c.args.len
    (omega (arith, long c.before.before.before)))

-- what is sent has 21 bytes
sized : (c : After-copy-arg-1) → length c.args.sent.now ≡ max_length
sized c = c.copy-arg-1.given

abbrev replied : After-copy → Writing 24
replied c =
    let c_back3 = c.before.before.before in
    let sent = c.args.sent.now in
    let place = lent (headed c.before.before.before).begun 21 24 (omega arith)
    (omega (arith, long c_back3.before.before.before)) in
    packed
    (lend (headed c.before.before.before).begun _ sent 24
    (copied sent _ _ (sized c.before.before ∙ sym place) c.copy.ensures.1)
    c.copy.auto.out
    (omega arith)
    (omega (arith, long c_back3.before.before.before)))

pub returns : goal.returns
unfolding reply_bytes frame_bytes
returns c =
    let c_back3 = c.before.before.before in
    let c_back6 = c_back3.before.before.before in
    rw (
      done (replied c.before.before.before).begun (long c_back6.before.before.before),
      c.kind_of.ensures,
      c.number_of.ensures,
      resized_whole max_length c.args.sent.now (sized c_back3.before.before),
    )

pub slice_bounds-copy-end-2 : goal.slice_bounds-copy-end-2
slice_bounds-copy-end-2 c =
    let c_back3 = c.before.before.before in
    within (headed c.before).begun 24 (omega (arith, long c_back3.before))

pub shape_of-reply : goal.shape_of-reply
shape_of-reply c = begun_length (replied c.before.before.before).begun
