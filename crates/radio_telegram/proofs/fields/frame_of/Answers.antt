-- `radio_telegram::fields::frame_of` meets its contract: the parts are put one after the other, and all of them fit.
use native.Mathlib.Omega.{arith}
use borrow.Author.Rules.{rules}
use Prim.Native.Nat.{◌+◌, ◌≤◌}
use lib.ListN.{length, length-take}
use Rattle.radio_telegram.specs.Fields.{before_data, ids_of, telegram_bytes, Shaped}
use Rattle.radio_telegram.proofs.Frames.{frame-len}
use Rattle.radio_telegram.proofs.Building.{bytes-length}
use Rattle.radio_telegram.proofs.fields.frame_of.Goals as goal
use Rattle.radio_telegram.proofs.fields.frame_of.Goals.{Start}

shape : (c : Start) → Shaped c.args.t
shape c = record { payload = search rules; destid = search rules; txid = search rules }

start_length : (c : Start)
    → length (before_data c.args.t) + c.args.t.len + length (ids_of c.args.t) + 2 ≤ 21
start_length c = omega (arith, bytes-length c.args.t (shape c) c.requires.high, c.requires.fits)

pub slice_bounds-append-end : goal.slice_bounds-append-end
slice_bounds-append-end c =
    simp length-take (omega (arith, (shape (goal.at.slice_bounds-append-end c).Start).payload, c.requires.high))

pub append-requires : goal.append-requires
append-requires c =
    simp length-take
    (omega (arith, start_length (goal.at.append-requires c).Start, frame-len _ _ c.head.ensures))

pub with_ids-f-requires : goal.with_ids-f-requires
with_ids-f-requires c =
    omega (
      arith,
      start_length (goal.at.with_ids-f-requires c).Start,
      frame-len _ _ c.head.ensures,
      c.append.ensures.len,
      length-take c.args.t.len c.args.t.payload,
    )

pub push-requires : goal.push-requires
push-requires c =
    omega (
      arith,
      start_length (goal.at.push-requires c).Start,
      frame-len _ _ c.head.ensures,
      c.append.ensures.len,
      c.with_ids-f.ensures.len,
      length-take c.args.t.len c.args.t.payload,
    )

pub sealed-requires : goal.sealed-requires
sealed-requires c =
    omega (
      arith,
      start_length (goal.at.sealed-requires c).Start,
      frame-len _ _ c.head.ensures,
      c.append.ensures.len,
      c.with_ids-f.ensures.len,
      c.push.ensures.len,
      length-take c.args.t.len c.args.t.payload,
    )

pub returns : goal.returns
unfolding telegram_bytes
returns c =
    c.sealed.ensures _
    (c.push.ensures.bytes _
    (c.with_ids-f.ensures.bytes _
    (c.append.ensures.bytes _ c.head.ensures)))
