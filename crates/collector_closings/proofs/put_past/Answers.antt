-- The goals that a search does not find.
use mathlib.Core.Path.{◌≡◌, refl}
use Prim.Native.Nat.{◌+◌, ◌-◌, ◌*◌, ◌≤◌}
use native.Mathlib.Omega.{arith}
use native.Mathlib.Nat.{zero-add}
use lib.ListN.{length, get_or}
use Rattle.radio_erp1.specs.Subtelegram.{max_length}
use Rattle.base_buffers.specs.Buffer.{part, resized}
use Rattle.base_buffers.proofs.Stores.{then, loosened}
use Rattle.base_buffers.proofs.Buffer.{resized-length}
use Rattle.collector_state.specs.Collector.{columns_held}
use Rattle.collector_state.proofs.Arrays.{bytes-shown}
use Rattle.collector_closings.proofs.Cells.{none_past, one_past, printed-length}
use Rattle.collector_closings.proofs.put_past.Goals.{At-loop-i, In-loop-i}
use Rattle.collector_closings.proofs.put_past.Goals as goal

pub loop-i-init : goal.loop-i-init
loop-i-init c =
    record {
      bounded = omega arith;
      put = rw (← none_past (columns_held c.args.state) c.args.time)
          (record { bytes = refl; next = omega arith; short = omega arith });
    }

bound : (l : At-loop-i) → l.args.state.summary.count ≤ 64
bound l = rw zero-add at l.requires.0.bound

few : (c : In-loop-i) → c.args.state.summary.count ≤ 64
few c = bound c.before

short : (c : In-loop-i) → get_or c.args.state.lens.now c.loop-i.i 0 ≤ max_length
short c = rw zero-add at (c.requires.0.short c.loop-i.i (omega arith))

same : (c : In-loop-i) → length c.loop-i.closed ≡ length c.args.closed.now
same c = printed-length c.loop-i.invariant.put

-- the bytes of the entry
shows : (c : In-loop-i) → 1344 ≤ length c.args.state.bytes.now
    → (let i = c.loop-i.i in let a = c.args.state in let len = get_or a.lens.now i 0 in
    part (max_length * i) (max_length * i + len - max_length * i) a.bytes.now
    ≡ resized len (part (max_length * i) max_length a.bytes.now))
shows c long =
    let i = c.loop-i.i in
    let a = c.args.state in
    bytes-shown a.bytes.now i (get_or a.lens.now i 0) (short c) (omega (arith, few c, long))

inside : (c : In-loop-i)
    → (let i = c.loop-i.i in let a = c.args.state in
    max_length * i + get_or a.lens.now i 0 ≤ 1344)
inside c = omega (arith, short c, few c)

pub put_entry-k-requires : goal.put_entry-k-requires
put_entry-k-requires c =
    let at = (goal.at.put_entry-k-requires c).In-loop-i in (
      rw (shows at (omega arith), resized-length) (short at),
      omega (arith, few at, same at, c.loop-i.invariant.put.short, c.requires.1),
    )

pub loop-i-preserved : goal.loop-i-preserved
loop-i-preserved c =
    let l = c.loop-i in
    let w = rw (shows (goal.at.loop-i-preserved c).In-loop-i (omega arith)) at c.put_entry-k.ensures in
    record {
      bounded = omega arith;
      put = rw (one_past (columns_held c.args.state) c.args.time l.i)
          (loosened (then l.invariant.put w) (omega arith));
    }

pub returns : goal.returns
returns c =
    let l = c.loop-i in
    let e : l.i ≡ c.args.state.summary.count = omega arith in
    loosened (rw e at l.invariant.put) (omega (arith, c.requires.0.bound))

pub overflow_mul-at : goal.overflow_mul-at
overflow_mul-at c = omega (arith, few (goal.at.overflow_mul-at c).In-loop-i)

pub overflow_cast-len : goal.overflow_cast-len
overflow_cast-len c = omega (arith, short (goal.at.overflow_cast-len c).In-loop-i)

pub overflow_add-at : goal.overflow_add-at
overflow_add-at c =
    let at = (goal.at.overflow_add-at c).In-loop-i in omega (arith, few at, short at)

pub slice_bounds-put_entry-count : goal.slice_bounds-put_entry-count
slice_bounds-put_entry-count c = omega (arith, short (goal.at.slice_bounds-put_entry-count c).In-loop-i)

pub slice_bounds-put_entry-start : goal.slice_bounds-put_entry-start
slice_bounds-put_entry-start c = omega (arith, short (goal.at.slice_bounds-put_entry-start c).In-loop-i)

pub slice_bounds-put_entry-end : goal.slice_bounds-put_entry-end
slice_bounds-put_entry-end c = inside (goal.at.slice_bounds-put_entry-end c).In-loop-i

pub shape_of-closed : goal.shape_of-closed
shape_of-closed c = printed-length c.loop-i.invariant.put
