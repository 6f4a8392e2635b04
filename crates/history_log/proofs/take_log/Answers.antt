-- `history_log::take_log` meets its contract: no right first line, or the lines behind it.
use mathlib.Core.Path.{◌≡◌, refl, ap}
use mathlib.Core.List.{List}
use Prim.Native.Nat.{ℕ, ◌≤◌}
use native.Mathlib.Omega.{arith}
use lib.ListN.{length, get_or}
use Rattle.base_buffers.proofs.Stores.{take_rest}
use Rattle.c_collector.specs.State.{Arrays, arrays_in}
use Rattle.c_lines.specs.Calls.{first_used}
use Rattle.history_log.proofs.Said.{first_within}
use Rattle.history_log.proofs.Keeping.{none_logged, first_ready, first_logged}
use Rattle.history_log.proofs.take_log.Lts as lts
use Rattle.history_log.proofs.take_log.Reads as reads
use Rattle.history_log.proofs.take_log.Tie as tie
use Rattle.history_log.proofs.take_log.Goals as goal

-- states on the way
abbrev After-first_line-setting : Type 0
After-first_line-setting = lts.After-first_line tie.the-claims reads.Pre reads.Post

abbrev log : After-first_line-setting → List ℕ
log c = c.args.log.now

abbrev lent : After-first_line-setting → Arrays
lent c =
    let a = c.args in
    arrays_in a.state.now

-- ---- the rest of the log

used : (c : After-first_line-setting) → get_or c.first_line-setting.new.done 0 0 ≡ first_used (log c)
used c = ap (λ (l : List ℕ). get_or l 0 0) c.first_line-setting.ensures.1

within : (c : After-first_line-setting) → get_or c.first_line-setting.new.done 0 0 ≤ length (log c)
within c = omega (arith, used c, first_within (log c))

pub returns-then-setting-gt-MAX_SETTING : goal.returns-then-setting-gt-MAX_SETTING
returns-then-setting-gt-MAX_SETTING c =
    none_logged c.args.write (log c.before.before) c.args.archive.now c.args.n c.args.heard.now
    c.requires.1 c.first_line-setting.result c.first_line-setting.ensures.0
    (lent c.before.before) c.requires.0 c.if-setting-gt-MAX_SETTING.true

pub take_lines-requires : goal.take_lines-requires
take_lines-requires c =
    let c_back3 = c.before.before.before in
    let c_back6 = c_back3.before.before.before in
    let rest = take_rest (log c_back6) (length (log c_back6))
    (get_or c.first_line-setting.new.done 0 0) refl in
    rw (rest, used c_back6)
    (first_ready c.args.write (log c_back6) c.args.archive.now c.args.n c.args.heard.now
    c.requires.1 c.first_line-setting.result c.first_line-setting.ensures.0
    (lent c_back6) c.requires.0 c.if-setting-gt-MAX_SETTING.false)

pub returns : goal.returns
returns c =
    let c_back3 = c.before.before.before in
    let c_back6 = c_back3.before.before.before in
    let c_back9 = c_back6.before.before.before in
    let rest = take_rest (log c_back9.before.before) (length (log c_back9.before.before))
    (get_or c.first_line-setting.new.done 0 0) refl in
    first_logged c.args.write (log c_back9.before.before) c.args.archive.now c.args.n c.args.heard.now
    c.requires.1 c.first_line-setting.result c.first_line-setting.ensures.0
    (lent c_back9.before.before) c.requires.0 c.if-setting-gt-MAX_SETTING.false
    c.take_lines.result (rw (rest, used c_back9.before.before) at c.take_lines.ensures)

pub slice_bounds-take_lines-count : goal.slice_bounds-take_lines-count
slice_bounds-take_lines-count c = within c.before.before.before

pub slice_bounds-take_lines-start : goal.slice_bounds-take_lines-start
slice_bounds-take_lines-start c = within c.before.before.before
