-- The goals that a search does not find.
use mathlib.Core.Path.{◌≡◌, ap, ◌∙◌}
use borrow.Author.Rules.{rules}
use lib.ListN.{length}
use Rattle.history_replay.specs.Calls.{burst_reception_in}
use Rattle.history_replay.proofs.Records.{lent_record}
use Rattle.history_replay.proofs.Filling.{filled_start, filled_next, filled_end}
use Rattle.history_replay.proofs.value_lists.receptions_in.Goals as goal

pub loop-i-init : goal.loop-i-init
loop-i-init c =
    let pre = c.requires in
    let h : length c.no_receptions-all.result ≡ 259 = search rules in
    filled_start _ _ _ _ _ _ pre.0 pre.1 h

pub loop-i-preserved : goal.loop-i-preserved
loop-i-preserved c =
    filled_next _ _ _ _ _ _ _ c.loop-i.invariant c.loop-i-test.true _
    (c.reception_in.ensures ∙ ap burst_reception_in (lent_record c.args.bytes.now c.loop-i.i))

pub returns : goal.returns
returns c = filled_end _ _ _ _ _ _ _ c.loop-i.invariant c.loop-i-test.false
