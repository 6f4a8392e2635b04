-- The goals that a search does not find.
use mathlib.Core.Path.{◌≡◌, ap, sym, ◌∙◌}
use borrow.Author.Rules.{rules}
use lib.ListN.{length}
use Rattle.history_replay.specs.Calls.{number_at}
use Rattle.history_replay.proofs.Records.{lent_record}
use Rattle.history_replay.proofs.Filling.{filled_start, filled_next, filled_end, map_same}
use Rattle.history_replay.proofs.lent_lists.moments_in.Goals as goal

pub loop-i-init : goal.loop-i-init
loop-i-init c =
    let pre = c.requires in
    let h : length c.no_moments-all.result ≡ 259 = search rules in
    filled_start _ _ _ _ _ _ pre.0 pre.1 h

pub loop-i-preserved : goal.loop-i-preserved
loop-i-preserved c =
    filled_next _ _ _ _ _ _ _ c.loop-i.invariant c.loop-i-test.true _
    (c.number_at.ensures ∙ ap (number_at 1) (lent_record c.args.records.now c.loop-i.i))

pub returns : goal.returns
returns c = sym (map_same _) ∙ filled_end _ _ _ _ _ _ _ c.loop-i.invariant c.loop-i-test.false
