-- `collector_state::acceptable::is_acceptable` meets its contract: each return is one case of the test.
use mathlib.Core.Path.{◌≡◌, refl, sym, ◌∙◌}
use mathlib.Core.Bool.{true}
use mathlib.Core.List.{List}
use Prim.Native.Nat.{ℕ}
use Rattle.collector_state.specs.Collector.{columns, entries_at}
use Rattle.collector_state.specs.Private.{are_timely, are_telegrams}
use Rattle.collector_state.proofs.Arrays.{entries-length}
use Rattle.collector_state.proofs.Accepting.{too_many, not-timely, not-telegrams, not-summed, all_passed}
use Rattle.collector_state.proofs.acceptable.is_acceptable.Goals as goal
use Rattle.collector_state.proofs.acceptable.is_acceptable.Goals.{Else-not-are_timely, Else-not-are_telegrams}

timely : (c : Else-not-are_timely) (copies : List ℕ)
    → are_timely c.args.summary.latest
    (entries_at (columns c.args.times.now c.args.lens.now c.args.bytes.now copies) c.args.summary.count) ≡ true
timely c copies = sym (c.are_timely.ensures _ refl) ∙ c.if-not-are_timely.false

telegrams : (c : Else-not-are_telegrams) (copies : List ℕ)
    → are_telegrams
    (entries_at (columns c.args.times.now c.args.lens.now c.args.bytes.now copies) c.args.summary.count) ≡ true
telegrams c copies = sym (c.are_telegrams.ensures copies) ∙ c.if-not-are_telegrams.false

pub returns-then-count-gt-CAPACITY : goal.returns-then-count-gt-CAPACITY
returns-then-count-gt-CAPACITY c copies = too_many _ _ (entries-length _ _) c.if-count-gt-CAPACITY.true

pub returns-then-not-are_timely : goal.returns-then-not-are_timely
returns-then-not-are_timely c copies =
    not-timely _ _ (entries-length _ _) c.if-count-gt-CAPACITY.false
    (sym (c.are_timely.ensures _ refl) ∙ c.if-not-are_timely.true)

pub returns-then-not-are_telegrams : goal.returns-then-not-are_telegrams
returns-then-not-are_telegrams c copies =
    not-telegrams _ _ (entries-length _ _) c.if-count-gt-CAPACITY.false
    (timely (goal.at.returns-then-not-are_telegrams c).Else-not-are_timely copies)
    (sym (c.are_telegrams.ensures copies) ∙ c.if-not-are_telegrams.true)

pub returns-then-not-is_summed : goal.returns-then-not-is_summed
returns-then-not-is_summed c copies =
    let at = goal.at.returns-then-not-is_summed c in
    not-summed _ _ (entries-length _ _) c.if-count-gt-CAPACITY.false (timely at.Else-not-are_timely copies)
    (telegrams at.Else-not-are_telegrams copies) (sym c.is_summed.ensures ∙ c.if-not-is_summed.true)

pub returns : goal.returns
returns c copies =
    let at = goal.at.returns c in
    all_passed _ _ (entries-length _ _) c.if-count-gt-CAPACITY.false (timely at.Else-not-are_timely copies)
    (telegrams at.Else-not-are_telegrams copies) (sym c.is_summed.ensures ∙ c.if-not-is_summed.false)
