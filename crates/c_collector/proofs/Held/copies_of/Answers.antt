-- `c_collector::Held::copies_of` meets its contract: a case for each answer.
use Prim.Native.Nat.{◌≤◌}
use mathlib.Core.Path.{◌≡◌, sym, ◌∙◌}
use mathlib.Core.Bool.{true}
use native.Mathlib.Omega.{arith}
use lib.ListN.{get_or}
use Rattle.base_refusal.specs.Number.{number_of}
use Rattle.base_refusal.specs.declared.Refusal.TheVariants.{Argument, NotAccepted}
use Rattle.base_refusal.proofs.Numbers.{refused-number}
use Rattle.collector_model.specs.View.{capacity}
use Rattle.collector_model.specs.Acceptable.{acceptable}
use Rattle.collector_state.specs.declared.Collector.{Collector}
use Rattle.collector_state.specs.Collector.{view_of}
use Rattle.collector_state.specs.Admission.{collector_of}
use Rattle.collector_state.proofs.Hearing.{heard_unacceptable, heard_few, heard-closed, heard_open}
use Rattle.c_collector.specs.State.{columns_at, arrays_held, summary_in}
use Rattle.c_collector.specs.declared.Held.{Held}
use Rattle.c_collector.proofs.State.{copies-refused, copies-shown}
use Rattle.c_collector.proofs.Held.copies_of.Goals.{After-is_acceptable, Else-not-is_acceptable, Else-self-entry}
use Rattle.c_collector.proofs.Held.copies_of.Goals as goal

-- the state that is lent, as one value
abbrev state : Held → Collector
state h = collector_of (columns_at (arrays_held h)) (summary_in h.numbers.now)

passed : (c : Else-not-is_acceptable) → acceptable (view_of (state c.args.self)) ≡ true
unfolding view_of
passed c = sym c.is_acceptable.ensures ∙ c.if-not-is_acceptable.false

pub returns-then-not-is_acceptable : goal.returns-then-not-is_acceptable
unfolding view_of
returns-then-not-is_acceptable c =
    rw c.number.ensures (copies-refused _ _ _ (number_of NotAccepted) (refused-number NotAccepted)
    (heard_unacceptable (state c.args.self) c.args.entry (sym c.is_acceptable.ensures ∙ c.if-not-is_acceptable.true)))

pub returns-then-self-entry : goal.returns-then-self-entry
unfolding view_of
returns-then-self-entry c =
    rw c.number-then-self-entry.ensures (copies-refused _ _ _ (number_of Argument) (refused-number Argument)
    (heard-closed (state c.args.self) c.args.entry (passed (goal.at.returns-then-self-entry c).Else-not-is_acceptable)
    c.if-self-entry.true))

few : (c : Else-self-entry) → get_or c.args.self.numbers.now 0 0 ≤ capacity
few c = heard_few (state c.args.self) c.args.entry (passed c.before.before)

pub returns : goal.returns
unfolding view_of
returns c =
    rw c.from.ensures
    (copies-shown _ _ _ _ (heard_open (state c.args.self) c.args.entry
    (passed (goal.at.returns c).Else-not-is_acceptable) c.if-self-entry.false))

pub offset_bounds-self-entry : goal.offset_bounds-self-entry
offset_bounds-self-entry c = omega (
  arith,
  few (goal.at.offset_bounds-self-entry c).Else-self-entry,
  c.if-self-entry.false,
)

pub bounds-self-entry : goal.bounds-self-entry
bounds-self-entry c = omega (arith, few (goal.at.bounds-self-entry c).Else-self-entry, c.if-self-entry.false)
