-- `collector_burst::burst` meets its contract: a refusal, or what the delivery says (`Whole.antt`).
use Rattle.std.proofs.Common.{◌≡◌, true, ℕ, List, subst, sym, ap, ◌∙◌, rules, false, Err}
use Rattle.base_refusal.specs.Number.{outcome_number}
use denote.Laws.{Is}
use denote.Builtin.{u16}
use denote.Array.{Array}
use Rattle.collector_model.specs.Acceptable.{acceptable}
use Rattle.collector_model.specs.Burst.{burst_number}
use Rattle.collector_model.specs.Exact.{Fits}
use Rattle.collector_state.specs.Collector.{view_of}
use Rattle.collector_state.proofs.Counts.{same, small, state-fits}
use Rattle.collector_burst.proofs.Planning.{called}
use Rattle.collector_burst.proofs.Whole.{refused, whole}
use Rattle.collector_burst.proofs.burst.Goals as goal
use Rattle.collector_burst.proofs.burst.Goals.{After-is_acceptable, Then-not-is_acceptable, Else-not-is_acceptable}

-- the state's numbers have 64 bits, and its counts 16
numbers : (c : After-is_acceptable) → Fits (view_of c.args.c)
numbers c =
    let x = c.args.c in
    let counts = c.well_formed.0 in
    state-fits x (search rules) (search rules)
    (small 64 x.copies _ (subst (λ (l : List ℕ). Is (Array u16 64) l counts.0.1.1.1.0)
    (sym (same x.copies)) counts.1.1.1.1.1.0))

unaccepted : (c : Then-not-is_acceptable) → acceptable (view_of c.args.c) ≡ false
unfolding view_of
unaccepted c = sym (c.is_acceptable.ensures _) ∙ c.if-not-is_acceptable.true

accepted : (c : Else-not-is_acceptable) → acceptable (view_of c.args.c) ≡ true
unfolding view_of
accepted c = sym (c.is_acceptable.ensures _) ∙ c.if-not-is_acceptable.false

pub returns-then-not-is_acceptable : goal.returns-then-not-is_acceptable
unfolding burst_number
returns-then-not-is_acceptable c =
    refused _ _ _ _ _ (rw (unaccepted (goal.at.returns-then-not-is_acceptable c).Then-not-is_acceptable))

pub returns-in_err-check_call : goal.returns-in_err-check_call
unfolding burst_number
returns-in_err-check_call c =
    let why = c.in_err-check_call.field-0.0 in
    let same : c.from_residual.result ≡ Err why = search rules in
    rw same (refused _ _ _ _ _
    (rw (accepted (goal.at.returns-in_err-check_call c).Else-not-is_acceptable) c.in_err-check_call.ensures))

pub deliver-requires : goal.deliver-requires
deliver-requires c = (called _ _ _ (sym c.check_call.ensures ∙ ap outcome_number c.in_ok-check_call.was)).0

pub returns : goal.returns
unfolding burst_number
returns c =
    let at = goal.at.returns c in
    let ok = accepted at.Else-not-is_acceptable in
    whole _ _ _ _ (rw ok (sym c.check_call.ensures ∙ ap outcome_number c.in_ok-check_call.was))
    (record { said = sym ok; fits = numbers at.After-is_acceptable }) c.deliver.ensures.delivers
