-- `c_burst::burst` meets its contract: a case for each answer.
use mathlib.Core.Path.{◌≡◌, sym, ap, subst, ◌∙◌}
use mathlib.Core.Bool.{true}
use native.Mathlib.Omega.{arith}
use lib.ListN.{length}
use Rattle.base_refusal.specs.Number.{outcome_number}
use Rattle.base_refusal.proofs.Numbers.{refused-number}
use Rattle.collector_model.specs.Acceptable.{acceptable}
use Rattle.collector_state.specs.declared.Summary.{Summary}
use Rattle.collector_state.specs.Collector.{view_in}
use Rattle.collector_state.specs.Admission.{Tested}
use Rattle.collector_burst.proofs.Planning.{called}
use Rattle.c_collector.specs.State.{Arrays, arrays_in, columns_at, state_at}
use Rattle.c_burst.specs.Bytes.{is_sized}
use Rattle.c_burst.proofs.Sizes.{records_are}
use Rattle.c_burst.proofs.Whole.{wrong_size_lem, refused-state, refused-call, all_taken}
use Rattle.c_burst.proofs.burst.Goals as goal
use Rattle.c_burst.proofs.burst.Goals.{Start, Else-not-is_acceptable, Else-not-is_sized}

-- what is lent
abbrev lent : Start → Arrays
lent s = arrays_in s.args.state.now

accepted : (c : Else-not-is_acceptable) → acceptable (state_at (arrays_in c.args.state.now)) ≡ true
accepted c =
    ap (λ (a : Arrays). acceptable (state_at a)) (sym c.held.ensures)
    ∙ sym c.is_acceptable.ensures ∙ c.if-not-is_acceptable.false

sized : (c : Else-not-is_sized) → let a = c.args in
    is_sized (length a.moments.now) (length a.records.now) ≡ true
sized c = sym c.is_sized.ensures ∙ c.if-not-is_sized.false

pub returns-then-not-is_acceptable-clause-bursts : goal.returns-then-not-is_acceptable-clause-bursts
returns-then-not-is_acceptable-clause-bursts c =
    refused-state (lent (goal.at.returns-then-not-is_acceptable-clause-bursts c).Start) c.args.setting _ _ _
    (ap (λ (a : Arrays). acceptable (state_at a)) (sym c.held.ensures)
    ∙ sym c.is_acceptable.ensures ∙ c.if-not-is_acceptable.true) _ c.number.ensures

pub returns-then-not-is_sized-clause-bursts : goal.returns-then-not-is_sized-clause-bursts
returns-then-not-is_sized-clause-bursts c =
    let at = goal.at.returns-then-not-is_sized-clause-bursts c in
    wrong_size_lem (lent at.Start) c.args.setting _ _ _ (accepted at.Else-not-is_acceptable)
    (sym c.is_sized.ensures ∙ c.if-not-is_sized.true)

pub returns-in-Err-clause-bursts : goal.returns-in-Err-clause-bursts
returns-in-Err-clause-bursts c =
    let at = goal.at.returns-in-Err-clause-bursts c in
    refused-call (lent at.Start) c.args.setting _ _ _ (accepted at.Else-not-is_acceptable)
    (sized at.Else-not-is_sized) _
    (c.number-in-Err.ensures ∙ sym (ap outcome_number c.in-Err.is) ∙ c.check_call.ensures)
    (λ z. refused-number _ (sym c.number-in-Err.ensures ∙ z))

pub deliver-requires : goal.deliver-requires
deliver-requires c =
    let at = goal.at.deliver-requires c in
    let few = called _ _ _ (sym c.check_call.ensures ∙ ap outcome_number c.in_default.is) in
    let ok = accepted at.Else-not-is_acceptable in (
      few.1,
      records_are _ _ (sized at.Else-not-is_sized),
      omega (arith, few.0),
      subst (λ (s : Summary). Tested true (view_in (columns_at (lent at.Start)) s))
          (sym c.summary_of-summary.ensures.0)
          (record { said = sym ok; fits = c.summary_of-summary.ensures.1 _ _ _ }),
    )

pub returns-clause-bursts : goal.returns-clause-bursts
returns-clause-bursts c =
    let a = c.args in
    let at = goal.at.returns-clause-bursts c in
    all_taken (lent at.Start) a.setting a.moments.now a.records.now a.replies.now
    (accepted at.Else-not-is_acceptable) (sized at.Else-not-is_sized)
    (sym c.check_call.ensures ∙ ap outcome_number c.in_default.is) _
    c.summary_of-summary.ensures.0 _ _ _ c.deliver.ensures.delivers _ c.store.ensures
