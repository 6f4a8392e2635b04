-- `collector_state::merging::check_reception` meets its contract: each return is one case of `reception_check`.
use Rattle.std.proofs.Common.{◌≡◌, true, sym, ap, ◌∙◌, rules, Err}
use borrow.Author.Tests.{eq-eqb}
use Rattle.base_refusal.specs.Number.{outcome_number}
use Rattle.radio_erp1.specs.Subtelegram.{is_valid}
use Rattle.radio_erp1.proofs.Checks.{not_valid}
use Rattle.collector_state.proofs.Classifying.{reception-damaged, reception-late, reception-passed}
use Rattle.collector_state.proofs.merging.check_reception.Goals as goal
use Rattle.collector_state.proofs.merging.check_reception.Goals.{In_ok-check}

pub returns-in_err-check : goal.returns-in_err-check
returns-in_err-check c =
    let why = c.in_err-check.field-0.0 in
    let same : c.from_residual.result ≡ Err why = search rules in
    rw same (c.in_err-check.ensures ∙ reception-damaged _ _ (not_valid _ why c.in_err-check.ensures))

valid : (c : In_ok-check) → is_valid c.args.bytes.now ≡ true
valid c = eq-eqb _ 0 (sym c.check.ensures ∙ ap outcome_number c.in_ok-check.was)

pub returns-then-time-latest : goal.returns-then-time-latest
returns-then-time-latest c =
    reception-late _ _ (valid (goal.at.returns-then-time-latest c).In_ok-check) c.if-time-latest.true

pub returns : goal.returns
returns c = reception-passed _ _ (valid (goal.at.returns c).In_ok-check) c.if-time-latest.false
