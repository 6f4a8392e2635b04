-- `c_lines::formats::lines_as` meets its contract: a case for each answer.
use mathlib.Core.Path.{◌≡◌, refl, sym, ap, subst, ◌∙◌}
use mathlib.Core.Bool.{true, false}
use native.Mathlib.Omega.{arith}
use borrow.Author.Tests.{eqb-true}
use lib.ListN.{length}
use Rattle.collector_model.specs.Acceptable.{acceptable}
use Rattle.collector_state.specs.declared.Summary.{Summary}
use Rattle.collector_state.specs.Collector.{view_in}
use Rattle.collector_state.specs.Admission.{Tested}
use Rattle.c_collector.specs.State.{Arrays, arrays_in, columns_at, state_at}
use Rattle.c_lines.specs.Calls.{are_rows_sized}
use Rattle.c_lines.proofs.formats.lines_as.Goals as goal
use Rattle.c_lines.proofs.formats.lines_as.Goals.{Start, Else-not-is_acceptable, Else-not-is_sized}

-- what is lent
abbrev lent : Start → Arrays
lent s = arrays_in s.args.state.now

accepted : (c : Else-not-is_acceptable) → acceptable (state_at (arrays_in c.args.state.now)) ≡ true
accepted c =
    ap (λ (a : Arrays). acceptable (state_at a)) (sym c.held.ensures)
    ∙ sym c.is_acceptable.ensures ∙ c.if-not-is_acceptable.false

sized : (c : Else-not-is_sized) → let a = c.args in
    are_rows_sized (length a.moments.now) (length a.rows.now) ≡ true
sized c = sym c.is_sized.ensures ∙ c.if-not-is_sized.false

-- ---- what each return has to show
pub returns-then-not-is_acceptable-clause-lines_as : goal.returns-then-not-is_acceptable-clause-lines_as
returns-then-not-is_acceptable-clause-lines_as c =
    let s = lent (goal.at.returns-then-not-is_acceptable-clause-lines_as c).Start in
    let e : acceptable (state_at s) ≡ false =
    ap (λ (a : Arrays). acceptable (state_at a)) (sym c.held.ensures)
    ∙ sym c.is_acceptable.ensures ∙ c.if-not-is_acceptable.true in
    record {
      answer = rw e c.number.ensures;
      taken = λ z. absurd (omega (arith, c.number.ensures));
      stays = λ n. (refl, refl, refl, refl, refl, refl);
    }

pub returns-then-not-is_sized-clause-lines_as : goal.returns-then-not-is_sized-clause-lines_as
returns-then-not-is_sized-clause-lines_as c =
    let at = goal.at.returns-then-not-is_sized-clause-lines_as c in
    let e = sym c.is_sized.ensures ∙ c.if-not-is_sized.true in
    record {
      answer = rw (accepted at.Else-not-is_acceptable, e);
      taken = λ z. absurd (omega arith);
      stays = λ n. (refl, refl, refl, refl, refl, refl);
    }

pub returns-then-setting-format-clause-lines_as : goal.returns-then-setting-format-clause-lines_as
returns-then-setting-format-clause-lines_as c =
    let at = goal.at.returns-then-setting-format-clause-lines_as c in
    record {
      answer = rw (accepted at.Else-not-is_acceptable, sized at.Else-not-is_sized, c.if-setting-format.true)
          c.number-then-setting-format.ensures;
      taken = λ z. absurd (omega (arith, c.number-then-setting-format.ensures));
      stays = λ n. (refl, refl, refl, refl, refl, refl);
    }

pub take_rows_as-taken-requires : goal.take_rows_as-taken-requires
take_rows_as-taken-requires c =
    let at = goal.at.take_rows_as-taken-requires c in
    let told = sym (accepted at.Else-not-is_acceptable) in (
      subst (λ (s : Summary). Tested true (view_in (columns_at (lent at.Start)) s))
          (sym c.summary_of-summary.ensures.0)
          (record { said = told; fits = c.summary_of-summary.ensures.1 _ _ _ }),
      eqb-true _ _ (sized at.Else-not-is_sized),
    )

pub returns-clause-lines_as : goal.returns-clause-lines_as
returns-clause-lines_as c =
    let at = goal.at.returns-clause-lines_as c in
    record {
      answer = rw (accepted at.Else-not-is_acceptable, sized at.Else-not-is_sized, c.if-setting-format.false);
      taken =
          λ z. rw c.store.ensures
          (rw (c.summary_of-summary.ensures.0, c.format_of.ensures) at c.take_rows_as-taken.ensures.heard);
      stays = λ n. absurd (n refl);
    }
