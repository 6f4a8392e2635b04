-- `c_lines::lines` meets its contract: a case for each answer.
use mathlib.Core.Path.{◌≡◌, refl, sym, ap, subst, ◌∙◌}
use mathlib.Core.Bool.{true, false}
use native.Mathlib.Omega.{arith}
use borrow.Author.Tests.{lt-ltb, le-ltb, eqb-true}
use lib.ListN.{length}
use Rattle.collector_model.specs.Acceptable.{acceptable}
use Rattle.collector_state.specs.declared.Summary.{Summary}
use Rattle.collector_state.specs.Collector.{view_in}
use Rattle.collector_state.specs.Admission.{Tested}
use Rattle.c_collector.specs.State.{Arrays, arrays_in, columns_at, state_at}
use Rattle.c_lines.specs.Calls.{are_rows_sized}
use Rattle.c_lines.proofs.lines.Goals as goal
use Rattle.c_lines.proofs.lines.Goals.{Start, Else-not-is_acceptable, Else-not-is_sized}

-- what is lent
abbrev lent : Start → Arrays
lent s = arrays_in s.args.state.now

accepted : (c : Else-not-is_acceptable) → acceptable (state_at (arrays_in c.args.state.now)) ≡ true
accepted c =
    ap (λ (a : Arrays). acceptable (state_at a)) (sym c.held.ensures)
    ∙ sym c.is_acceptable.ensures ∙ c.if-not-is_acceptable.false

sized : (c : Else-not-is_sized) → let a = c.args in
    are_rows_sized (length a.moments.now) (length a.rows.now) ≡ true
sized c = sym c.is_sized.ensures ∙ c.if-not-is_sized.false

-- ---- what each return has to show
pub returns-then-not-is_acceptable-clause-lines : goal.returns-then-not-is_acceptable-clause-lines
returns-then-not-is_acceptable-clause-lines c =
    let s = lent (goal.at.returns-then-not-is_acceptable-clause-lines c).Start in
    let e : acceptable (state_at s) ≡ false =
    ap (λ (a : Arrays). acceptable (state_at a)) (sym c.held.ensures)
    ∙ sym c.is_acceptable.ensures ∙ c.if-not-is_acceptable.true in
    record {
      answer = rw e c.number.ensures;
      taken = λ z. absurd (omega (arith, c.number.ensures));
      stays = λ n. (refl, refl, refl, refl, refl);
    }

pub returns-then-not-is_sized-clause-lines : goal.returns-then-not-is_sized-clause-lines
returns-then-not-is_sized-clause-lines c =
    let at = goal.at.returns-then-not-is_sized-clause-lines c in
    let e = sym c.is_sized.ensures ∙ c.if-not-is_sized.true in
    record {
      answer = rw (accepted at.Else-not-is_acceptable, e);
      taken = λ z. absurd (omega arith);
      stays = λ n. (refl, refl, refl, refl, refl);
    }

pub returns-then-setting-gt-MAX_SETTING-clause-lines : goal.returns-then-setting-gt-MAX_SETTING-clause-lines
returns-then-setting-gt-MAX_SETTING-clause-lines c =
    let at = goal.at.returns-then-setting-gt-MAX_SETTING-clause-lines c in
    let ok = accepted at.Else-not-is_acceptable in
    let fits = sized at.Else-not-is_sized in
    record {
      answer = rw (ok, fits, lt-ltb 2 _ c.if-setting-gt-MAX_SETTING.true)
          c.number-then-setting-gt-MAX_SETTING.ensures;
      taken = λ z. absurd (omega (arith, c.number-then-setting-gt-MAX_SETTING.ensures));
      stays = λ n. (refl, refl, refl, refl, refl);
    }

pub take_rows-taken-requires : goal.take_rows-taken-requires
take_rows-taken-requires c =
    let at = goal.at.take_rows-taken-requires c in
    let told = sym (accepted at.Else-not-is_acceptable) in (
      subst (λ (s : Summary). Tested true (view_in (columns_at (lent at.Start)) s))
          (sym c.summary_of-summary.ensures.0)
          (record { said = told; fits = c.summary_of-summary.ensures.1 _ _ _ }),
      eqb-true _ _ (sized at.Else-not-is_sized),
    )

pub returns-clause-lines : goal.returns-clause-lines
returns-clause-lines c =
    let at = goal.at.returns-clause-lines c in
    let ok = accepted at.Else-not-is_acceptable in
    let fits = sized at.Else-not-is_sized in
    record {
      answer = rw (ok, fits, le-ltb 2 _ c.if-setting-gt-MAX_SETTING.false);
      taken = λ z. rw c.store.ensures (rw c.summary_of-summary.ensures.0 at c.take_rows-taken.ensures.stored);
      stays = λ n. absurd (n refl);
    }
