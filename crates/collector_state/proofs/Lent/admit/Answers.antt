-- `collector_state::Lent::admit` meets its contract: the steps of `admitted` are decided, and carried out column by column; or 11 or 8 and nothing.
use lib.ListN.{drop}
use Rattle.base_refusal.specs.Number.{outcome_number}
use Rattle.collector_state.specs.declared.Summary.{Summary}
use Rattle.std.specs.Prelude.{Option}
use Prim.Native.Nat.{ℕ, ◌-◌, ◌<◌}
use mathlib.Core.Path.{◌≡◌, sym, refl, ◌∙◌, ap}
use mathlib.Core.Bool.{Bool, true, false}
use native.Mathlib.Omega.{arith}
use Rattle.base_refusal.specs.declared.Refusal.TheVariants.{Full, NotAccepted}
use Rattle.collector_model.specs.declared.Answer.{Answer}
use Rattle.collector_model.specs.declared.Answer.TheVariants as answer
use Rattle.collector_model.specs.Answer.{shown_of, is_kept}
use Rattle.collector_model.specs.View.{Reception}
use Rattle.collector_model.specs.Step.{max_count, plus_if, tally}
use Rattle.collector_state.specs.declared.merging.Judged.{Judged}
use Rattle.collector_state.specs.declared.merging.Judged.TheVariants as judged
use Rattle.collector_state.specs.Collector.{Columns, columns_lent, view_in, entries_at}
use Rattle.collector_state.specs.Private.{judged_as, judged_heard, JudgedBy}
use Rattle.collector_state.proofs.Decided.{Decision, Decides}
use Rattle.collector_state.proofs.Admitting.{Fit, Looked, passed-valid, valid-fits, fit-says, not-accepted, all_full, is_taken}
use Rattle.collector_state.proofs.Admitting.{admits-nothing, admits-refused, decides, carried_out}
use Rattle.collector_state.proofs.Lent.admit.Goals as goal
use Rattle.collector_state.proofs.Lent.admit.Goals.{Start, Else-not-is_safe, Else-totals, After-expired-gone, After-classify}

-- what is decided
abbrev decided : Summary → Reception → ℕ → Answer → Option ℕ → Bool → Decision
decided s r gone answer heard kept = let left = s.count - gone in record {
  gone = gone;
  left = left;
  heard = heard;
  kept = kept;
  summary =
      record {
        count = plus_if kept left;
        latest = r.time;
        totals = tally (shown_of answer) s.totals;
      };
  answer = answer;
}

-- the columns before, and the reception
abbrev table : Start → Columns
table c = columns_lent c.args.self.now

abbrev reception : Start → Reception
reception c = record { bytes = c.args.received.now; time = c.args.time }

fit : (c : Else-not-is_safe) → Fit c.args.fit c.args.self.now.summary
fit c =
    fit-says c.args.fit (columns_lent c.args.self.now) c.args.self.now.summary
    (record { bytes = c.args.received.now; time = c.args.time }) (sym c.is_safe.ensures ∙ c.if-not-is_safe.false)

spare : (c : Else-totals) → c.args.self.now.summary.totals.received < max_count
spare c = omega (arith, c.if-totals.false)

-- what the tests before the search say
looked : (c : After-expired-gone)
    → Looked (columns_lent c.args.self.now) c.args.self.now.summary
    (record { bytes = c.args.received.now; time = c.args.time }) c.expired-gone.result
looked c = record {
  passed = sym c.check_reception.ensures ∙ ap outcome_number c.in_default.is;
  expired = c.expired-gone.ensures;
}

-- what is decided, by what the search found
made : (c : After-classify) (judged : Judged) → c.classify.result ≡ judged
    → (answer : Answer) → judged_as judged ≡ shown_of answer
    → (kept : Bool) → kept ≡ is_kept (shown_of answer)
    → Decides c.args.fit (columns_lent c.args.self.now) c.args.self.now.summary
    (record { bytes = c.args.received.now; time = c.args.time })
    (decided c.args.self.now.summary (record { bytes = c.args.received.now; time = c.args.time })
    c.expired-gone.result answer (judged_heard judged) kept)
made c judged found answer shown kept keeps =
    let a = columns_lent c.args.self.now in
    let r : Reception = record { bytes = c.args.received.now; time = c.args.time } in
    let f = fit-says c.args.fit a c.args.self.now.summary r (sym c.is_safe.ensures ∙ c.if-not-is_safe.false) in
    let by : JudgedBy (drop c.expired-gone.result (entries_at a c.args.self.now.summary.count)) r
    (judged_as c.classify.result) (judged_heard c.classify.result) =
    c.classify.ensures c.args.self.now.copies.now in
    let by = rw (found, shown) at by in
    let look : Looked a c.args.self.now.summary r c.expired-gone.result =
    record {
      passed = sym c.check_reception.ensures
          ∙ ap outcome_number c.in_default.is;
      expired = c.expired-gone.ensures;
    } in
    decides look answer by keeps refl refl f.few c.args.fit
    (is_taken c.args.fit a c.args.self.now.summary r f (omega (arith, c.if-totals.false)))

pub returns-then-not-is_safe-clause-admits : goal.returns-then-not-is_safe-clause-admits
returns-then-not-is_safe-clause-admits c =
    let s = (goal.at.returns-then-not-is_safe-clause-admits c).Start in
    admits-nothing c.args.fit (table s) c.args.self.now.summary (reception s) NotAccepted
    (not-accepted c.args.fit (table s) c.args.self.now.summary (reception s)
    (sym c.is_safe.ensures ∙ c.if-not-is_safe.true))

pub returns-then-totals-clause-admits : goal.returns-then-totals-clause-admits
returns-then-totals-clause-admits c =
    let at = goal.at.returns-then-totals-clause-admits c in
    let s = at.Start in
    admits-nothing c.args.fit (table s) c.args.self.now.summary (reception s) Full
    (all_full c.args.fit (table s) c.args.self.now.summary (reception s) (fit at.Else-not-is_safe)
    (omega (arith, c.if-totals.true)))

pub returns-in-Err-clause-admits : goal.returns-in-Err-clause-admits
returns-in-Err-clause-admits c =
    let at = goal.at.returns-in-Err-clause-admits c in
    let s = at.Start in
    rw c.only_counted-self.ensures
    (admits-refused c.args.fit (table s) c.args.self.now.summary (reception s) c.in-Err.why
    (sym (ap outcome_number c.in-Err.is) ∙ c.check_reception.ensures)
    (is_taken c.args.fit (table s) c.args.self.now.summary (reception s) (fit at.Else-not-is_safe)
    (spare at.Else-totals)))

pub only_counted-self-requires : goal.only_counted-self-requires
only_counted-self-requires c =
    let at = goal.at.only_counted-self-requires c in
    record { summed = (fit at.Else-not-is_safe).summed; room = spare at.Else-totals }

pub expired-gone-requires : goal.expired-gone-requires
expired-gone-requires c = (fit (goal.at.expired-gone-requires c).Else-not-is_safe).few

pub classify-requires : goal.classify-requires
classify-requires c =
    let at = goal.at.classify-requires c in
    let v =
    passed-valid (view_in (table at.Start) c.args.self.now.summary) (reception at.Start)
    (looked at.After-expired-gone).passed in (
      c.expired-gone.ensures.few,
      (fit at.Else-not-is_safe).few,
      (valid-fits _ v).0,
      (valid-fits _ v).1,
    )

pub change-requires : goal.change-requires
change-requires c =
    let d = made (goal.at.change-requires c).After-classify judged.Kept c.in-Kept.is answer.Kept refl true refl in
    (d.few, d.inside, d.room)

pub change-requires-in-Copy : goal.change-requires-in-Copy
change-requires-in-Copy c =
    let d =
    made (goal.at.change-requires-in-Copy c).After-classify
    (judged.Copy c.in-Copy.entry) c.in-Copy.is answer.Copy refl false refl in (d.few, d.inside, d.room)

pub change-requires-in-Loose : goal.change-requires-in-Loose
change-requires-in-Loose c =
    let d =
    made (goal.at.change-requires-in-Loose c).After-classify judged.Loose c.in-Loose.is answer.Loose refl false refl in
    (d.few, d.inside, d.room)

pub returns-in-Kept-clause-admits : goal.returns-in-Kept-clause-admits
returns-in-Kept-clause-admits c =
    rw (c.now_open-self.ensures, c.counted.ensures)
    (carried_out
    (made (goal.at.returns-in-Kept-clause-admits c).After-classify judged.Kept c.in-Kept.is answer.Kept refl true refl)
    c.change.ensures.changes)

pub returns-in-Copy-clause-admits : goal.returns-in-Copy-clause-admits
returns-in-Copy-clause-admits c =
    rw (c.now_open-self-in-Copy.ensures, c.counted-in-Copy.ensures)
    (carried_out
    (made (goal.at.returns-in-Copy-clause-admits c).After-classify
    (judged.Copy c.in-Copy.entry) c.in-Copy.is answer.Copy refl false refl)
    c.change-in-Copy.ensures.changes)

pub returns-in-Loose-clause-admits : goal.returns-in-Loose-clause-admits
returns-in-Loose-clause-admits c =
    rw (c.now_open-self-in-Loose.ensures, c.counted-in-Loose.ensures)
    (carried_out
    (made (goal.at.returns-in-Loose-clause-admits c).After-classify
    judged.Loose c.in-Loose.is answer.Loose refl false refl)
    c.change-in-Loose.ensures.changes)

pub overflow_add-left : goal.overflow_add-left
overflow_add-left c =
    let d = made (goal.at.overflow_add-left c).After-classify judged.Kept c.in-Kept.is answer.Kept refl true refl in
    omega (arith, (d.room refl).0)

pub counted-requires : goal.counted-requires
counted-requires c =
    let at = goal.at.counted-requires c in
    record { summed = (fit at.Else-not-is_safe).summed; room = spare at.Else-totals }

pub counted-requires-in-Copy : goal.counted-requires-in-Copy
counted-requires-in-Copy c =
    let at = goal.at.counted-requires-in-Copy c in
    record { summed = (fit at.Else-not-is_safe).summed; room = spare at.Else-totals }

pub counted-requires-in-Loose : goal.counted-requires-in-Loose
counted-requires-in-Loose c =
    let at = goal.at.counted-requires-in-Loose c in
    record { summed = (fit at.Else-not-is_safe).summed; room = spare at.Else-totals }
