-- The five arrays of a collector.
--     same_loans        the same arrays are lent
--     numbers-back      eight numbers, read and written again
--     numbers-counted   the numbers of what a state holds beside its columns are those of the state
--     told              one reception, admitted as was told
--     taken             told rightly, it is the step
--     totals-shown, totals-refused     the totals by the test of the state
--     copies-shown, copies-refused     the copies by what the reference model says of the entry
use Prim.Native.Nat.{ℕ}
use native.Mathlib.Omega.{arith}
use mathlib.Core.Path.{◌≡◌, refl, sym, ap, ◌∙◌}
use mathlib.Core.Bool.{Bool, true, false}
use mathlib.Core.List.{List, [], ◌∷◌}
use lib.ListN.{length}
use borrow.Author.Tests.{ne_eqb}
use Rattle.base_refusal.specs.Number.{number_of}
use Rattle.base_refusal.specs.declared.Refusal.TheVariants.{NotAccepted}
use Rattle.collector_model.specs.Answer.{shown_of, is_received}
use Rattle.collector_model.specs.View.{Reception, View}
use Rattle.collector_model.specs.Acceptable.{acceptable}
use Rattle.collector_model.specs.Step.{StepOutcome, step}
use Rattle.collector_model.specs.Heard.{HeardResult, copies_of}
use Rattle.collector_state.specs.declared.Summary.{Summary}
use Rattle.collector_state.specs.Collector.{Columns, view_in}
use Rattle.collector_state.specs.Admission.{Admitted, admitted_of, admission, columns_admitted, Admits}
use Rattle.collector_state.proofs.Arrays.{entries-length}
use Rattle.collector_state.proofs.Stepping.{admission-fit, columns-fit}
use Rattle.c_collector.specs.declared.Lent.{Lent}
use Rattle.c_collector.specs.State.{SameLoans, Arrays, arrays, columns_at, summary_in, state_at, total_numbers, numbers_of, summary_numbers}
use Rattle.c_collector.specs.Calls.{answer_number, Takes, TakesTold, ToldTakes, TotalsCall, totals_call, copies_call}

pub same_loans : (s : Lent) → SameLoans s s
same_loans s = record { times = refl; lengths = refl; bytes = refl; copies = refl; numbers = refl }

pub numbers-back : (l : List ℕ) → length l ≡ 8 → summary_numbers (summary_in l) ≡ l
numbers-back [] e = absurd (omega arith)
numbers-back (a ∷ []) e = absurd (omega arith)
numbers-back (a ∷ b ∷ []) e = absurd (omega arith)
numbers-back (a ∷ b ∷ c ∷ []) e = absurd (omega arith)
numbers-back (a ∷ b ∷ c ∷ d ∷ []) e = absurd (omega arith)
numbers-back (a ∷ b ∷ c ∷ d ∷ f ∷ []) e = absurd (omega arith)
numbers-back (a ∷ b ∷ c ∷ d ∷ f ∷ g ∷ []) e = absurd (omega arith)
numbers-back (a ∷ b ∷ c ∷ d ∷ f ∷ g ∷ h ∷ []) e = absurd (omega arith)
numbers-back (a ∷ b ∷ c ∷ d ∷ f ∷ g ∷ h ∷ i ∷ []) e = refl
numbers-back (a ∷ b ∷ c ∷ d ∷ f ∷ g ∷ h ∷ i ∷ j ∷ l) e = absurd (omega arith)

pub numbers-counted : (a : Columns) (s : Summary) → summary_numbers s ≡ numbers_of (view_in a s)
numbers-counted a s = ap (λ (n : ℕ). n ∷ s.latest ∷ total_numbers s.totals) (sym (entries-length a s.count))

module _ (s : Arrays) (r : Reception) (fit : Bool) (old : Summary) (a : Columns) (d : Admitted) where
  pub told : length s.numbers ≡ 8 → old ≡ summary_in s.numbers → Admits fit (columns_at s) old r a d
      → (answer : ℕ) → answer ≡ answer_number (shown_of d.answer)
      → (numbers : List ℕ) → numbers ≡ summary_numbers d.summary
      → TakesTold fit s r answer (arrays a.times a.lens a.bytes a.copies numbers)
  told eight read admits answer shown numbers stored = record {
    answered = shown ∙ ap (λ (o : StepOutcome). answer_number o.answer) done;
    next = ap (λ (l : List ℕ). view_in a (summary_in l)) stored ∙ next;
    counted = stored ∙ numbers-counted a d.summary ∙ ap numbers_of next;
    elements =
        admits.elements ∙ ap (λ (x : Summary). columns_admitted fit (view_in (columns_at s) x) r (columns_at s)) read;
    stays = λ e.
        let k = admits.stays (rw (← done) at e) in
        let same = stored ∙ ap summary_numbers (k.1 ∙ read) ∙ numbers-back s.numbers eight in
        λ i. arrays (k.0 i).times (k.0 i).lens (k.0 i).bytes (k.0 i).copies (same i);
  }
    where
      done : admitted_of a d ≡ admission fit (state_at s) r
      done = admits.outcome ∙ ap (λ (x : Summary). admission fit (view_in (columns_at s) x) r) read

      next : view_in a d.summary ≡ (admission fit (state_at s) r).next
      next = ap (λ (o : StepOutcome). o.next) done

-- told rightly, it is the step
pub taken : (fit : Bool) (s s' : Arrays) (r : Reception) (n : ℕ)
    → fit ≡ acceptable (state_at s) → TakesTold fit s r n s' → Takes s r n s'
taken fit s s' r n tested k =
    let step_is : admission fit (state_at s) r ≡ step (state_at s) r = admission-fit _ _ _ tested in
    record {
      answered = k.answered ∙ ap (λ (o : StepOutcome). answer_number o.answer) step_is;
      next = k.next ∙ ap (λ (o : StepOutcome). o.next) step_is;
      counted = k.counted ∙ ap (λ (o : StepOutcome). numbers_of o.next) step_is;
      elements = k.elements ∙ columns-fit _ _ _ _ tested;
      stays = λ e. k.stays (ap (λ (o : StepOutcome). is_received o.answer) step_is ∙ e);
    }

pub told_takes : ToldTakes
unfolding columns_admitted
told_takes = record { is_take = taken; refused = λ fit s s' r n k e. k.elements ∙ rw e }

module _ (v : View) (old : List ℕ) where
  pub totals-refused : acceptable v ≡ false
      → ◌≡◌ {A = TotalsCall} (record { number = number_of NotAccepted; values = old }) (totals_call v old)
  unfolding totals_call
  totals-refused bad = rw bad

  pub totals-shown : acceptable v ≡ true
      → ◌≡◌ {A = TotalsCall} (record { number = 0; values = total_numbers v.totals }) (totals_call v old)
  unfolding totals_call
  totals-shown ok = rw ok

module _ (v : View) (k old : ℕ) where
  pub copies-refused : (n : ℕ) → (n ≡ 0 → ⊥) → ◌≡◌ {A = HeardResult} (record { number = n; copies = 0 }) (copies_of v k)
      → ◌≡◌ {A = HeardResult} (record { number = n; copies = old }) (copies_call v k old)
  unfolding copies_call
  copies-refused n other e = rw (← e, ne_eqb n 0 other)

  pub copies-shown : (n : ℕ) → ◌≡◌ {A = HeardResult} (record { number = 0; copies = n }) (copies_of v k)
      → ◌≡◌ {A = HeardResult} (record { number = 0; copies = n }) (copies_call v k old)
  unfolding copies_call
  copies-shown n e = rw (← e)
