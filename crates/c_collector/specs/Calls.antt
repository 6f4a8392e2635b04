-- What the calls answer, and what they write into lent memory.
use Rattle.std.specs.Prelude.{ℕ, ◌+◌, ◌*◌, ◌≡◌, Bool, false, cond, not, List, eqb, replicate}
use Rattle.base_refusal.specs.Number.{number_of}
use Rattle.base_refusal.specs.declared.Refusal.TheVariants.{NotAccepted}
use Rattle.radio_erp1.specs.Subtelegram.{max_length}
use Rattle.collector_model.specs.Answer.{Shown, Kept, Copy, Loose, Refused, shown_number, is_accepted, is_received}
use Rattle.collector_model.specs.View.{Reception, View, capacity, fresh}
use Rattle.collector_model.specs.Acceptable.{acceptable}
use Rattle.collector_model.specs.Step.{step}
use Rattle.collector_model.specs.Heard.{HeardResult, copies_of}
use Rattle.collector_state.specs.Collector.{columns_after}
use Rattle.collector_state.specs.Admission.{admission, columns_admitted}
use Rattle.c_collector.specs.State.{Arrays, arrays, columns_at, state_at, total_numbers, numbers_of}

-- "KEPT, COPY and LOOSE are three forms" of 0 (document 01, "Numbers a caller sees"): which of the three; 0 for a
-- refusal
abbrev pub kind_of : Shown → ℕ
kind_of Kept = 0
kind_of Copy = 1
kind_of Loose = 2
kind_of (Refused n) = 0

-- an answer as one number
abbrev pub answer_number : Shown → ℕ
answer_number a = 256 * kind_of a + shown_number a

-- one reception: the step of the reference model, and every number of the five arrays after it
pub record Takes (s : Arrays) (r : Reception) (answer : ℕ) (s' : Arrays) : Type 0 where
  pub answered : answer ≡ answer_number (step (state_at s) r).answer
  pub next : state_at s' ≡ (step (state_at s) r).next
  pub counted : s'.numbers ≡ numbers_of (step (state_at s) r).next
  pub elements : columns_at s' ≡ columns_after (state_at s) r (columns_at s)
  -- with 8 and 11, every number of the five arrays is unchanged
  pub stays : is_received (step (state_at s) r).answer ≡ false → s' ≡ s

-- one reception, where the caller says whether the state is acceptable: what the step does with any five arrays
pub record TakesTold (fit : Bool) (s : Arrays) (r : Reception) (answer : ℕ) (s' : Arrays) : Type 0 where
  pub answered : answer ≡ answer_number (admission fit (state_at s) r).answer
  pub next : state_at s' ≡ (admission fit (state_at s) r).next
  pub counted : s'.numbers ≡ numbers_of (admission fit (state_at s) r).next
  -- with every refusal, the four arrays of the entries are unchanged
  pub elements : columns_at s' ≡ columns_admitted fit (state_at s) r (columns_at s)
  -- with 8 and 11, every number of the five arrays is unchanged
  pub stays : is_received (admission fit (state_at s) r).answer ≡ false → s' ≡ s

-- THE CLAIM: if the caller is right, this is the step of the reference model. After a refusal the four arrays
-- are unchanged, whatever the caller said.
pub record ToldTakes : Type 0 where
  pub is_take : (fit : Bool) (s s' : Arrays) (r : Reception) (n : ℕ) → fit ≡ acceptable (state_at s) → TakesTold fit s r n s' → Takes s r n s'
  pub refused : (fit : Bool) (s s' : Arrays) (r : Reception) (n : ℕ) → TakesTold fit s r n s' → is_accepted (admission fit (state_at s) r).answer ≡ false
      → columns_at s' ≡ columns_at s

abbrev pub zeros : ℕ → List ℕ
zeros n = replicate n 0

-- a fresh collector: every number of the five arrays is zero
pub record Fresh (s : Arrays) : Type 0 where
  pub zero : s ≡ arrays (zeros capacity) (zeros capacity) (zeros (capacity * max_length)) (zeros capacity) (zeros 8)
  pub state : state_at s ≡ fresh

-- the number, and every lent total after the call
pub record TotalsCall : Type 0 where
  pub number : ℕ
  pub values : List ℕ

-- "Totals" (document 01, "Merging"); with 11 the lent memory is unchanged
unfoldable pub totals_call : View → List ℕ → TotalsCall
totals_call v old =
    cond (not (acceptable v)) (record { number = number_of NotAccepted; values = old })
    (record { number = 0; values = total_numbers v.totals })

-- "How often was it heard?" (document 02, A8): the number, and the lent number after the call, unchanged with 11 and 10
unfoldable pub copies_call : View → ℕ → ℕ → HeardResult
copies_call v k old =
    let a = copies_of v k in
    cond (eqb a.number 0) a (record { number = a.number; copies = old })
