-- One reception at any state, where the caller says whether the state is acceptable. In a run of receptions only the
-- first state is tested (document 01, "Merging").
use Rattle.std.specs.Prelude.{ℕ, ◌+◌, ◌<◌, ◌^◌, List, [], ◌++◌, ◌∷◌, length, ◌≡◌, Bool, false, not, ◌&&◌, cond, leb, ltb, eqb}
use Rattle.base_lists.specs.Lists.{any}
use Rattle.radio_erp1.specs.Subtelegram.{is_valid, check_of}
use Rattle.collector_model.specs.View.{Entry, View, Reception, is_open, capacity, capped, opened}
use Rattle.collector_state.specs.declared.Collector.{Collector}
use Rattle.collector_model.specs.Acceptable.{is_copy_of, is_summed, acceptable}
use Rattle.base_refusal.specs.Number.{number_of}
use Rattle.base_refusal.specs.declared.Refusal.TheVariants as refusal
use Rattle.radio_telegram.specs.Frame.{frame_of}
use Rattle.radio_telegram.specs.Repeater.{relay_of}
use Rattle.collector_model.specs.declared.Answer.{Answer}
use Rattle.collector_model.specs.Answer.{Shown, Kept, Copy, Loose, Refused, is_kept, is_accepted, is_received, shown_of}
use Rattle.collector_model.specs.Step.{StepOutcome, max_count, step, tally, credit, sent_for}
use Rattle.base_refusal.specs.declared.Refusal.{Refusal}
use Rattle.base_refusal.specs.declared.Refusal.TheVariants.{Full, NotAccepted}
use Rattle.collector_model.specs.Exact.{Fits}
use Rattle.collector_state.specs.declared.Summary.{Summary}
use Rattle.collector_state.specs.Collector.{Columns, view_in, columns_with, columns_after}

-- ---- one reception

-- "Only KEPT is ever repeated": what is sent for bytes that got this answer; the bytes are not checked again
unfoldable pub relayed_for : ℕ → Shown → List ℕ → List ℕ
relayed_for setting a bytes = cond (is_kept a) (relay_of setting bytes) []

-- the tests that come before the search in the open telegrams, in order: the check's number, then 7; 0 if both pass
unfoldable pub reception_check : ℕ → Reception → ℕ
reception_check latest r =
    cond (not (is_valid r.bytes)) (check_of r.bytes)
    (cond (ltb r.time latest) (number_of refusal.Late)
    0)

-- the answer, by that number, by whether the reception is a copy of an open telegram, and by whether 64 are open
unfoldable pub answer_for : ℕ → Bool → Bool → Shown
answer_for number known crowded = cond (eqb number 0) (cond known Copy (cond crowded Loose Kept)) (Refused number)

-- r is a copy of one of the entries
unfoldable pub has_copy : List Entry → Reception → Bool
has_copy l r = any (λ e. is_copy_of e r) l

-- ---- for columns and a summary

-- the state of columns and a summary
abbrev pub collector_of : Columns → Summary → Collector
collector_of a s = record { times = a.times; lens = a.lens; bytes = a.bytes; copies = a.copies; summary = s }

-- the summary after a reception, and the answer
pub record Admitted : Type 0 where
  pub summary : Summary
  pub answer : Answer

-- the answer and the next state
abbrev pub admitted_of : Columns → Admitted → StepOutcome
admitted_of a r = record { answer = shown_of r.answer; next = view_in a r.summary }

-- what a step needs of any state: not more entries than the arrays hold, and totals that add up
abbrev pub is_safe : View → Bool
is_safe v = leb (length v.entries) capacity && is_summed v.totals

-- the number that the tests before the search answer ("then the check (1, 2, 3) ..; then .. (7)")
abbrev pub number_on : View → Reception → ℕ
number_on v r = reception_check v.latest r

-- the latest time after the reception: its own time if it passed these tests
abbrev pub latest_after : View → Reception → ℕ
latest_after v r = cond (eqb (number_on v r) 0) r.time v.latest

-- the entries from the first open one on. In order of time, as in an acceptable state, these are all open ones.
abbrev pub open_from : ℕ → List Entry → List Entry
open_from t [] = []
open_from t (e ∷ l) = cond (is_open t e) (e ∷ l) (open_from t l)

-- the entries before the reception opens one: the open ones if it passed these tests, else all
abbrev pub left_after : View → Reception → List Entry
left_after v r = cond (eqb (number_on v r) 0) (open_from r.time v.entries) v.entries

-- "Then: same telegram open, COPY; else 64 telegrams open, LOOSE; else KEPT"
abbrev pub answer_on : View → Reception → Shown
answer_on v r = answer_for (number_on v r) (has_copy (left_after v r) r) (leb capacity (length (left_after v r)))

-- a Kept reception opens a telegram; a Copy is counted for the last entry that it is a copy of (document 02, A8)
abbrev pub entries_with : Shown → Reception → List Entry → List Entry
entries_with Kept r l = l ++ (opened r ∷ [])
entries_with Copy r l = credit (λ n. capped (n + 1)) (λ e. is_copy_of e r) l
entries_with Loose r l = l
entries_with (Refused n) r l = l

-- the reception is taken: it is answered and counted
unfoldable pub admitted : View → Reception → StepOutcome
admitted v r = record {
  answer = answer_on v r;
  next = record {
    latest = latest_after v r;
    totals = tally (answer_on v r) v.totals;
    entries = entries_with (answer_on v r) r (left_after v r);
  };
}

-- refused: the state is unchanged
abbrev pub not_admitted : Refusal → View → StepOutcome
not_admitted why v = record { answer = Refused (number_of why); next = v }

-- "11: .. state not accepted; the collector stays as it was"; "8: received is 2^64 - 1"; else the reception is taken. A
-- state is accepted here if the caller says that it is acceptable, and it is safe.
unfoldable pub admission : Bool → View → Reception → StepOutcome
admission fit v r =
    cond (not (fit && is_safe v)) (not_admitted NotAccepted v)
    (cond (leb max_count v.totals.received) (not_admitted Full v)
    (admitted v r))

-- the columns after it: KEPT, COPY and LOOSE leave only the open telegrams; with a refusal every element is unchanged
unfoldable pub columns_admitted : Bool → View → Reception → Columns → Columns
columns_admitted fit v r a =
    cond (is_accepted (admission fit v r).answer) (columns_with (answer_on v r) r (length v.entries) (left_after v r) a) a

-- what `admit` does with columns and a summary; the caller says whether the state is acceptable
pub record Admits (fit : Bool) (a : Columns) (s : Summary) (r : Reception) (a' : Columns) (d : Admitted) : Type 0 where
  pub outcome : admitted_of a' d ≡ admission fit (view_in a s) r
  -- every element
  pub elements : a' ≡ columns_admitted fit (view_in a s) r a
  -- with every refusal, every element is unchanged
  pub refused : is_accepted (shown_of d.answer) ≡ false → a' ≡ a
  -- with 8 and 11, the summary too
  pub stays : is_received (shown_of d.answer) ≡ false → (a' ≡ a) × (d.summary ≡ s)

-- `fit` says whether a state is acceptable, and its numbers have 64 bits. This holds for the first state of a run, and
-- for every next one.
pub record Tested (fit : Bool) (v : View) : Type 0 where
  pub said : fit ≡ acceptable v
  pub fits : Fits v

-- THE CLAIM for a run of receptions: if the caller is right, each is admitted as the model's step, and what the caller
-- said is true for the next state too
pub record ToldRightly : Type 0 where
  pub is_step : (fit : Bool) (v : View) (r : Reception) → fit ≡ acceptable v → admission fit v r ≡ step v r
  pub elements : (fit : Bool) (v : View) (r : Reception) (a : Columns) → fit ≡ acceptable v → columns_admitted fit v r a ≡ columns_after v r a
  pub goes_on : (fit : Bool) (v : View) (r : Reception) → Tested fit v → r.time < 2 ^ 64 → Tested fit (step v r).next

-- THE CLAIM for what is sent: for a reception that was admitted, `relay_kept` gives the telegram that the model sends
abbrev pub RelayedSent : Type 0
RelayedSent =
    (fit : Bool) (v : View) (r : Reception) (setting : ℕ)
    → frame_of (relayed_for setting (admission fit v r).answer r.bytes) ≡ sent_for setting (admission fit v r).answer r
