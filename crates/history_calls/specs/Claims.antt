-- The claims on the code's own states. They rest on the contracts of the calls: those on lent arrays, which are
-- shipped, and those by value.
use Rattle.std.specs.Prelude.{◌≡◌, List, [], ℕ}
use Rattle.collector_model.specs.View.{View}
use Rattle.collector_model.specs.History.{Call, IsHistory, Seen, expected, uncut, common}
use Rattle.collector_model.specs.Reference.{log_of, model_view}
use Rattle.collector_model.specs.Division.{receptions_of, past_of, replies_in}
use Rattle.collector_model.specs.Isolation.{Quiet, struck, Isolated}
use Rattle.collector_state.specs.declared.Collector.{Collector}
use Rattle.collector_state.specs.Collector.{view_of, IsFresh}
use Rattle.c_collector.specs.State.{Arrays, state_at, arrays_of}
use Rattle.c_collector.specs.Calls.{Fresh}
use Rattle.history_calls.specs.Elements.{arrays_after_all}
use Rattle.history_calls.specs.Arrays.{ArraysShow}
use Rattle.history_calls.specs.Values.{ValuesShow}

module _ {State : Type 0} (view : State → View) (IsStart : State → Type 0) (Show : State → List Call → List Seen → State → Type 0) where
  -- all that is seen in a history "equals the clerk's after the receptions up to there, and the uncut run's" (document
  -- 01)
  abbrev pub Agree : Type 0
  Agree =
      (h : List Call) → IsHistory h → (c d c' d' : State) → IsStart c → IsStart d
      → (l m : List Seen) → Show c h l c' → Show d (uncut h) m d' → (l ≡ expected [] h) × (common l ≡ m)

  -- the same receptions get the same replies, however they are divided into bursts and single calls (document 02, A1)
  abbrev pub Divide : Type 0
  Divide =
      (h h' : List Call) → IsHistory h → IsHistory h' → receptions_of h ≡ receptions_of h' → (c d c' d' : State) → IsStart c → IsStart d
      → (l m : List Seen) → Show c h l c' → Show d h' m d' → replies_in h l ≡ replies_in h' m

  -- the state after the calls is the reference model's: its latest time, totals and open telegrams with their copies
  abbrev pub Left : Type 0
  Left = (h : List Call) → IsHistory h → (c c' : State) → IsStart c → (l : List Seen) → Show c h l c' → view c' ≡ model_view (log_of (past_of h))

  -- X's receptions get the same answers, and X's open telegrams have the same copies, as if no other sensor had been
  -- received (document 02, A13)
  abbrev pub Isolate : Type 0
  Isolate =
      (x : List ℕ) (h : List Call) → IsHistory h → Quiet (past_of h) → (c d c' d' : State) → IsStart c → IsStart d
      → (l m : List Seen) → Show c h l c' → Show d (struck x h) m d' → Isolated view x h l m c' d'

-- ---- the calls on lent arrays, which are shipped

abbrev pub ArraysAgree : Type 0
ArraysAgree = Agree state_at Fresh ArraysShow

abbrev pub ArraysDivide : Type 0
ArraysDivide = Divide state_at Fresh ArraysShow

abbrev pub ArraysLeft : Type 0
ArraysLeft = Left state_at Fresh ArraysShow

abbrev pub ArraysIsolated : Type 0
ArraysIsolated = Isolate state_at Fresh ArraysShow

-- every element of the five arrays after any calls is known, for any arrays before
abbrev pub ArraysElements : Type 0
ArraysElements = (h : List Call) (s s' : Arrays) (l : List Seen) → ArraysShow s h l s' → s' ≡ arrays_after_all s h

-- ---- the calls by value

abbrev pub ValuesAgree : Type 0
ValuesAgree = Agree view_of IsFresh ValuesShow

abbrev pub ValuesDivide : Type 0
ValuesDivide = Divide view_of IsFresh ValuesShow

abbrev pub ValuesLeft : Type 0
ValuesLeft = Left view_of IsFresh ValuesShow

abbrev pub ValuesIsolated : Type 0
ValuesIsolated = Isolate view_of IsFresh ValuesShow

-- the calls by value leave what those on lent arrays leave
abbrev pub ValuesElements : Type 0
ValuesElements = (h : List Call) (c c' : Collector) (l : List Seen) → ValuesShow c h l c' → arrays_of c' ≡ arrays_after_all (arrays_of c) h
