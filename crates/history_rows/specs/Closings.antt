-- What closes: a telegram that was open at the latest time, and is not open at the time of the next accepted reception,
-- is closed by that reception. Its number of copies is then final.
use Rattle.std.specs.Prelude.{ℕ, ◌≡◌, cond, not, List, [], ◌∷◌, ◌++◌, map, length}
use Rattle.base_lists.specs.Lists.{keep, up_from}
use Rattle.collector_model.specs.Answer.{Shown, is_kept, is_accepted}
use Rattle.collector_model.specs.View.{Reception, Entry, View, opened_by, capped, is_open, fresh}
use Rattle.collector_model.specs.Step.{step}
use Rattle.collector_model.specs.Burst.{after_all}
use Rattle.collector_model.specs.Heard.{copies_in}
use Rattle.collector_model.specs.Reference.{Logged, kept_of, open_at, latest_of, answer_to, log_of, past_after}
use Rattle.collector_model.specs.History.{Call, Timely, IsHistory, Seen, burst_taken}
use Rattle.collector_model.specs.Division.{past_of}
use Rattle.collector_model.specs.Copies.{copy_answers}
use Rattle.collector_model.specs.States.{Shows, ended, received, saved, restored, resumed, delivered, asked, looked, left_by}

-- of these telegrams, those that are no longer open at t
abbrev pub closed_at : ℕ → List Entry → List Entry
closed_at t l = keep (λ e. not (is_open t e)) l

-- ---- in the reference model

-- what closes when a reception gets its answer: a KEPT, COPY or LOOSE reception closes what is open at the latest time
-- before it and not at its own time, in opening order, each with its bytes, time and copies
abbrev pub closed_by : List Logged → Reception → Shown → List Entry
closed_by log r a = cond (is_accepted a) (closed_at r.time (open_at (latest_of log) log)) []

-- what closed so far, in order
abbrev pub closings : List Reception → List Entry
closings [] = []
closings (r ∷ past) = closings past ++ closed_by (log_of past) r (answer_to (log_of past) r)

-- the receptions answered KEPT, in the order handed over
abbrev pub kept_receptions : List Logged → List Reception
kept_receptions [] = []
kept_receptions (e ∷ log) = kept_receptions log ++ cond (is_kept e.answer) (e.reception ∷ []) []

-- THE CLAIM, in the reference model: what closed, and then what is still open, is every telegram that was ever opened,
-- in order, each once, with its final number of copies. `NumbersAreAnswers` of collector_model is the claim on these
-- numbers.
abbrev pub ClosedOnce : Type 0
ClosedOnce =
    (past : List Reception)
    → closings past ++ open_at (latest_of (log_of past)) (log_of past) ≡ kept_of (log_of past)

-- ---- in views

-- the same for a view, whose entries are the telegrams open at its latest time
abbrev pub closed_from : View → Reception → Shown → List Entry
closed_from v r a = cond (is_accepted a) (closed_at r.time v.entries) []

-- what closes when receptions are handed over, one by one
abbrev pub closings_from : View → List Reception → List Entry
closings_from v [] = []
closings_from v (r ∷ rs) = closed_from v r (step v r).answer ++ closings_from (step v r).next rs

-- these telegrams are the receptions answered KEPT, in order, each once. Each has the number of COPY answers for its
-- opening, up to the ceiling.
pub record EachOnce (telegrams : List Entry) (past : List Reception) : Type 0 where
  pub receptions : map opened_by telegrams ≡ kept_receptions (log_of past)
  pub copies : copies_in telegrams ≡ map (λ n. capped (copy_answers n (log_of past))) (up_from 0 (length telegrams))

-- Views closed once: from a fresh collector, what closed and then what is open are these telegrams.
abbrev pub ViewsClosedOnce : Type 0
ViewsClosedOnce =
    (rs : List Reception) → Timely rs
    → EachOnce (closings_from fresh rs ++ (after_all fresh rs).entries) (past_after [] rs)

-- ---- in the states of an implementation

module _ {State : Type 0} (view : State → View) where
  -- what closes in a list of calls; a checkpoint, a restore and a cut close nothing
  abbrev pub closings_of : {c : State} {h : List Call} {l : List Seen} → Shows view c h l → List Entry
  closings_of ended = []
  closings_of (received {c = c} {r = r} {a = a} e s t) = closed_from (view c) r a ++ closings_of t
  closings_of (saved e t) = closings_of t
  closings_of (restored e t) = closings_of t
  closings_of (resumed e d f t) = closings_of t
  closings_of (delivered {c = c} {setting = setting} {rs = rs} {places = places} e t) =
      closings_from (view c) (burst_taken setting rs places) ++ closings_of t
  closings_of (asked e t) = closings_of t
  closings_of (looked t) = closings_of t

  -- THE CLAIM: this holds in every history, with any cuts
  abbrev pub StatesClosedOnce : Type 0
  StatesClosedOnce =
      (h : List Call) → IsHistory h → (c : State) → view c ≡ fresh → (l : List Seen) (t : Shows view c h l)
      → EachOnce (closings_of t ++ (view (left_by view t)).entries) (past_of h)
