-- A history and X's receptions alone, in the states of an implementation: the replies and the entries are the reference model's, in which X is
-- isolated.
use Prim.Native.Nat.{ℕ}
use mathlib.Core.Path.{◌≡◌, refl, sym, ◌∙◌, ap, ap₂}
use mathlib.Core.Bool.{Bool, true, false, cond, false≢true}
use mathlib.Core.List.{List, [], ◌∷◌, ◌++◌, map}
use Rattle.base_lists.specs.Lists.{keep}
use Rattle.collector_model.specs.Answer.{Shown}
use Rattle.collector_model.specs.View.{Reception, View, fresh}
use Rattle.collector_model.specs.Burst.{Replied}
use Rattle.collector_model.specs.Reference.{answer_to, sent_with, log_of, past_after, model_view}
use Rattle.collector_model.specs.History.{Call, Receive, Checkpoint, Restore, Cut, Burst, Ask, Look, Timely, IsHistory, Seen, burst_taken}
use Rattle.collector_model.specs.Division.{Given, given_at, receptions_of, past_of, replies_in}
use Rattle.collector_model.specs.States.{Shows}
use Rattle.collector_model.specs.Isolation.{is_of, is_entry_of, Quiet, struck, replies_of, is_newest, StatesIsolated}
use Rattle.collector_model.proofs.Theorem.{taken-timely, fresh-run}
use Rattle.collector_model.proofs.Division.{replies_at, expected-replies}
use Rattle.collector_model.proofs.States.{fresh-shows, states-left}
use Rattle.collector_model.proofs.Isolation.{quiet_tail, answer_isolated, entries_isolated}

abbrev pub bare : List Given → List Reception
bare gs = map (λ g. g.reception) gs

-- ---- receptions handed over one by one

abbrev pub one_by_one : List Given → List Call
one_by_one gs = map (λ g. Receive g.setting g.reception) gs

pub receptions-one_by_one : (gs : List Given) → receptions_of (one_by_one gs) ≡ gs
receptions-one_by_one [] = refl
receptions-one_by_one (g ∷ gs) = ap (λ (l : List Given). g ∷ l) (receptions-one_by_one gs)

abbrev pub AllTimely : List Given → Type 0
AllTimely gs = Timely (bare gs)

burst_timely : (setting : ℕ) (rs : List Reception) (gs : List Given)
    → Timely rs → AllTimely gs → AllTimely (map (given_at setting) rs ++ gs)
burst_timely setting [] gs t u = u
burst_timely setting (r ∷ rs) gs t u = (t.0, burst_timely setting rs gs t.1 u)

pub history_timely : (h : List Call) → IsHistory h → AllTimely (receptions_of h)
history_timely [] ok = tt
history_timely (Receive setting r ∷ h) ok = (ok.0, history_timely h ok.1)
history_timely (Checkpoint output ∷ h) ok = history_timely h ok
history_timely (Restore image ∷ h) ok = history_timely h ok.1
history_timely (Cut output ∷ h) ok = history_timely h ok.1
history_timely (Burst setting rs places ∷ h) ok =
    burst_timely setting (burst_taken setting rs places) (receptions_of h)
    (taken-timely setting rs places ok.0) (history_timely h ok.1)
history_timely (Ask k ∷ h) ok = history_timely h ok
history_timely (Look ∷ h) ok = history_timely h ok

module _ (x : List ℕ) where
  abbrev mine : Given → Bool
  mine g = is_of x g.reception

  kept_history : (gs : List Given) → AllTimely gs → IsHistory (one_by_one (keep mine gs))
  kept_history [] t = tt
  kept_history (g ∷ gs) t = go (mine g) (kept_history gs t.1)
    where
      go : (b : Bool) → IsHistory (one_by_one (keep mine gs))
          → IsHistory (one_by_one (cond b (g ∷ keep mine gs) (keep mine gs)))
      go true ok = (t.0, ok)
      go false ok = ok

  struck_history : (h : List Call) → IsHistory h → IsHistory (struck x h)
  struck_history h ok = kept_history (receptions_of h) (history_timely h ok)

  past-kept : (past : List Reception) (gs : List Given)
      → past_after (keep (is_of x) past) (bare (keep mine gs)) ≡ keep (is_of x) (past_after past (bare gs))
  past-kept past [] = refl
  past-kept past (g ∷ gs) = go (mine g) refl (past-kept (g.reception ∷ past) gs)
    where
      go : (b : Bool) → mine g ≡ b
          → past_after (keep (is_of x) (g.reception ∷ past)) (bare (keep mine gs))
          ≡ keep (is_of x) (past_after (g.reception ∷ past) (bare gs))
          → past_after (keep (is_of x) past) (bare (cond b (g ∷ keep mine gs) (keep mine gs)))
          ≡ keep (is_of x) (past_after (g.reception ∷ past) (bare gs))
      go true e ih = rw e at ih
      go false e ih = rw e at ih

  struck-past : (h : List Call) → past_of (struck x h) ≡ keep (is_of x) (past_of h)
  struck-past h =
      ap (λ (gs : List Given). past_after [] (bare gs)) (receptions-one_by_one (keep mine (receptions_of h)))
      ∙ past-kept [] (receptions_of h)

  -- ---- replies

  quiet_before : (past rs : List Reception) → Quiet (past_after past rs) → Quiet past
  quiet_before past [] q = q
  quiet_before past (r ∷ rs) q = quiet_tail r past (quiet_before (r ∷ past) rs q)

  replies_isolated : (past : List Reception) (gs : List Given) → Quiet (past_after past (bare gs))
      → replies_of x gs (replies_at past gs) ≡ replies_at (keep (is_of x) past) (keep mine gs)
  replies_isolated past [] q = refl
  replies_isolated past (g ∷ gs) q =
      go (mine g) refl (quiet_before (g.reception ∷ past) (bare gs) q) (replies_isolated (g.reception ∷ past) gs q)
    where
      reply : Shown → Replied
      reply a = record { answer = a; sent = sent_with g.setting a g.reception }

      go : (b : Bool) → mine g ≡ b → Quiet (g.reception ∷ past)
          → replies_of x gs (replies_at (g.reception ∷ past) gs)
          ≡ replies_at (keep (is_of x) (g.reception ∷ past)) (keep mine gs)
          → cond b (reply (answer_to (log_of past) g.reception) ∷ replies_of x gs (replies_at (g.reception ∷ past) gs))
          (replies_of x gs (replies_at (g.reception ∷ past) gs))
          ≡ replies_at (keep (is_of x) past) (cond b (g ∷ keep mine gs) (keep mine gs))
      go true e q ih =
          ap₂ (λ (a : Shown) (l : List Replied). reply a ∷ l) (answer_isolated x g.reception past q e) (rw e at ih)
      go false e q ih = rw e at ih

  -- ---- entries

  newest_isolated : (past : List Reception) → Quiet past → is_newest x past ≡ true
      → keep (is_entry_of x) (model_view (log_of past)).entries ≡ (model_view (log_of (keep (is_of x) past))).entries
  newest_isolated [] q e = absurd (false≢true e)
  newest_isolated (r ∷ past) q e = entries_isolated x r past q e

-- ---- states

module _ {State : Type 0} (view : State → View) where
  -- the replies that states show that started fresh
  replies-shown : {c : State} {h : List Call} {l : List Seen} → view c ≡ fresh → IsHistory h → Shows view c h l
      → replies_in h l ≡ replies_at [] (receptions_of h)
  replies-shown {h = h} from ok t = ap (replies_in h) (fresh-shows view from t ∙ fresh-run h ok) ∙ expected-replies [] h

  pub states_isolated : StatesIsolated view
  states_isolated x h ok q c d from-c from-d l m t u =
      let alone = struck_history x h ok in
      record {
        replies =
            ap (replies_of x (receptions_of h)) (replies-shown from-c ok t) ∙ replies_isolated x [] (receptions_of h) q
            ∙ ap (replies_at []) (sym (receptions-one_by_one (keep (mine x) (receptions_of h))))
            ∙ sym (replies-shown from-d alone u);
        entries = λ newest.
            ap (λ (v : View). keep (is_entry_of x) v.entries) (states-left view h ok c from-c l t)
            ∙ newest_isolated x (past_of h) q newest
            ∙ ap (λ (p : List Reception). (model_view (log_of p)).entries) (sym (struck-past x h))
            ∙ sym (ap (λ (v : View). v.entries) (states-left view (struck x h) alone d from-d m u));
      }
