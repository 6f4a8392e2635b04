-- One noisy sensor does not touch another's rows (document 02, A13). Receptions and log are newest first, as in
-- specs/Reference.
use Rattle.std.specs.Prelude.{ℕ, ◌<◌, ◌^◌, ◌≡◌, Bool, true, false, cond, not, ◌&&◌, List, [], ◌∷◌, map, leb, length}
use Rattle.base_lists.specs.Lists.{keep, all, pairwise, equal}
use Rattle.radio_erp1.specs.Subtelegram.{is_valid}
use Rattle.radio_telegram.specs.Fields.{fields_of}
use Rattle.collector_model.specs.Answer.{is_loose}
use Rattle.collector_model.specs.View.{Reception, Entry, View, opened_by, fresh}
use Rattle.collector_model.specs.Burst.{Replied}
use Rattle.collector_model.specs.Reference.{log_of, model_view}
use Rattle.collector_model.specs.History.{Call, Receive, IsHistory, Seen}
use Rattle.collector_model.specs.Division.{Given, receptions_of, past_of, replies_in}
use Rattle.collector_model.specs.States.{Shows, left_by}

-- "a valid one of transmitter X"
abbrev pub is_of : List ℕ → Reception → Bool
is_of x r = is_valid r.bytes && equal (fields_of r.bytes).txid x

-- an open telegram of X
abbrev pub is_entry_of : List ℕ → Entry → Bool
is_entry_of x e = is_of x (opened_by e)

-- "with fewer than 2^64 receptions, in which times never go back and no answer is LOOSE"
pub record Quiet (past : List Reception) : Type 0 where
  pub few : length past < 2 ^ 64
  pub order : pairwise (λ r earlier. leb earlier.time r.time) past ≡ true
  pub room : all (λ e. not (is_loose e.answer)) (log_of past) ≡ true

-- ---- in the reference model

-- "striking out every reception that isn't a valid one of transmitter X leaves X's answers the same"
abbrev pub AnswersIsolated : Type 0
AnswersIsolated =
    (x : List ℕ) (past : List Reception) → Quiet past
    → keep (λ e. is_of x e.reception) (log_of past) ≡ log_of (keep (is_of x) past)

-- "and so the copies of each open telegram of X, asked directly after a valid reception of X": each open telegram with
-- the reception that opened it and its number of copies
abbrev pub EntriesIsolated : Type 0
EntriesIsolated =
    (x : List ℕ) (r : Reception) (past : List Reception) → Quiet (r ∷ past) → is_of x r ≡ true
    → keep (is_entry_of x) (model_view (log_of (r ∷ past))).entries ≡ (model_view (log_of (keep (is_of x) (r ∷ past)))).entries

-- ---- in the states of an implementation

-- the valid receptions of X in a history, each with its own time and setting, one by one
abbrev pub struck : List ℕ → List Call → List Call
struck x h = map (λ g. Receive g.setting g.reception) (keep (λ g. is_of x g.reception) (receptions_of h))

-- the replies to the valid receptions of X, of all replies
abbrev pub replies_of : List ℕ → List Given → List Replied → List Replied
replies_of x [] replies = []
replies_of x (g ∷ gs) [] = []
replies_of x (g ∷ gs) (p ∷ replies) = cond (is_of x g.reception) (p ∷ replies_of x gs replies) (replies_of x gs replies)

-- the newest reception is a valid one of X
abbrev pub is_newest : List ℕ → List Reception → Bool
is_newest x [] = false
is_newest x (r ∷ past) = is_of x r

module _ {State : Type 0} (view : State → View) where
  -- two states that started fresh, one after a history and one after X's receptions alone, show the same answers to X,
  -- with the same telegrams to send. Directly after a reception of X, they have the same open telegrams of X with the
  -- same numbers of copies.
  pub record Isolated (x : List ℕ) (h : List Call) (l m : List Seen) (left alone : State) : Type 0 where
    pub replies : replies_of x (receptions_of h) (replies_in h l) ≡ replies_in (struck x h) m
    pub entries : is_newest x (past_of h) ≡ true → keep (is_entry_of x) (view left).entries ≡ (view alone).entries

  -- States isolated: this holds for every history that fulfils the premises.
  abbrev pub StatesIsolated : Type 0
  StatesIsolated =
      (x : List ℕ) (h : List Call) → IsHistory h → Quiet (past_of h)
      → (c d : State) → view c ≡ fresh → view d ≡ fresh
      → (l m : List Seen) (t : Shows view c h l) (u : Shows view d (struck x h) m)
      → Isolated x h l m (left_by view t) (left_by view u)
