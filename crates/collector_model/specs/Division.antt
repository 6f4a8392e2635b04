-- "Demand 3 then reads over bursts cut at any record" (document 02, A1): the same receptions in the same order, with
-- the same settings, get the same answers. It does not matter how they are divided into calls, and which other calls
-- are made between these.
use Rattle.std.specs.Prelude.{ℕ, ◌≡◌, List, [], ◌∷◌, ◌++◌, map, length, take, drop}
use Rattle.collector_model.specs.View.{Reception, fresh}
use Rattle.collector_model.specs.Burst.{Replied}
use Rattle.collector_model.specs.Reference.{past_after}
use Rattle.collector_model.specs.History.{Call, Receive, Checkpoint, Restore, Cut, Burst, Ask, Look, IsHistory, Seen, Answered, Wrote, Restored, Delivered, Heard, Looked, run, burst_taken}

-- a reception, and the setting of its call
pub record Given : Type 0 where
  pub setting : ℕ
  pub reception : Reception

abbrev pub given_at : ℕ → Reception → Given
given_at setting r = record { setting = setting; reception = r }

-- the receptions that a call counts for; and those of a list of calls, in order
abbrev pub stands_for : Call → List Given
stands_for (Receive setting r) = given_at setting r ∷ []
stands_for (Checkpoint output) = []
stands_for (Restore image) = []
stands_for (Cut output) = []
stands_for (Burst setting rs places) = map (given_at setting) (burst_taken setting rs places)
stands_for (Ask k) = []
stands_for Look = []

-- the receptions of a list of calls, each with its setting
abbrev pub receptions_of : List Call → List Given
receptions_of [] = []
receptions_of (c ∷ h) = stands_for c ++ receptions_of h

-- these receptions without settings, newest first, as the reference model keeps them
abbrev pub past_of : List Call → List Reception
past_of h = past_after [] (map (λ g. g.reception) (receptions_of h))

-- how many things are seen for a call
abbrev pub seens : Call → ℕ
seens (Receive setting r) = 1
seens (Checkpoint output) = 1
seens (Restore image) = 1
seens (Cut output) = 2
seens (Burst setting rs places) = 1
seens (Ask k) = 1
seens Look = 1

-- the replies in what is seen for a call that counts for k receptions; a burst also shows the entries after these
abbrev pub replies_from : ℕ → List Seen → List Replied
replies_from k [] = []
replies_from k (Answered a sent n ∷ l) = record { answer = a; sent = sent } ∷ replies_from k l
replies_from k (Wrote number output n ∷ l) = replies_from k l
replies_from k (Restored number n ∷ l) = replies_from k l
replies_from k (Delivered number replies n ∷ l) = take k replies ++ replies_from k l
replies_from k (Heard number copies n ∷ l) = replies_from k l
replies_from k (Looked n ∷ l) = replies_from k l

-- the replies in what is seen for a list of calls
abbrev pub replies_in : List Call → List Seen → List Replied
replies_in [] l = []
replies_in (c ∷ h) l = replies_from (length (stands_for c)) (take (seens c) l) ++ replies_in h (drop (seens c) l)

-- in any two histories of the same receptions, a collector started fresh gives the same replies
abbrev pub AnyDivision : Type 0
AnyDivision =
    (h h' : List Call) → IsHistory h → IsHistory h' → receptions_of h ≡ receptions_of h'
    → replies_in h (run fresh h) ≡ replies_in h' (run fresh h')
