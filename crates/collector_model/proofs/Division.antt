-- The same receptions are answered alike in any two histories: the replies in what the reference model says of a history are its replies to the
-- receptions alone.
use Prim.Native.Nat.{ℕ, suc}
use mathlib.Core.Path.{◌≡◌, refl, sym, ◌∙◌, ap, ap₂}
use mathlib.Core.List.{List, [], ◌∷◌, ◌++◌, map, append-nil}
use lib.ListN.{length, take, drop, length-map}
use lib.Seq.{take_at}
use Rattle.collector_model.specs.View.{Reception}
use Rattle.collector_model.specs.Burst.{Replied}
use Rattle.collector_model.specs.Reference.{answer_to, sent_with, log_of, past_after, replies_by}
use Rattle.collector_model.specs.History.{Call, Receive, Checkpoint, Restore, Cut, Burst, Ask, Look, burst_taken, expected}
use Rattle.collector_model.specs.Division.{Given, given_at, receptions_of, replies_in, AnyDivision}
use Rattle.collector_model.proofs.Theorem.{fresh-run}

-- its replies to receptions, each at the setting that it was handed over with
abbrev pub replies_at : List Reception → List Given → List Replied
replies_at past [] = []
replies_at past (g ∷ gs) =
    let a = answer_to (log_of past) g.reception in
    record { answer = a; sent = sent_with g.setting a g.reception } ∷ replies_at (g.reception ∷ past) gs

replies-long : (setting : ℕ) (past rs : List Reception) → length (replies_by setting past rs) ≡ length rs
replies-long setting past [] = refl
replies-long setting past (r ∷ rs) = ap suc (replies-long setting (r ∷ past) rs)

-- those of a burst share its setting
replies-joined : (setting : ℕ) (past rs : List Reception) (more : List Given)
    → replies_at past (map (given_at setting) rs ++ more)
    ≡ replies_by setting past rs ++ replies_at (past_after past rs) more
replies-joined setting past [] more = refl
replies-joined setting past (r ∷ rs) more = ap₂ ◌∷◌ refl (replies-joined setting (r ∷ past) rs more)

-- the replies in what is expected are the reference model's to the receptions alone
pub expected-replies : (past : List Reception) (h : List Call)
    → replies_in h (expected past h) ≡ replies_at past (receptions_of h)
expected-replies past [] = refl
expected-replies past (Receive setting r ∷ h) = ap₂ ◌∷◌ refl (expected-replies (r ∷ past) h)
expected-replies past (Checkpoint output ∷ h) = expected-replies past h
expected-replies past (Restore image ∷ h) = expected-replies past h
expected-replies past (Cut output ∷ h) = expected-replies past h
expected-replies past (Burst setting rs places ∷ h) =
    let t = burst_taken setting rs places in
    let mine = replies_by setting past t in
    let n = length (map (given_at setting) t) in
    let shown : take n (mine ++ drop (length t) places) ++ [] ≡ mine =
    append-nil (take n (mine ++ drop (length t) places))
    ∙ take_at mine (drop (length t) places) n (replies-long setting past t ∙ sym (length-map t (given_at setting)))
    in
    ap (λ (l : List Replied). l ++ replies_in h (expected (past_after past t) h)) shown
    ∙ ap (λ (l : List Replied). mine ++ l) (expected-replies (past_after past t) h)
    ∙ sym (replies-joined setting past t (receptions_of h))
expected-replies past (Ask k ∷ h) = expected-replies past h
expected-replies past (Look ∷ h) = expected-replies past h

pub any_division : AnyDivision
any_division h h' ok ok' e =
    ap (replies_in h) (fresh-run h ok) ∙ expected-replies [] h ∙ ap (replies_at []) e
    ∙ sym (expected-replies [] h') ∙ sym (ap (replies_in h') (fresh-run h' ok'))
