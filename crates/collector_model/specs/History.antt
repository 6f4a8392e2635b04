-- Histories (document 01, "One history, and the clerk who writes it down"). For a whole list of calls, the collector
-- shows what the reference model says, and what the uncut run shows.
use Rattle.std.specs.Prelude.{ℕ, ◌≤◌, ◌<◌, ◌^◌, ◌≡◌, false, cond, ◌&&◌, List, [], ◌∷◌, ◌++◌, leb, length, take, drop}
use Rattle.base_refusal.specs.Number.{number_of}
use Rattle.base_refusal.specs.declared.Refusal.TheVariants.{NotAccepted}
use Rattle.radio_telegram.specs.declared.frame.Frame.{Frame}
use Rattle.radio_telegram.specs.Repeater.{max_setting}
use Rattle.collector_model.specs.declared.Totals.{Totals}
use Rattle.collector_model.specs.Answer.{Shown}
use Rattle.collector_model.specs.View.{Reception, View, fresh}
use Rattle.collector_model.specs.Step.{step, sent_for}
use Rattle.collector_model.specs.Image.{image_length, accepts, checkpoint_of, restore_of}
use Rattle.collector_model.specs.Burst.{Replied, max_burst, call_number, burst_of}
use Rattle.collector_model.specs.Heard.{copies_of}
use Rattle.collector_model.specs.Reference.{totals_of, answer_to, sent_with, log_of, saved_by, heard_by, past_after, replies_by}

-- "A history is a list of calls: receptions taken, parkings into any room, and reloads."
pub data Call : Type 0 where
  -- a reception that is taken, and the caller's setting for what is sent; only KEPT is ever repeated (document 02, A7)
  Receive : ℕ → Reception → Call
  -- a checkpoint into an output that holds these bytes
  Checkpoint : List ℕ → Call
  -- the restore of an image
  Restore : List ℕ → Call
  -- "A cut": a checkpoint into such an output, and the restore of the 2,560 bytes that it wrote into another collector,
  -- which was started fresh
  Cut : List ℕ → Call
  -- a burst of these receptions with the caller's setting, and a list for the replies that holds these (document 02,
  -- A1)
  Burst : ℕ → List Reception → List Replied → Call
  -- the copies of the open telegram with this index are asked for (document 02, A8)
  Ask : ℕ → Call
  -- no call is made, and the totals are read
  Look : Call

-- the receptions' times are 64-bit numbers
abbrev pub Timely : List Reception → Type 0
Timely [] = Unit {0}
Timely (r ∷ rs) = (r.time < 2 ^ 64) × Timely rs

-- the time of a reception is a 64-bit number (its bytes may be any), the output of a cut is long enough, "every other
-- reload in it is a refused one"
abbrev pub IsHistory : List Call → Type 0
IsHistory [] = Unit {0}
IsHistory (Receive setting r ∷ h) = (r.time < 2 ^ 64) × IsHistory h
IsHistory (Checkpoint output ∷ h) = IsHistory h
IsHistory (Restore image ∷ h) = (accepts image ≡ false) × IsHistory h
IsHistory (Cut output ∷ h) = (image_length ≤ length output) × IsHistory h
IsHistory (Burst setting rs places ∷ h) = Timely rs × IsHistory h
IsHistory (Ask k ∷ h) = IsHistory h
IsHistory (Look ∷ h) = IsHistory h

-- what is seen of a call, and "the six totals after every call"
pub data Seen : Type 0 where
  -- the answer, and the telegram to send with its length
  Answered : Shown → Frame → Totals → Seen
  -- the number of a checkpoint, and every byte of its output
  Wrote : ℕ → List ℕ → Totals → Seen
  -- the number of a restore
  Restored : ℕ → Totals → Seen
  -- the number of a burst, and every entry of its list of replies
  Delivered : ℕ → List Replied → Totals → Seen
  -- the number of an ask, and the copies
  Heard : ℕ → ℕ → Totals → Seen
  Looked : Totals → Seen

-- what the collector shows: "each call gets the state that the one before returned, save the reload of a cut, which
-- gets a fresh one"
abbrev pub run : View → List Call → List Seen
run v [] = []
run v (Receive setting r ∷ h) =
    let o = step v r in
    Answered o.answer (sent_for setting o.answer r) o.next.totals ∷ run o.next h
run v (Checkpoint output ∷ h) =
    let p = checkpoint_of v output in
    Wrote p.number p.output v.totals ∷ run v h
run v (Restore image ∷ h) =
    let q = restore_of v image in
    Restored q.number q.next.totals ∷ run q.next h
run v (Cut output ∷ h) =
    let p = checkpoint_of v output in
    let q = restore_of fresh (take image_length p.output) in
    Wrote p.number p.output v.totals ∷ Restored q.number q.next.totals ∷ run q.next h
run v (Burst setting rs places ∷ h) =
    let b = burst_of setting v rs places in
    Delivered b.number b.replies b.next.totals ∷ run b.next h
run v (Ask k ∷ h) =
    let a = copies_of v k in
    Heard a.number a.copies v.totals ∷ run v h
run v (Look ∷ h) = Looked v.totals ∷ run v h

-- the receptions that a burst counts for in the reference model: all of them, if the list of replies is long enough,
-- they are at most 256, and the setting is at most 2; else none
abbrev pub burst_taken : ℕ → List Reception → List Replied → List Reception
burst_taken setting rs places =
    cond (leb (length rs) (length places) && (leb (length rs) max_burst && leb setting max_setting)) rs []

-- what the reference model says, which is fed the receptions so far. The restore of a cut is answered 0, any other
-- restore 11.
abbrev pub expected : List Reception → List Call → List Seen
expected past [] = []
expected past (Receive setting r ∷ h) =
    let a = answer_to (log_of past) r in
    Answered a (sent_with setting a r) (totals_of (log_of (r ∷ past))) ∷ expected (r ∷ past) h
expected past (Checkpoint output ∷ h) =
    let p = saved_by (log_of past) output in
    Wrote p.number p.output (totals_of (log_of past)) ∷ expected past h
expected past (Restore image ∷ h) = Restored (number_of NotAccepted) (totals_of (log_of past)) ∷ expected past h
expected past (Cut output ∷ h) =
    let p = saved_by (log_of past) output in
    Wrote 0 p.output (totals_of (log_of past)) ∷ Restored 0 (totals_of (log_of past)) ∷ expected past h
expected past (Burst setting rs places ∷ h) =
    let t = burst_taken setting rs places in
    Delivered (call_number setting (length rs) (length places)) (replies_by setting past t ++ drop (length t) places)
    (totals_of (log_of (past_after past t)))
    ∷ expected (past_after past t) h
expected past (Ask k ∷ h) =
    let a = heard_by (log_of past) k in
    Heard a.number a.copies (totals_of (log_of past)) ∷ expected past h
expected past (Look ∷ h) = Looked (totals_of (log_of past)) ∷ expected past h

-- "The uncut run is the same list without the reloads"; in place of a reload, the totals are read
abbrev pub uncut : List Call → List Call
uncut [] = []
uncut (Receive setting r ∷ h) = Receive setting r ∷ uncut h
uncut (Checkpoint output ∷ h) = Checkpoint output ∷ uncut h
uncut (Restore image ∷ h) = Look ∷ uncut h
uncut (Cut output ∷ h) = Checkpoint output ∷ Look ∷ uncut h
uncut (Burst setting rs places ∷ h) = Burst setting rs places ∷ uncut h
uncut (Ask k ∷ h) = Ask k ∷ uncut h
uncut (Look ∷ h) = Look ∷ uncut h

-- what is seen, without the numbers of the restores
abbrev pub common : List Seen → List Seen
common [] = []
common (Answered a sent n ∷ l) = Answered a sent n ∷ common l
common (Wrote number output n ∷ l) = Wrote number output n ∷ common l
common (Restored number n ∷ l) = Looked n ∷ common l
common (Delivered number replies n ∷ l) = Delivered number replies n ∷ common l
common (Heard number copies n ∷ l) = Heard number copies n ∷ common l
common (Looked n ∷ l) = Looked n ∷ common l

-- all that is seen in a history "equals the clerk's after the receptions up to there, and the uncut run's"
pub record Agrees (h : List Call) : Type 0 where
  pub reference : run fresh h ≡ expected [] h
  pub uncut_run : common (run fresh h) ≡ run fresh (uncut h)

-- THE CLAIM, on the whole list: this holds for every history "from a collector started fresh", with any settings.
abbrev pub WholeHistory : Type 0
WholeHistory = (h : List Call) → IsHistory h → Agrees h
