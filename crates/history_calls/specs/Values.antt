-- The same for the calls by value: `fresh`, `take`, `copies`, `checkpoint`, `restore`, `burst`, and `repeat`.
use Rattle.std.specs.Prelude.{ℕ, ◌≡◌, cond, List, [], ◌∷◌, map, take, Result, ⊤}
use Rattle.radio_telegram.specs.declared.frame.Frame.{Frame}
use Rattle.radio_telegram.specs.Frame.{frame_of}
use Rattle.radio_telegram.specs.Repeater.{repeated_of, repeat_result}
use Rattle.collector_model.specs.Answer.{Shown, is_kept, shown_of}
use Rattle.collector_model.specs.View.{Reception}
use Rattle.collector_model.specs.Image.{image_length, checkpoint_of}
use Rattle.collector_model.specs.Heard.{copies_of}
use Rattle.collector_model.specs.History.{Call, Receive, Checkpoint, Restore, Cut, Burst, Ask, Look, Seen, Answered, Wrote, Restored, Delivered, Heard, Looked}
use Rattle.collector_state.specs.declared.Collector.{Collector}
use Rattle.collector_state.specs.declared.Taken.{Taken}
use Rattle.collector_state.specs.Collector.{view_of, next_number, next_in, IsFresh, Takes}
use Rattle.collector_state.specs.Heard.{heard_of}
use Rattle.collector_checkpoint.specs.Checkpoint.{checkpoint_result, Restores}
use Rattle.collector_burst.specs.declared.Reception as burst
use Rattle.collector_burst.specs.declared.Reply.{Reply}
use Rattle.base_refusal.specs.Number.{outcome_number}
use Rattle.collector_burst.specs.Records.{reception_of, replied_of, Bursts}
use Rattle.base_refusal.specs.declared.Refusal.{Refusal}

-- what a caller sends for a reception with this answer
abbrev pub sent_of : Shown → Result Frame Refusal → Frame
sent_of a q = cond (is_kept a) (repeated_of q).sent (frame_of [])

-- from the state c, the calls show the list and leave the state e
pub data ValuesShow : Collector → List Call → List Seen → Collector → Type 0 where
  ended : {c : Collector} → ValuesShow c [] [] c
  received : {c e : Collector} {setting : ℕ} {r : Reception} {h : List Call} {l : List Seen} (t : Taken) (q : Result Frame Refusal)
      → Takes c r t → repeated_of q ≡ repeat_result setting r.bytes → ValuesShow t.next h l e
      → ValuesShow c (Receive setting r ∷ h)
      (Answered (shown_of t.answer) (sent_of (shown_of t.answer) q) (view_of t.next).totals ∷ l) e
  saved : {c e : Collector} {output after : List ℕ} {h : List Call} {l : List Seen} (s : Result ⊤ Refusal)
      → checkpoint_result s after ≡ checkpoint_of (view_of c) output → ValuesShow c h l e
      → ValuesShow c (Checkpoint output ∷ h) (Wrote (outcome_number s) after (view_of c).totals ∷ l) e
  restored : {c e : Collector} {image : List ℕ} {h : List Call} {l : List Seen} (q : Result Collector Refusal)
      → Restores c image q → ValuesShow (next_in c q) h l e
      → ValuesShow c (Restore image ∷ h) (Restored (next_number q) (view_of (next_in c q)).totals ∷ l) e
  -- d is the collector that restores the image of the cut
  resumed : {c d e : Collector} {output after : List ℕ} {h : List Call} {l : List Seen} (s : Result ⊤ Refusal) (q : Result Collector Refusal)
      → checkpoint_result s after ≡ checkpoint_of (view_of c) output → IsFresh d → Restores d (take image_length after) q
      → ValuesShow (next_in d q) h l e
      → ValuesShow c (Cut output ∷ h)
      (Wrote (outcome_number s) after (view_of c).totals
      ∷ Restored (next_number q) (view_of (next_in d q)).totals ∷ l) e
  delivered : {c e : Collector} {setting : ℕ} {rs : List burst.Reception} {places after : List Reply} {h : List Call} {l : List Seen} (b : Result Collector Refusal)
      → Bursts c setting rs places b after → ValuesShow (next_in c b) h l e
      → ValuesShow c (Burst setting (map reception_of rs) (map replied_of places) ∷ h)
      (Delivered (next_number b) (map replied_of after) (view_of (next_in c b)).totals ∷ l) e
  asked : {c e : Collector} {k : ℕ} {h : List Call} {l : List Seen} (a : Result ℕ Refusal)
      → heard_of a ≡ copies_of (view_of c) k → ValuesShow c h l e
      → ValuesShow c (Ask k ∷ h) (Heard (heard_of a).number (heard_of a).copies (view_of c).totals ∷ l) e
  looked : {c e : Collector} {h : List Call} {l : List Seen}
      → ValuesShow c h l e → ValuesShow c (Look ∷ h) (Looked (view_of c).totals ∷ l) e
