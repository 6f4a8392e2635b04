-- One call of a replay, by the record that the contract of the function that was called ensures: what is written of it, and every element of the arrays.
--     heard-as, restored-as, made_as, totals-done                             what a contract ensures, as it is used
--     received, restored, resumed, delivered, heard, saved, looked      the calls on lent arrays
--     received-value, restored-value, resumed-value, delivered-value, heard-value      and by value
use Prim.Native.Nat.{ℕ, ◌/◌, ◌%◌}
use mathlib.Core.Path.{◌≡◌, refl, sym, ap, ap₂, subst, ◌∙◌}
use mathlib.Core.Bool.{cond}
use mathlib.Core.List.{List, [], ◌++◌, map, flatten}
use lib.Dec.{eqb}
use lib.ListN.{length, take}
use Rattle.radio_telegram.specs.declared.frame.Frame.{Frame}
use Rattle.radio_telegram.specs.Frame.{frame_of}
use Rattle.radio_telegram.specs.Repeater.{repeat_result}
use Rattle.block_layout.specs.BigEndian.{be}
use Rattle.collector_model.specs.declared.Totals.{Totals}
use Rattle.collector_model.specs.Answer.{shown_of, shown_number}
use Rattle.collector_model.specs.View.{Reception, View, fresh}
use Rattle.collector_model.specs.Step.{StepOutcome, sent_for}
use Rattle.collector_model.specs.Image.{RestoreResult, image_length, checkpoint_of, restore_of}
use Rattle.collector_model.specs.Burst.{Replied, BurstResult, burst_of}
use Rattle.collector_model.specs.Heard.{copies_of}
use Rattle.collector_model.specs.History.{Call, Receive, Checkpoint, Restore, Cut, Burst, Ask, Look, Restored}
use Rattle.collector_state.specs.declared.Collector.{Collector}
use Rattle.collector_state.specs.declared.Taken.{Taken}
use Rattle.collector_state.specs.Collector.{view_of, next_number, next_in, step_outcome_of, IsFresh}
use Rattle.collector_state.specs.Collector as collector
use Rattle.collector_state.specs.Heard.{heard_of}
use Rattle.collector_checkpoint.specs.Checkpoint as images
use Rattle.collector_burst.specs.declared.Within.{Within}
use Rattle.base_refusal.specs.declared.Refusal.{Refusal}
use Rattle.std.specs.Prelude.{Result}
use Rattle.collector_burst.specs.Records.{replied_of, bursted_of}
use Rattle.c_collector.specs.State.{Arrays, state_at, arrays_of}
use Rattle.c_collector.specs.Calls.{Takes, Fresh, totals_call, copies_call}
use Rattle.c_checkpoint.specs.Calls.{Restores}
use Rattle.history_calls.specs.Answers.{shown_in, replies_in_places, totals_in_values}
use Rattle.history_calls.specs.Elements.{arrays_after}
use Rattle.history_calls.proofs.Follow as follow
use Rattle.history_calls.proofs.Elements as elements
use Rattle.history_replay_model.specs.Operation.{looking, receiving, restoring, delivering, asking}
use Rattle.history_replay_model.specs.Record.{head_of, form_of, reply_of, seen_bytes}
use Rattle.history_replay_model.proofs.Lengths.{burst_length}
use Rattle.history_replay.specs.Private.{Called, wrote_of, reply_cell, BurstMade, BurstGiven}
use Rattle.history_replay.proofs.Lent.{number_in}
use Rattle.history_replay.proofs.Making as making

-- ---- on lent arrays

-- of a reception, an image by another name
pub heard_as : {s s' : Arrays} {n : ℕ} {x y : Reception} → x ≡ y → Takes s x n s' → Takes s y n s'
heard_as {s} {s'} {n} e k = subst (λ (r : Reception). Takes s r n s') e k

pub restored_as : {s s' : Arrays} {n : ℕ} {x y : List ℕ} → x ≡ y → Restores s x n s' → Restores s y n s'
restored_as {s} {s'} {n} e k = subst (λ (l : List ℕ). Restores s l n s') e k

pub made_as : {s s' : Arrays} {setting n : ℕ} {old new : List ℕ} {x y : List Reception}
    → x ≡ y → BurstMade s setting x old n s' new → BurstMade s setting y old n s' new
made_as {s} {s'} {setting} {n} {old} {new} e k =
    subst (λ (rs : List Reception). BurstMade s setting rs old n s' new) e k

pub totals-done : (s t : Arrays) (old values : List ℕ) (number : ℕ) (n : Totals) → t ≡ s
    → record { number = number; values = values } ≡ totals_call (state_at t) old
    → number ≡ 0 → n ≡ totals_in_values values → n ≡ (state_at s).totals
totals-done s t old values number n same e z is =
    follow.totals-seen {s = s} (record {
      old = old;
      values = values;
      number = number;
      called = e ∙ ap (λ (a : Arrays). totals_call (state_at a) old) same;
      seen = is ∙ rw z;
    })

module _ {s s' : Arrays} {n : ℕ} {t : Totals} {exit : List ℕ} (seen : t ≡ (state_at s').totals) where
  pub received : {r : Reception} (setting : ℕ) → Takes s r n s' → (sent : Frame) (form number : ℕ)
      → sent ≡ cond (eqb n 0) (repeat_result setting r.bytes).sent (frame_of [])
      → form ≡ form_of (shown_in n) → number ≡ n % 256
      → exit ≡ head_of receiving number t ++ reply_cell form number sent → Called s (Receive setting r) exit s'
  received {r} setting k sent form number e f g put = record {
    bytes =
        put
        ∙ making.answered (state_at s) setting r
        (record { answer = shown_in n; next = state_at s' }) sent form number t (follow.answered k)
        (e ∙ follow.sends setting k) f (g ∙ sym (number_in (n / 256) (n % 256))) seen;
    state = k.next;
    elements = elements.took setting k;
  }

  pub restored : {image : List ℕ} → Restores s image n s'
      → exit ≡ head_of restoring n t → Called s (Restore image) exit s'
  unfolding seen_bytes
  restored {image} k put = record {
    bytes =
        put ∙ ap (head_of restoring n) seen
        ∙ making.loaded (state_at s) image (record { number = n; next = state_at s' }) k.result;
    state = ap (λ (q : RestoreResult). q.next) k.result;
    elements = elements.restored k;
  }

  -- the first cell is of the checkpoint
  pub resumed : (output after : List ℕ) {d : Arrays} → after ≡ (checkpoint_of (state_at s) output).output → Fresh d
      → Restores d (take image_length after) n s'
      → exit ≡ seen_bytes (wrote_of (state_at s) output) ++ head_of restoring n t → Called s (Cut output) exit s'
  unfolding seen_bytes
  resumed output after {d} w f k put = record {
    bytes =
        put ∙ ap (λ (x : Totals). seen_bytes (wrote_of (state_at s) output) ++ seen_bytes (Restored n x)) seen
        ∙ making.cut_made (state_at s) output (record { number = n; next = state_at s' }) back;
    state = ap (λ (q : RestoreResult). q.next) back;
    elements = elements.restored k ∙ elements.other-collector f w;
  }
    where
      back : record { number = n; next = state_at s' }
          ≡ restore_of fresh (take image_length (checkpoint_of (state_at s) output).output)
      back = k.result ∙ ap₂ (λ (v : View) (l : List ℕ). restore_of v (take image_length l)) f.state w

  pub delivered : (setting : ℕ) (rs : List Reception) (old new : List ℕ) (places : List Replied) (m : ℕ)
      → BurstMade s setting rs old n s' new
      → replies_in_places old ≡ places → length (replies_in_places new) ≡ m
      → exit ≡ head_of delivering n t ++ be 8 m ++ flatten (map reply_of (replies_in_places new))
      → Called s (Burst setting rs places) exit s'
  unfolding seen_bytes
  delivered setting rs old new places m k e long put = record {
    bytes =
        put
        ∙ ap₂ (λ (x : Totals) (y : ℕ). head_of delivering n x ++ be 8 y
        ++ flatten (map reply_of (replies_in_places new)))
        seen
        (sym long)
        ∙ making.delivered (state_at s) setting rs places
        (record { number = n; replies = replies_in_places new; next = state_at s' }) is;
    state = ap (λ (b : BurstResult). b.next) is;
    elements = k.elements ∙ ap (λ (l : List Replied). arrays_after s (Burst setting rs l)) e;
  }
    where
      is : record { number = n; replies = replies_in_places new; next = state_at s' }
          ≡ burst_of setting (state_at s) rs places
      is = k.result ∙ ap (burst_of setting (state_at s) rs) e

module _ {s : Arrays} {exit : List ℕ} where
  pub heard : (k n copies : ℕ) (t : Totals)
      → record { number = n; copies = copies } ≡ copies_call (state_at s) k 0 → t ≡ (state_at s).totals
      → exit ≡ head_of asking n t ++ be 8 copies → Called s (Ask k) exit s
  unfolding seen_bytes
  heard k n copies t e seen put = record {
    bytes =
        put ∙ ap (λ (x : Totals). head_of asking n x ++ be 8 copies) seen
        ∙ making.heard (state_at s) k (record { number = n; copies = copies }) (follow.heard (state_at s) k e);
    state = refl;
    elements = refl;
  }

  pub saved : (output : List ℕ) → exit ≡ seen_bytes (wrote_of (state_at s) output) → Called s (Checkpoint output) exit s
  saved output put = record { bytes = put ∙ making.saved (state_at s) output; state = refl; elements = refl }

  pub looked : (t : Totals) → t ≡ (state_at s).totals → exit ≡ head_of looking 0 t → Called s Look exit s
  unfolding seen_bytes
  looked t seen put =
      record { bytes = put ∙ ap (head_of looking 0) seen ∙ making.seen (state_at s); state = refl; elements = refl }

-- ---- by value

-- of a collector started fresh
pub state_of : {c : Collector} → IsFresh c → state_at (arrays_of c) ≡ fresh
unfolding view_of
state_of f = f.state

pub heard_as_value : {c : Collector} {t : Taken} {x y : Reception}
    → x ≡ y → collector.Takes c x t → collector.Takes c y t
heard_as_value {c} {t} e k = subst (λ (r : Reception). collector.Takes c r t) e k

pub restored_as_value : {c : Collector} {q : Result Collector Refusal} {x y : List ℕ}
    → x ≡ y → images.Restores c x q → images.Restores c y q
restored_as_value {c} {q} e k = subst (λ (l : List ℕ). images.Restores c l q) e k

pub given_as : {c : Collector} {setting m : ℕ} {rs rs' : List Reception} {ps ps' : List Replied} {w : Within}
    → rs ≡ rs' → ps ≡ ps'
    → BurstGiven c setting rs ps m w → BurstGiven c setting rs' ps' m w
given_as {c} {setting} {m} {rs} {rs'} {ps} {ps'} {w} e f k =
    subst (λ (l : List Replied). BurstGiven c setting rs' l m w) f
    (subst (λ (l : List Reception). BurstGiven c setting l ps m w) e k)

pub given-length : {c : Collector} {setting m : ℕ} {rs : List Reception} {ps : List Replied} {w : Within}
    → BurstGiven c setting rs ps m w → length ps ≡ m
    → length (map replied_of (take m w.replies)) ≡ m
given-length {c} {setting} {m} {rs} {ps} k e =
    ap (λ (b : BurstResult). length b.replies) k.result ∙ burst_length setting (view_of c) rs ps ∙ e

-- of a state by another name
pub at-next : {s : Arrays} {k : Call} {exit : List ℕ} {d e : Collector}
    → e ≡ d → Called s k exit (arrays_of d) → Called s k exit (arrays_of e)
at-next {s} {k} {exit} h x = subst (λ (e : Collector). Called s k exit (arrays_of e)) (sym h) x

module _ {c : Collector} {exit : List ℕ} where
  pub received-value : {r : Reception} {t : Taken} (setting : ℕ)
      → collector.Takes c r t → (sent : Frame) (form number : ℕ)
      → sent ≡ sent_for setting (shown_of t.answer) r → form ≡ form_of (shown_of t.answer)
      → number ≡ shown_number (shown_of t.answer)
      → exit ≡ head_of receiving number t.next.summary.totals ++ reply_cell form number sent
      → Called (arrays_of c) (Receive setting r) exit (arrays_of t.next)
  unfolding view_of
  received-value {r} {t} setting k sent form number e f g put = record {
    bytes =
        put
        ∙ making.answered (view_of c) setting r (step_outcome_of t) sent form number
        t.next.summary.totals k.outcome e f g refl;
    state = ap (λ (o : StepOutcome). o.next) k.outcome;
    elements = elements.took_value setting k;
  }

  pub restored-value : {image : List ℕ} {q : Result Collector Refusal} → images.Restores c image q
      → exit ≡ head_of restoring (next_number q) (next_in c q).summary.totals
      → Called (arrays_of c) (Restore image) exit (arrays_of (next_in c q))
  unfolding view_of seen_bytes
  restored-value {image} {q} k put = record {
    bytes = put ∙ making.loaded (view_of c) image (images.restore_result c q) k.result;
    state = ap (λ (x : RestoreResult). x.next) k.result;
    elements = elements.restored-value k;
  }

  pub resumed-value : (output after : List ℕ) {d : Collector} {q : Result Collector Refusal}
      → after ≡ (checkpoint_of (view_of c) output).output → IsFresh d
      → images.Restores d (take image_length after) q
      → exit
      ≡ seen_bytes (wrote_of (view_of c) output)
      ++ head_of restoring (next_number q) (next_in d q).summary.totals
      → Called (arrays_of c) (Cut output) exit (arrays_of (next_in d q))
  unfolding view_of seen_bytes
  resumed-value output after {d} {q} w f k put = record {
    bytes = put ∙ making.cut_made (view_of c) output (images.restore_result d q) back;
    state = ap (λ (x : RestoreResult). x.next) back;
    elements = elements.restored-value k ∙ elements.other-value f w;
  }
    where
      back : images.restore_result d q ≡ restore_of fresh (take image_length (checkpoint_of (view_of c) output).output)
      back = k.result ∙ ap₂ (λ (v : View) (l : List ℕ). restore_of v (take image_length l)) f.state w

  pub delivered-value : (setting : ℕ) (rs : List Reception) (places : List Replied) (m : ℕ) {w : Within}
      → BurstGiven c setting rs places m w
      → length (map replied_of (take m w.replies)) ≡ m
      → exit ≡ head_of delivering (next_number w.bursted) (next_in c w.bursted).summary.totals ++ be 8 m
      ++ flatten (map reply_of (map replied_of (take m w.replies)))
      → Called (arrays_of c) (Burst setting rs places) exit (arrays_of (next_in c w.bursted))
  unfolding view_of seen_bytes
  delivered-value setting rs places m {w} k long put = record {
    bytes =
        let l = map replied_of (take m w.replies) in
        put
        ∙ ap (λ (y : ℕ). head_of delivering (next_number w.bursted) (next_in c w.bursted).summary.totals
        ++ be 8 y ++ flatten (map reply_of l))
        (sym long)
        ∙ making.delivered (view_of c) setting rs places (bursted_of c w.bursted (take m w.replies)) k.result;
    state = ap (λ (b : BurstResult). b.next) k.result;
    elements = k.elements;
  }

  pub heard-value : (k : ℕ) (a : Result ℕ Refusal) → heard_of a ≡ copies_of (view_of c) k
      → exit ≡ head_of asking (heard_of a).number c.summary.totals ++ be 8 (heard_of a).copies
      → Called (arrays_of c) (Ask k) exit (arrays_of c)
  unfolding view_of seen_bytes
  heard-value k a e put =
      record { bytes = put ∙ making.heard (view_of c) k (heard_of a) e; state = refl; elements = refl }
