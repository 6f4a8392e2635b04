-- What states show is what their views show, and so what the reference model says; the state that calls leave is the reference model's.
use mathlib.Core.Path.{◌≡◌, refl, sym, ◌∙◌, ap, ap₂}
use mathlib.Core.List.{List, [], ◌∷◌, ◌++◌, map}
use Prim.Native.Nat.{ℕ}
use lib.ListN.{take, drop}
use Rattle.collector_model.specs.View.{Reception, View, fresh}
use Rattle.collector_model.specs.Step.{StepOutcome, step}
use Rattle.collector_model.specs.Image.{CheckpointResult, RestoreResult, image_length, image_of, checkpoint_of, restore_of}
use Rattle.collector_model.specs.Burst.{BurstResult, burst_of}
use Rattle.collector_model.specs.Reference.{log_of, past_after, model_view}
use Rattle.collector_model.specs.History.{Call, IsHistory, Seen, Delivered, burst_taken, run, common}
use Rattle.collector_model.specs.Division.{Given, given_at, receptions_of, replies_in}
use Rattle.collector_model.specs.States.{Shows, ended, received, saved, restored, resumed, delivered, asked, looked, left_by, StatesAgree, StatesDivide, StatesLeft}
use Rattle.collector_model.proofs.Invariant.{Good, good_fresh}
use Rattle.collector_model.proofs.Simulation.{same_step, good_after}
use Rattle.collector_model.proofs.Theorem.{restore_image, restore_refused, same_checkpoint, saved as into-room, front, burst_good, taken-timely, same_burst, fresh-model, whole_history}
use Rattle.collector_model.proofs.Division.{any_division}

-- the receptions of a burst, and those of the calls after it
pub past-joined : (setting : ℕ) (past rs : List Reception) (more : List Given)
    → past_after past (map (λ g. g.reception) (map (given_at setting) rs ++ more))
    ≡ past_after (past_after past rs) (map (λ g. g.reception) more)
past-joined setting past [] more = refl
past-joined setting past (r ∷ rs) more = past-joined setting (r ∷ past) rs more

module _ {State : Type 0} (view : State → View) where
  pub shows-run : {c : State} {h : List Call} {l : List Seen} → Shows view c h l → l ≡ run (view c) h
  shows-run ended = refl
  shows-run (received e s t) = rw (← e, s) (ap₂ ◌∷◌ refl (shows-run t))
  shows-run (saved e t) = rw (← e) (ap₂ ◌∷◌ refl (shows-run t))
  shows-run (restored e t) = rw (← e) (ap₂ ◌∷◌ refl (shows-run t))
  shows-run (resumed e d f t) = rw (← e, ← d, ← f) (ap₂ ◌∷◌ refl (ap₂ ◌∷◌ refl (shows-run t)))
  shows-run (delivered {h = h} e t) =
      ap₂ ◌∷◌ refl (shows-run t)
      ∙ ap (λ (b : BurstResult). Delivered b.number b.replies b.next.totals ∷ run b.next h) e
  shows-run (asked e t) = rw (← e) (ap₂ ◌∷◌ refl (shows-run t))
  shows-run (looked t) = ap₂ ◌∷◌ refl (shows-run t)

  -- started fresh
  pub fresh-shows : {c : State} {h : List Call} {l : List Seen} → view c ≡ fresh → Shows view c h l → l ≡ run fresh h
  fresh-shows {h = h} start t = shows-run t ∙ ap (λ v. run v h) start

  pub states_agree : StatesAgree view
  states_agree h ok c d from-c from-d l m t u =
      let whole = whole_history h ok in
      let shown : l ≡ run fresh h = fresh-shows from-c t in
      (shown ∙ whole.reference, ap common shown ∙ whole.uncut_run ∙ sym (fresh-shows from-d u))

  pub states_divide : StatesDivide view
  states_divide h h' ok ok' e c d from-c from-d l m t u =
      ap (replies_in h) (fresh-shows from-c t) ∙ any_division h h' ok ok' e
      ∙ sym (ap (replies_in h') (fresh-shows from-d u))

  -- ---- the state that is left

  pub left-model : (past : List Reception) {c : State} {h : List Call} {l : List Seen} (t : Shows view c h l)
      → view c ≡ model_view (log_of past) → Good (model_view (log_of past)) → IsHistory h
      → view (left_by view t) ≡ model_view (log_of (past_after past (map (λ g. g.reception) (receptions_of h))))
  left-model past ended e g ok = e
  left-model past (received {r = r} f s t) e g ok =
      left-model (r ∷ past) t
      (ap (λ (o : StepOutcome). o.next) f ∙ ap (λ (v : View). (step v r).next) e
      ∙ ap (λ (o : StepOutcome). o.next) (same_step (log_of past) r g))
      (good_after (log_of past) r g ok.0) ok.1
  left-model past (saved f t) e g ok = left-model past t e g ok
  left-model past (restored {image = image} f t) e g ok =
      left-model past t
      (ap (λ (q : RestoreResult). q.next) f ∙ ap (λ (v : View). (restore_of v image).next) e
      ∙ ap (λ (q : RestoreResult). q.next) (restore_refused image g ok.0)) g ok.1
  left-model past (resumed {output = output} {after = after} f from k t) e g ok =
      let log = log_of past in
      let wrote : after ≡ image_of (model_view log) ++ drop image_length output
      = ap (λ (p : CheckpointResult). p.output) f ∙ ap (λ (v : View). (checkpoint_of v output).output) e
      ∙ ap (λ (p : CheckpointResult). p.output) (same_checkpoint log output g ∙ into-room log output ok.0) in
      left-model past t
      (ap (λ (q : RestoreResult). q.next) k ∙ ap (λ (v : View). (restore_of v (take image_length after)).next) from
      ∙ ap (λ (image : List ℕ). (restore_of fresh image).next) (ap (take image_length) wrote ∙ front log output g)
      ∙ ap (λ (q : RestoreResult). q.next) (restore_image g)) g ok.1
  left-model past (delivered {setting = setting} {rs = rs} {places = places} {h = h} f t) e g ok =
      let whole = burst_taken setting rs places in
      left-model (past_after past whole) t
      (ap (λ (b : BurstResult). b.next) f ∙ ap (λ (v : View). (burst_of setting v rs places).next) e
      ∙ ap (λ (b : BurstResult). b.next) (same_burst setting past rs places g ok.0))
      (burst_good past whole g (taken-timely setting rs places ok.0)) ok.1
      ∙ ap (λ (p : List Reception). model_view (log_of p)) (sym (past-joined setting past whole (receptions_of h)))
  left-model past (asked f t) e g ok = left-model past t e g ok
  left-model past (looked t) e g ok = left-model past t e g ok

  pub states-left : StatesLeft view
  states-left h ok c from l t = left-model [] t (from ∙ fresh-model) (rw fresh-model at good_fresh) ok
