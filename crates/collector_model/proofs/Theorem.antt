-- The whole history: what a collector shows is what the reference model says, and what the uncut run shows.
use Prim.Native.Nat.{ℕ, ◌≤◌}
use native.Mathlib.Omega.{arith}
use mathlib.Core.Path.{◌≡◌, refl, sym, ◌∙◌, ap, ap₂}
use mathlib.Core.Bool.{Bool, true, false, cond, ◌&&◌}
use mathlib.Core.List.{List, [], ◌∷◌, ◌++◌}
use lib.Dec.{eqb, leb}
use lib.ListN.{length, take, drop}
use lib.Seq.{take_at}
use borrow.Author.Tests.{leb-true, leb-false, le-ltb, lt-ltb}
use Rattle.base_lists.proofs.Tests.{by_test}
use Rattle.base_refusal.specs.Number.{number_of}
use Rattle.base_refusal.specs.declared.Refusal.TheVariants.{NotAccepted}
use Rattle.collector_model.specs.View.{Reception, View, fresh}
use Rattle.radio_telegram.specs.declared.frame.Frame.{Frame}
use Rattle.radio_telegram.specs.Repeater.{max_setting}
use Rattle.collector_model.specs.Step.{StepOutcome}
use Rattle.collector_model.specs.Image.{image_length, image_of, accepts, checkpoint_of, restore_of}
use Rattle.collector_model.specs.Reference.{Logged, totals_of, answer_to, model_view, saved_by, log_of, past_after, replies_by}
use Rattle.collector_model.specs.Burst.{Replied, max_burst, reply_with, after_all, replies_to, call_number, burst_number, taken, BurstResult, burst_of}
use Rattle.collector_model.specs.History.{Call, Receive, Checkpoint, Restore, Cut, Burst, Ask, Look, Timely, IsHistory, Delivered, run, burst_taken, expected, uncut, common, WholeHistory}
use Rattle.collector_model.proofs.Invariant.{Good, good_acceptable, good_fresh}
use Rattle.collector_model.proofs.Image.{fits_layout, image-length, parse-image, accepts-image}
use Rattle.collector_model.proofs.Simulation.{same_sent, same_step, good_after, same_heard}

-- ---- one call at a good view

-- the restore of a view's image goes on with the view
pub restore_image : {v : View} → Good v → restore_of fresh (image_of v) ≡ record { number = 0; next = v }
unfolding restore_of
restore_image {v} g =
    let f = fits_layout g in
    rw (good_acceptable good_fresh, accepts-image 0 v f (omega arith) (good_acceptable g), parse-image 0 v f)

pub restore_refused : {v : View} (image : List ℕ) → Good v → accepts image ≡ false
    → restore_of v image ≡ record { number = number_of NotAccepted; next = v }
unfolding restore_of
restore_refused image g e = rw (good_acceptable g, e)

module _ (log : List Logged) (output : List ℕ) where
  pub same_checkpoint : Good (model_view log) → checkpoint_of (model_view log) output ≡ saved_by log output
  unfolding checkpoint_of saved_by
  same_checkpoint g = rw (good_acceptable g)

  -- into room
  pub saved : image_length ≤ length output
      → saved_by log output ≡ record { number = 0; output = image_of (model_view log) ++ drop image_length output }
  unfolding saved_by
  saved room = rw (le-ltb (length output) image_length room)

  -- the bytes it wrote
  pub front : Good (model_view log)
      → take image_length (image_of (model_view log) ++ drop image_length output) ≡ image_of (model_view log)
  front g =
      take_at (image_of (model_view log)) (drop image_length output) image_length
      (image-length 0 (model_view log) (fits_layout g))

-- ---- receptions one by one, from the reference model's view

pub burst_after : (past rs : List Reception) → Good (model_view (log_of past)) → Timely rs
    → after_all (model_view (log_of past)) rs ≡ model_view (log_of (past_after past rs))
unfolding after_all
burst_after past [] g t = refl
burst_after past (r ∷ rs) g t =
    ap (λ (o : StepOutcome). after_all o.next rs) (same_step (log_of past) r g)
    ∙ burst_after (r ∷ past) rs (good_after (log_of past) r g t.0) t.1

burst_replies : (setting : ℕ) (past rs : List Reception) → Good (model_view (log_of past)) → Timely rs
    → replies_to setting (model_view (log_of past)) rs ≡ replies_by setting past rs
unfolding replies_to
burst_replies setting past [] g t = refl
burst_replies setting past (r ∷ rs) g t =
    ap (λ (o : StepOutcome). reply_with setting o.answer r ∷ replies_to setting o.next rs)
    (same_step (log_of past) r g)
    ∙ ap₂ ◌∷◌
    (ap (λ (f : Frame). record { answer = answer_to (log_of past) r; sent = f })
    (same_sent setting (answer_to (log_of past) r) r))
    (burst_replies setting (r ∷ past) rs (good_after (log_of past) r g t.0) t.1)

pub burst_good : (past rs : List Reception) → Good (model_view (log_of past))
    → Timely rs → Good (model_view (log_of (past_after past rs)))
burst_good past [] g t = g
burst_good past (r ∷ rs) g t = burst_good (r ∷ past) rs (good_after (log_of past) r g t.0) t.1

-- a burst is not refused for its arguments just where each reception has a place, they are at most 256, and the setting is at most 2
not_refused : (setting n m : ℕ)
    → eqb (call_number setting n m) 0 ≡ (leb n m && (leb n max_burst && leb setting max_setting))
unfolding call_number
not_refused setting n m =
    by_test (leb n m)
    (λ a. by_test (leb n max_burst)
    (λ b. by_test (leb setting max_setting)
    (λ c.
    rw (
      a,
      b,
      c,
      le-ltb m n (leb-true n m a),
      le-ltb max_burst n (leb-true n max_burst b),
      le-ltb max_setting setting (leb-true setting max_setting c),
    ))
    (λ c.
    rw (
      a,
      b,
      c,
      le-ltb m n (leb-true n m a),
      le-ltb max_burst n (leb-true n max_burst b),
      lt-ltb max_setting setting (leb-false setting max_setting c),
    )))
    (λ b. rw (a, b, le-ltb m n (leb-true n m a), lt-ltb max_burst n (leb-false n max_burst b))))
    (λ a. rw (a, lt-ltb m n (leb-false n m a)))

timely_if : (b : Bool) (rs : List Reception) → Timely rs → Timely (cond b rs [])
timely_if true rs t = t
timely_if false rs t = tt

pub taken-timely : (setting : ℕ) (rs : List Reception) (places : List Replied)
    → Timely rs → Timely (burst_taken setting rs places)
taken-timely setting rs places t =
    timely_if (leb (length rs) (length places) && (leb (length rs) max_burst && leb setting max_setting)) rs t

module _ (setting : ℕ) (past rs : List Reception) (places : List Replied)
    (g : Good (model_view (log_of past))) (t : Timely rs) where
  abbrev v : View
  v = model_view (log_of past)

  abbrev whole : List Reception
  whole = burst_taken setting rs places

  whole_timely : Timely whole
  whole_timely = taken-timely setting rs places t

  same_number : burst_number setting v (length rs) (length places) ≡ call_number setting (length rs) (length places)
  unfolding burst_number
  same_number = rw (good_acceptable g)

  same_taken : taken (call_number setting (length rs) (length places)) rs ≡ whole
  same_taken = ap (λ (b : Bool). cond b rs []) (not_refused setting (length rs) (length places))

  abbrev result_of : ℕ → List Reception → BurstResult
  result_of n l = record {
    number = n;
    replies = replies_to setting v l
        ++ drop (length l) places;
    next = after_all v l;
  }

  pub same_burst : burst_of setting v rs places ≡ record {
    number = call_number setting (length rs) (length places);
    replies = replies_by setting past whole ++ drop (length whole) places;
    next = model_view (log_of (past_after past whole));
  }
  same_burst =
      ap (λ (n : ℕ). result_of n (taken n rs)) same_number
      ∙ ap (result_of (call_number setting (length rs) (length places))) same_taken
      ∙ ap₂ (λ (l : List Replied) (u : View).
      record {
        number = call_number setting (length rs) (length places);
        replies = l ++ drop (length whole) places;
        next = u;
      })
      (burst_replies setting past whole g whole_timely) (burst_after past whole g whole_timely)

-- ---- all calls

-- from the reference model's view the collector shows what the model says
pub same_run : (past : List Reception) (h : List Call) → Good (model_view (log_of past)) → IsHistory h
    → run (model_view (log_of past)) h ≡ expected past h
unfolding model_view
same_run past [] g ok = refl
same_run past (Receive setting r ∷ h) g ok =
    rw (same_step (log_of past) r g, same_sent setting (answer_to (log_of past) r) r)
    (ap₂ ◌∷◌ refl (same_run (r ∷ past) h (good_after (log_of past) r g ok.0) ok.1))
same_run past (Checkpoint output ∷ h) g ok =
    rw (same_checkpoint (log_of past) output g) (ap₂ ◌∷◌ refl (same_run past h g ok))
same_run past (Restore image ∷ h) g ok = rw (restore_refused image g ok.0) (ap₂ ◌∷◌ refl (same_run past h g ok.1))
same_run past (Cut output ∷ h) g ok =
    rw (
      same_checkpoint (log_of past) output g,
      saved (log_of past) output ok.0,
      front (log_of past) output g,
      restore_image g,
    ) (ap₂ ◌∷◌ refl (ap₂ ◌∷◌ refl (same_run past h g ok.1)))
same_run past (Burst setting rs places ∷ h) g ok =
    ap (λ (b : BurstResult). Delivered b.number b.replies b.next.totals ∷ run b.next h)
    (same_burst setting past rs places g ok.0)
    ∙ ap₂ ◌∷◌ refl (same_run (past_after past (burst_taken setting rs places)) h
    (burst_good past (burst_taken setting rs places) g (taken-timely setting rs places ok.0)) ok.1)
same_run past (Ask k ∷ h) g ok = rw (same_heard (log_of past) k g) (ap₂ ◌∷◌ refl (same_run past h g ok))
same_run past (Look ∷ h) g ok = ap₂ ◌∷◌ refl (same_run past h g ok)

-- and says the same of the uncut run
same_uncut : (past : List Reception) (h : List Call) → IsHistory h → common (expected past h) ≡ expected past (uncut h)
same_uncut past [] ok = refl
same_uncut past (Receive setting r ∷ h) ok = ap₂ ◌∷◌ refl (same_uncut (r ∷ past) h ok.1)
same_uncut past (Checkpoint output ∷ h) ok = ap₂ ◌∷◌ refl (same_uncut past h ok)
same_uncut past (Restore image ∷ h) ok = ap₂ ◌∷◌ refl (same_uncut past h ok.1)
same_uncut past (Cut output ∷ h) ok =
    rw (saved (log_of past) output ok.0) (ap₂ ◌∷◌ refl (ap₂ ◌∷◌ refl (same_uncut past h ok.1)))
same_uncut past (Burst setting rs places ∷ h) ok =
    ap₂ ◌∷◌ refl (same_uncut (past_after past (burst_taken setting rs places)) h ok.1)
same_uncut past (Ask k ∷ h) ok = ap₂ ◌∷◌ refl (same_uncut past h ok)
same_uncut past (Look ∷ h) ok = ap₂ ◌∷◌ refl (same_uncut past h ok)

uncut_history : (h : List Call) → IsHistory h → IsHistory (uncut h)
uncut_history [] ok = tt
uncut_history (Receive setting r ∷ h) ok = (ok.0, uncut_history h ok.1)
uncut_history (Checkpoint output ∷ h) ok = uncut_history h ok
uncut_history (Restore image ∷ h) ok = uncut_history h ok.1
uncut_history (Cut output ∷ h) ok = uncut_history h ok.1
uncut_history (Burst setting rs places ∷ h) ok = (ok.0, uncut_history h ok.1)
uncut_history (Ask k ∷ h) ok = uncut_history h ok
uncut_history (Look ∷ h) ok = uncut_history h ok

pub fresh-model : fresh ≡ model_view []
unfolding fresh model_view totals_of
fresh-model = refl

-- so does a fresh collector, whose view is the model's before all receptions
pub fresh-run : (h : List Call) → IsHistory h → run fresh h ≡ expected [] h
fresh-run h ok = rw fresh-model (same_run [] h (rw fresh-model at good_fresh) ok)

pub whole_history : WholeHistory
whole_history h ok =
    let shown : run fresh h ≡ expected [] h = fresh-run h ok in
    record {
      reference = shown;
      uncut_run = ap common shown ∙ same_uncut [] h ok ∙ sym (fresh-run (uncut h) (uncut_history h ok));
    }
