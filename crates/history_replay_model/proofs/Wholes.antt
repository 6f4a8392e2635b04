-- What the reference model says of a history is never cut: its totals are those of a good view, and what it sends has at most 21 bytes.
use Prim.Native.Nat.{ℕ, zero, suc, ◌^◌, ◌≤◌, ◌<◌}
use native.Mathlib.Omega.{arith}
use mathlib.Core.Path.{◌≡◌, refl, ap}
use mathlib.Core.Bool.{Bool, not, ◌&&◌}
use mathlib.Core.List.{List, [], ◌∷◌, ◌++◌}
use lib.Dec.{leb, ltb}
use lib.ListN.{length, drop, length-append, length-drop}
use borrow.Author.Tests.{ltb-false, leb-true, eqb-true}
use Rattle.base_lists.proofs.Choice.{both}
use Rattle.base_lists.proofs.Tests.{by_test}
use Rattle.radio_erp1.specs.Subtelegram.{max_length, is_valid, is_length_wrong, check_of}
use Rattle.radio_erp1.proofs.Checks.{check_facts}
use Rattle.radio_telegram.specs.Frame.{frame_of}
use Rattle.radio_telegram.specs.Repeater.{max_setting, level_of, repeats, relay_of, repeat_of}
use Rattle.radio_telegram.proofs.Repeating.{raised_length}
use Rattle.base_buffers.proofs.Buffer.{padded-length}
use Rattle.collector_model.specs.Answer.{Shown, Kept, Copy, Loose, Refused}
use Rattle.collector_model.specs.View.{Reception, fresh}
use Rattle.collector_model.specs.Heard.{copies_in}
use Rattle.collector_model.specs.Image.{image_length}
use Rattle.collector_model.specs.Burst.{Replied, max_burst}
use Rattle.collector_model.specs.Reference.{Logged, totals_of, answer_to, sent_with, log_of, open_at, latest_of, model_view, heard_by, saved_by, past_after, replies_by}
use Rattle.collector_model.specs.History.{Call, Receive, Checkpoint, Restore, Cut, Burst, Ask, Look, Timely, IsHistory, burst_taken, expected}
use Rattle.collector_model.proofs.Invariant.{Good, good_fresh}
use Rattle.collector_model.proofs.Image.{fits_layout, image-length}
use Rattle.collector_model.proofs.Simulation.{good_after}
use Rattle.history_replay_model.specs.Claims.{WholeTotals, WholeFrame, WholeReplies, AllWhole, OutputsHeld, ReferenceWhole}

-- ---- totals, copies and outputs

totals_whole : (log : List Logged) → Good (model_view log) → WholeTotals (totals_of log)
unfolding model_view
totals_whole log g = record {
  received = g.totals.fits;
  kept = omega (arith, g.totals.sum, g.totals.fits);
  copies = omega (arith, g.totals.sum, g.totals.fits);
  loose = omega (arith, g.totals.sum, g.totals.fits);
  damaged = omega (arith, g.totals.sum, g.totals.fits);
  late = omega (arith, g.totals.sum, g.totals.fits);
}

copies-small : (log : List Logged) (k : ℕ) → (heard_by log k).copies < 2 ^ 64
unfolding heard_by
copies-small log k =
    by_test (ltb k (length (copies_in (open_at (latest_of log) log)))) (λ t. rw t (omega arith))
    (λ t. rw t (omega arith))

saved-length : (log : List Logged) (output : List ℕ) → Good (model_view log)
    → length (saved_by log output).output ≡ length output
unfolding saved_by
saved-length log output g =
    by_test (ltb (length output) image_length) (λ t. rw t)
    (λ t. rw t
    (simp (length-append, length-drop, image-length 0 (model_view log) (fits_layout g))
    (omega (arith, ltb-false (length output) image_length t))))

-- ---- what is sent

frame_whole : (xs : List ℕ) → length xs ≤ max_length → WholeFrame (frame_of xs)
unfolding frame_of
frame_whole xs h = record { len = omega arith; bytes = padded-length max_length xs h }

repeat_short : (setting : ℕ) (s : List ℕ) → length (repeat_of setting s) ≤ max_length
unfolding repeat_of relay_of
repeat_short setting s =
    by_test (is_valid s)
    (λ v. let sound = check_facts s (eqb-true (check_of s) 0 v) in
    by_test (not (is_length_wrong s) && repeats setting (level_of s))
    (λ t. rw (v, t, raised_length s (omega (arith, sound.low))) sound.high) (λ t. rw (v, t) (omega arith)))
    (λ v. rw v (omega arith))

sent_whole : (setting : ℕ) (a : Shown) (r : Reception) → WholeFrame (sent_with setting a r)
sent_whole setting Kept r = frame_whole (repeat_of setting r.bytes) (repeat_short setting r.bytes)
sent_whole setting Copy r = frame_whole [] (omega arith)
sent_whole setting Loose r = frame_whole [] (omega arith)
sent_whole setting (Refused n) r = frame_whole [] (omega arith)

-- ---- bursts

replies_whole : (setting : ℕ) (past rs : List Reception) → WholeReplies (replies_by setting past rs)
replies_whole setting past [] = tt
replies_whole setting past (r ∷ rs) =
    (sent_whole setting (answer_to (log_of past) r) r, replies_whole setting (r ∷ past) rs)

both_whole : (l m : List Replied) → WholeReplies l → WholeReplies m → WholeReplies (l ++ m)
both_whole [] m w u = u
both_whole (r ∷ l) m w u = (w.0, both_whole l m w.1 u)

rest_whole : (n : ℕ) (l : List Replied) → WholeReplies l → WholeReplies (drop n l)
rest_whole zero l w = w
rest_whole (suc n) [] w = w
rest_whole (suc n) (r ∷ l) w = rest_whole n l w.1

replies-length : (setting : ℕ) (past rs : List Reception) → length (replies_by setting past rs) ≡ length rs
replies-length setting past [] = refl
replies-length setting past (r ∷ rs) = ap suc (replies-length setting (r ∷ past) rs)

burst_good : (past rs : List Reception) → Good (model_view (log_of past))
    → Timely rs → Good (model_view (log_of (past_after past rs)))
burst_good past [] g t = g
burst_good past (r ∷ rs) g t = burst_good (r ∷ past) rs (good_after (log_of past) r g t.0) t.1

module _ (setting : ℕ) (rs : List Reception) (places : List Replied) where
  abbrev room : Bool
  room = leb (length rs) (length places) && (leb (length rs) max_burst && leb setting max_setting)

  taken_few : length (burst_taken setting rs places) ≤ length places
  taken_few =
      by_test room (λ t. rw t (leb-true (length rs) (length places) (both (leb (length rs) (length places)) _ t).0))
      (λ t. rw t (omega arith))

  taken-timely : Timely rs → Timely (burst_taken setting rs places)
  taken-timely t = by_test room (λ e. rw e t) (λ e. rw e tt)

  places_length : (past : List Reception)
      → length (replies_by setting past (burst_taken setting rs places)
      ++ drop (length (burst_taken setting rs places)) places)
      ≡ length places
  places_length past = simp (length-append, length-drop, replies-length) (omega (arith, taken_few))

-- ---- all calls

whole : (past : List Reception) → Good (model_view (log_of past))
    → (h : List Call) → IsHistory h → OutputsHeld h → AllWhole (expected past h)
whole past g [] ok held = tt
whole past g (Receive setting r ∷ h) ok held =
    let next = good_after (log_of past) r g ok.0 in (
      (sent_whole setting (answer_to (log_of past) r) r, totals_whole (log_of (r ∷ past)) next),
      whole (r ∷ past) next h ok.1 held,
    )
whole past g (Checkpoint output ∷ h) ok held =
    ((rw (saved-length (log_of past) output g) held.0, totals_whole (log_of past) g), whole past g h ok held.1)
whole past g (Restore image ∷ h) ok held = (totals_whole (log_of past) g, whole past g h ok.1 held)
whole past g (Cut output ∷ h) ok held =
    let totals = totals_whole (log_of past) g in
    ((rw (saved-length (log_of past) output g) held.0, totals), (totals, whole past g h ok.1 held.1))
whole past g (Burst setting rs places ∷ h) ok held =
    let t = burst_taken setting rs places in
    let next = burst_good past t g (taken-timely setting rs places ok.0) in (
      (
        rw (places_length setting rs places past) held.0,
        both_whole (replies_by setting past t) (drop (length t) places)
            (replies_whole setting past t) (rest_whole (length t) places held.1),
        totals_whole (log_of (past_after past t)) next,
      ),
      whole (past_after past t) next h ok.1 held.2,
    )
whole past g (Ask k ∷ h) ok held = (
  (copies-small (log_of past) k, totals_whole (log_of past) g),
  whole past g h ok
      held,
)
whole past g (Look ∷ h) ok held = (totals_whole (log_of past) g, whole past g h ok held)

fresh_good : Good (model_view [])
unfolding model_view fresh totals_of
fresh_good = good_fresh

pub reference_whole : ReferenceWhole
reference_whole h ok held = whole [] fresh_good h ok held
