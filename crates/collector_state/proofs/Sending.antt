-- What is sent for a reception that was admitted: one that is kept is valid, so that bytes which are not checked again give what the repeater step
-- gives.
use Prim.Native.Nat.{ℕ, ◌≤◌}
use native.Mathlib.Omega.{arith}
use mathlib.Core.Path.{◌≡◌}
use mathlib.Core.Bool.{Bool, true, false, cond, not, ◌&&◌, false≢true}
use mathlib.Core.List.{List}
use lib.Dec.{leb}
use lib.ListN.{length}
use borrow.Author.Tests.{eqb-true}
use Rattle.base_lists.proofs.Tests.{by_test}
use Rattle.radio_erp1.specs.Subtelegram.{max_length, is_valid}
use Rattle.radio_telegram.specs.Frame.{frame_of}
use Rattle.radio_telegram.specs.Output.{written}
use Rattle.radio_telegram.specs.Repeater.{relay_of}
use Rattle.radio_telegram.proofs.Repeating.{relay_fits, repeat_valid}
use Rattle.collector_model.specs.Answer.{Shown, is_kept}
use Rattle.collector_model.specs.View.{Reception, View}
use Rattle.base_refusal.specs.declared.Refusal.TheVariants.{Full, NotAccepted}
use Rattle.collector_model.specs.Step.{max_count, sent_for}
use Rattle.collector_state.specs.Admission.{relayed_for, is_safe, admitted, not_admitted, admission}
use Rattle.collector_state.proofs.Admitting.{kept-room}

-- ---- the two ways out of `relay_kept`

module _ (setting : ℕ) (a : Shown) (bytes out : List ℕ) where
  pub relay_nothing : is_kept a ≡ false
      → record { number = 0; len = 0; output = out } ≡ written (relayed_for setting a bytes) out
  unfolding relayed_for
  relay_nothing e = rw e

  pub relay_anything : is_kept a ≡ true → written (relay_of setting bytes) out
      ≡ written (relayed_for setting a bytes) out
  unfolding relayed_for
  relay_anything e = rw e

-- at most 21 bytes
pub relayed_fits : (setting : ℕ) (a : Shown) (s : List ℕ) → length (relayed_for setting a s) ≤ max_length
unfolding relayed_for
relayed_fits setting a s = by_test (is_kept a) (λ e. rw e (relay_fits setting s)) (λ e. rw e (omega arith))

-- ---- of a reception that was admitted

module _ (fit : Bool) (v : View) (r : Reception) where
  kept-valid : is_kept (admission fit v r).answer ≡ true → is_valid r.bytes ≡ true
  unfolding admission admitted
  kept-valid = go (fit && is_safe v) (leb max_count v.totals.received)
    where
      go : (b c : Bool)
          → is_kept (cond (not b) (not_admitted NotAccepted v) (cond c (not_admitted Full v) (admitted v r))).answer
          ≡ true
          → is_valid r.bytes ≡ true
      go true true h = absurd (false≢true h)
      go true false h = (kept-room v r h).1
      go false c h = absurd (false≢true h)

  pub relayed_sent : (setting : ℕ)
      → frame_of (relayed_for setting (admission fit v r).answer r.bytes)
      ≡ sent_for setting (admission fit v r).answer r
  unfolding relayed_for sent_for
  relayed_sent setting =
      by_test (is_kept (admission fit v r).answer)
      (λ e. rw (e, ← repeat_valid setting r.bytes (eqb-true _ 0 (kept-valid e)))) (λ e. rw e)
