-- Receptions of a wrong length are answered alike, whatever their bytes and their time, and nothing is sent for them; what is sent for one that was
-- admitted.
use Prim.Native.Nat.{ℕ}
use native.Mathlib.Omega.{arith}
use mathlib.Core.Path.{◌≡◌, refl, sym, ◌∙◌, ap}
use mathlib.Core.Bool.{Bool, true, false, cond, not, ◌&&◌, ◌||◌}
use mathlib.Core.List.{List, []}
use lib.Dec.{ltb, leb, eqb}
use lib.ListN.{length}
use borrow.Author.Tests.{ltb-false}
use Rattle.base_lists.proofs.Tests.{by_test}
use Rattle.base_refusal.specs.Number.{number_of}
use Rattle.base_refusal.specs.declared.Refusal.TheVariants as refusal
use Rattle.radio_erp1.specs.Subtelegram.{max_length, is_length_wrong, check_of}
use Rattle.base_buffers.specs.Buffer.{part}
use Rattle.base_buffers.proofs.Buffer.{resized-length, resized_cut}
use Rattle.radio_telegram.specs.declared.frame.Frame.{Frame}
use Rattle.radio_telegram.specs.Frame.{frame_of}
use Rattle.radio_telegram.specs.Repeater.{repeat_of}
use Rattle.collector_model.specs.Answer.{Refused, is_kept, is_accepted}
use Rattle.collector_model.specs.View as view
use Rattle.collector_model.specs.View.{View}
use Rattle.collector_model.specs.Step.{StepOutcome, max_count, tally, sent_for}
use Rattle.collector_state.specs.Collector.{Columns, columns_with}
use Rattle.collector_state.specs.Admission.{relayed_for, reception_check, answer_for, is_safe, number_on, left_after, answer_on, admitted, not_admitted, admission, columns_admitted}
use Rattle.collector_state.proofs.Sending.{relayed_sent}
use Rattle.collector_burst.specs.declared.Reception.{Reception}
use Rattle.collector_burst.specs.Records.{reception_of, size_of}
use Rattle.collector_burst.specs.Private.{StepResult, admitted_with}

-- what is left of a refused reception, by its number alone
abbrev refused_by : View → ℕ → StepOutcome
refused_by v n = record {
  answer = Refused n;
  next = record { latest = v.latest; totals = tally (Refused n) v.totals; entries = v.entries };
}

module _ (v : View) (r : view.Reception) where
  refused-outcome : eqb (number_on v r) 0 ≡ false → admitted v r ≡ refused_by v (number_on v r)
  unfolding admitted answer_for
  refused-outcome e = rw e

  length-number : is_length_wrong r.bytes ≡ true → number_on v r ≡ number_of refusal.Length
  unfolding reception_check check_of
  length-number e = rw e

  wrong_length : is_length_wrong r.bytes ≡ true → admitted v r ≡ refused_by v (number_of refusal.Length)
  wrong_length e = refused-outcome (ap (λ (n : ℕ). eqb n 0) (length-number e)) ∙ ap (refused_by v) (length-number e)

-- nothing is sent for a refused reception, whatever its bytes
alike : (setting : ℕ) (fit : Bool) (v : View) (r s : view.Reception)
    → is_length_wrong r.bytes ≡ true → is_length_wrong s.bytes ≡ true
    → admitted_with setting fit v r ≡ admitted_with setting fit v s
unfolding admission sent_for
alike setting fit v r s e f =
    rw (wrong_length v r e, wrong_length v s f) (go (fit && is_safe v) (leb max_count v.totals.received))
  where
    outcome : Bool → Bool → StepOutcome
    outcome b c =
        cond (not b) (not_admitted refusal.NotAccepted v)
        (cond c (not_admitted refusal.Full v) (refused_by v (number_of refusal.Length)))

    shown : Bool → Bool → List ℕ → StepResult
    shown b c bytes = record {
      reply =
          record {
            answer = (outcome b c).answer;
            sent = frame_of (cond (is_kept (outcome b c).answer) (repeat_of setting bytes) []);
          };
      next = (outcome b c).next;
    }

    go : (b c : Bool) → shown b c r.bytes ≡ shown b c s.bytes
    go true true = refl
    go true false = refl
    go false c = refl

-- nor does it change the columns
wrong_stays : (fit : Bool) (v : View) (a : Columns) (r : view.Reception)
    → is_length_wrong r.bytes ≡ true → columns_admitted fit v r a ≡ a
unfolding columns_admitted admission
wrong_stays fit v a r e = rw (wrong_length v r e) (go (fit && is_safe v) (leb max_count v.totals.received))
  where
    go : (b c : Bool)
        → cond
        (is_accepted (cond (not b) (not_admitted refusal.NotAccepted v)
        (cond c (not_admitted refusal.Full v) (refused_by v (number_of refusal.Length)))).answer)
        (columns_with (answer_on v r) r (length v.entries) (left_after v r) a) a ≡ a
    go true true = refl
    go true false = refl
    go false c = refl

-- what is sent for a reception that was admitted
pub sent_with : (setting : ℕ) (fit : Bool) (v : View) (r : view.Reception) (o : StepOutcome) (sent : Frame)
    → o ≡ admission fit v r
    → sent ≡ frame_of (relayed_for setting o.answer r.bytes)
    → ◌≡◌ {A = StepResult} (record { reply = record { answer = o.answer; sent = sent }; next = o.next })
    (admitted_with setting fit v r)
sent_with setting fit v r o sent e f =
    ap (λ (x : Frame). record { reply = record { answer = o.answer; sent = x }; next = o.next }) f
    ∙ ap (λ (x : StepOutcome).
    record {
      reply = record { answer = x.answer; sent = frame_of (relayed_for setting x.answer r.bytes) };
      next = x.next;
    })
    e
    ∙ ap (λ (x : Frame).
    record { reply = record { answer = (admission fit v r).answer; sent = x }; next = (admission fit v r).next })
    (relayed_sent fit v r setting)

-- a record, and the bytes that the code hands over of it
module _ (r : Reception) where
  abbrev given : view.Reception
  given = record { bytes = part 0 (size_of r.len) r.bytes; time = r.time }

  -- both have a wrong length, or they are the same
  module _ (over : ltb max_length r.len ≡ true) where
    given_wrong : is_length_wrong given.bytes ≡ true
    given_wrong = rw over

    record_wrong : is_length_wrong (reception_of r).bytes ≡ true
    record_wrong = rw (resized-length r.len r.bytes, over) (either (ltb r.len 8))
      where
        either : (b : Bool) → (b || true) ≡ true
        either true = refl
        either false = refl

  given_same : length r.bytes ≡ max_length → ltb max_length r.len ≡ false → given ≡ reception_of r
  given_same full t = rw (t, resized_cut r.len r.bytes (omega (arith, ltb-false max_length r.len t)))

module _ (setting : ℕ) (fit : Bool) (v : View) (r : Reception) (full : length r.bytes ≡ max_length) where
  pub handed : admitted_with setting fit v (given r) ≡ admitted_with setting fit v (reception_of r)
  handed =
      by_test (ltb max_length r.len) (λ over. alike setting fit v _ _ (given_wrong r over) (record_wrong r over))
      (λ t. ap (admitted_with setting fit v) (given_same r full t))

  pub handed_columns : (a : Columns) → columns_admitted fit v (given r) a ≡ columns_admitted fit v (reception_of r) a
  handed_columns a =
      by_test (ltb max_length r.len)
      (λ over. wrong_stays fit v a _ (given_wrong r over) ∙ sym (wrong_stays fit v a _ (record_wrong r over)))
      (λ t. ap (λ (x : view.Reception). columns_admitted fit v x a) (given_same r full t))
