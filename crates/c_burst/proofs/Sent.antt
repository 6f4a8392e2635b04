-- One reception of a burst.
--     sent-few      what is sent has at most 21 bytes
--     answered      the reply and the next state are those of a step
use mathlib.Core.Path.{◌≡◌, sym, ap, ◌∙◌}
use mathlib.Core.Bool.{true}
use mathlib.Core.List.{List}
use Prim.Native.Nat.{ℕ, ◌≤◌}
use native.Mathlib.Omega.{arith}
use lib.ListN.{length, get_or, drop, replicate, length-drop}
use Rattle.radio_erp1.specs.Subtelegram.{max_length}
use Rattle.base_buffers.specs.Buffer.{part}
use Rattle.radio_telegram.specs.Output.{Result, written}
use Rattle.radio_telegram.proofs.Frames.{frame-written}
use Rattle.collector_model.specs.Answer.{Shown}
use Rattle.collector_model.specs.View.{Reception, View}
use Rattle.collector_model.specs.Acceptable.{acceptable}
use Rattle.collector_model.specs.Step.{StepOutcome, step}
use Rattle.collector_model.specs.Burst.{reply_with}
use Rattle.collector_state.specs.Collector.{Columns}
use Rattle.collector_burst.specs.declared.Reception as burst
use Rattle.collector_state.specs.Admission.{relayed_for, admission, columns_admitted}
use Rattle.collector_state.proofs.Stepping.{admission-fit, columns-fit}
use Rattle.collector_state.proofs.Sending.{relayed_fits}
use Rattle.collector_burst.specs.Records.{size_of}
use Rattle.collector_burst.specs.Private.{StepResult, admitted_with}
use Rattle.collector_burst.proofs.Records.{sent_with, handed, handed_columns}
use Rattle.c_layout.specs.Frame.{frame_length}
use Rattle.c_burst.specs.Bytes.{reception_in, reply_bytes}
use Rattle.c_burst.specs.Private.{Answered}

pub sent_few : (setting : ℕ) (a : Shown) (s old : List ℕ) {out : List ℕ} {len : ℕ}
    → ◌≡◌ {A = Result} (record { number = 0; len = len; output = out }) (written (relayed_for setting a s) old)
    → len ≤ max_length
sent_few setting a s old e = omega (arith, ap (λ (r : Result). r.len) e, relayed_fits setting a s)

module _ (setting : ℕ) (v : View) (ok : acceptable v ≡ true)
    (frame : List ℕ) (full : length frame ≡ frame_length) (time : ℕ) where
  abbrev r : Reception
  r = reception_in frame time

  -- what is told of the state is right
  as_step : admitted_with setting true v r
      ≡ record { reply = reply_with setting (step v r).answer r; next = (step v r).next }
  as_step =
      ap (λ (o : StepOutcome). record { reply = reply_with setting o.answer r; next = o.next })
      (admission-fit v r true (sym ok))

  pub answered : (a a' : Columns) (bytes : List ℕ)
      → bytes ≡ part 0 (size_of (get_or frame 0 0)) (drop 1 frame) → (o : StepOutcome)
      → o ≡ admission true v (record { bytes = bytes; time = time })
      → a' ≡ columns_admitted true v (record { bytes = bytes; time = time }) a → (len : ℕ) (out : List ℕ)
      → ◌≡◌ {A = Result} (record { number = 0; len = len; output = out })
      (written (relayed_for setting o.answer bytes) (replicate max_length 0))
      → (reply : List ℕ) → reply ≡ reply_bytes (record { answer = o.answer; sent = record { len = len; bytes = out } })
      → Answered setting v a r reply o.next a'
  answered a a' bytes e o admits elements len out relays reply put = record {
    replied = put ∙ ap (λ (x : StepResult). reply_bytes x.reply) whole;
    stepped = ap (λ (x : StepResult). x.next) whole;
    elements =
        elements
        ∙ ap (λ (l : List ℕ). columns_admitted true v (record { bytes = l; time = time }) a) e
        ∙ handed_columns setting true v handing whole_frame a ∙ columns-fit v r true a (sym ok);
  }
    where
      handing : burst.Reception
      handing = record { bytes = drop 1 frame; len = get_or frame 0 0; time = time }

      whole_frame : length (drop 1 frame) ≡ max_length
      whole_frame = length-drop 1 frame ∙ omega (arith, full)

      whole : ◌≡◌ {A = StepResult}
          (record { reply = record { answer = o.answer; sent = record { len = len; bytes = out } }; next = o.next })
          (record { reply = reply_with setting (step v r).answer r; next = (step v r).next })
      whole =
          sent_with setting true v (record { bytes = bytes; time = time }) o
          (record { len = len; bytes = out }) admits (frame-written _ relays)
          ∙ ap (λ (l : List ℕ). admitted_with setting true v (record { bytes = l; time = time })) e
          ∙ handed setting true v handing whole_frame ∙ as_step
