-- Lines taken by a session: none, one from the start of the input, one more, and what is sent for one.
use mathlib.Core.Path.{◌≡◌, refl, sym, ap, ◌∙◌}
use mathlib.Core.Bool.{Bool, true, false, cond, false≢true}
use mathlib.Core.List.{List, [], ◌∷◌}
use Prim.Native.Nat.{ℕ, ◌+◌, ◌-◌, ◌*◌, ◌<◌, ◌≤◌}
use native.Mathlib.Omega.{arith}
use lib.Dec.{ltb}
use lib.ListN.{length, take, drop, take-append-drop, length-append}
use lib.Seq.{length-sets, length-take-le, take-append_seam, take-append-le}
use borrow.Author.Tests.{ltb-true, ltb-false}
use Rattle.base_bytes.specs.Bytes.{index_of, slice}
use Rattle.base_lists.proofs.Tests.{by_test}
use Rattle.radio_telegram.specs.Frame.{frame_of}
use Rattle.radio_telegram.specs.Output.{Result, written}
use Rattle.collector_model.specs.Answer.{Shown}
use Rattle.collector_model.specs.View as view
use Rattle.collector_model.specs.View.{View}
use Rattle.collector_model.specs.Step.{sent_for}
use Rattle.collector_state.specs.Admission.{relayed_for, admission}
use Rattle.collector_state.proofs.Sending.{relayed_sent}
use Rattle.text_lines.specs.Ascii.{newline, space}
use Rattle.text_lines.proofs.Pairs.{leading_hex}
use Rattle.text_lines.proofs.Long.{long-time}
use Rattle.text_lines.proofs.Whole.{Said}
use Rattle.text_rows.proofs.ReadBack.{time-back}
use Rattle.text_rows.specs.Text.{decimal_text}
use Rattle.base_buffers.specs.Printed.{Printed}
use Rattle.text_rows.specs.Longest.{longest_number}
use Rattle.text_program.specs.Chunks.{feed_text}
use Rattle.text_program.specs.Collect.{Phase, collect, phase_text, next_phase}
use Rattle.text_program.specs.Buffer.{is_unended, Fed}
use Rattle.text_program.proofs.Segments.{open_whole}
use Rattle.text_program.proofs.Limit.{bounded}
use Rattle.text_program.proofs.Takes.{found, fed_none, fed_next}
use Rattle.text_collect.specs.declared.Session.{Session}
use Rattle.text_collect.specs.declared.Progress.{Progress}
use Rattle.text_collect.specs.Printed.{sent_bytes}
use Rattle.text_collect.specs.Session.{Receiver, model_collector, phase_of, longest_line, Ran}

-- ---- none

pub none_taken : {s : Phase Receiver} {x : Session} {r : Progress} (input out : List ℕ)
    → phase_of x ≡ s → r ≡ record { session = x; used = 0; written = 0 }
    → (longest_line ≤ length out → is_unended input ≡ true) → Ran s input out out r
none_taken {s} input out e k h =
    rw k
    (record {
      within = omega arith;
      fed = rw e (fed_none (collect model_collector) (bounded model_collector) s out);
      rest = λ z l. h l;
    })

-- nothing is written for no line
pub none_written : {s s' : Phase Receiver} {out out' : List ℕ} {n : ℕ} (input : List ℕ) {at : ℕ}
    → Fed (collect model_collector) s (take at input) out s' out' n
    → at ≡ 0 → n ≡ 0
unfolding feed_text
none_written input f e = (rw e at f).output.next

-- a search from the start of the input found no newline
pub no_line : (input : List ℕ) {n : ℕ} → n ≡ 0 + index_of newline (slice 0 (length input) input)
    → length input ≤ n → is_unended input ≡ true
no_line input e h = let k = found input 0 e in open_whole input (omega arith)

-- what is left from the start on is all
pub open_from_start : (input : List ℕ) (at : ℕ) → at ≡ 0 → is_unended (drop at input) ≡ true → is_unended input ≡ true
open_from_start input at e o = rw e at o

-- ---- one

-- the first line of the input
pub one_line : (s : Phase Receiver) {out out' : List ℕ} {most r : ℕ} (input : List ℕ) {n : ℕ}
    → n ≡ 0 + index_of newline (slice 0 (length input) input)
    → n < length input → Printed out 0 (phase_text model_collector s (take (n - 0) input)) most out' r → r ≤ length out
    → Fed (collect model_collector) s (take (n + 1) input) out
    (next_phase model_collector s (take (n - 0) input)) out' r
one_line s {out} input {n} e h q fits =
    fed_next (collect model_collector) (bounded model_collector) input 0 n
    (fed_none (collect model_collector) (bounded model_collector) s out) (found input 0 e) h (omega arith) q fits

-- the line from `at` on
abbrev pub line_at : List ℕ → ℕ → List ℕ
line_at input at = take (index_of newline (drop at input)) (drop at input)

-- ---- the time of a line is printed as it stands there

module _ (text : List ℕ) (k : ℕ) {t : ℕ} {bs : List ℕ} (within : k ≤ length text) (w : Said (take k text) t bs) where
  parts_long : k ≡ length w.digits + (1 + 2 * length bs)
  parts_long =
      let hex : 2 * length bs ≡ length w.hex =
      ap (λ (l : List ℕ). 2 * length l) (sym w.says_bytes) ∙ (leading_hex w.hex [] w.is_right).1 in
      omega (arith, hex, length-take-le k text within, ap length w.parts, length-append w.digits (space ∷ w.hex))

  pub time-room : 2 * length bs + 1 ≤ k
  time-room = omega (arith, parts_long)

  pub time-short : k - (2 * length bs + 1) ≤ longest_number
  time-short = by_test (ltb 20 (length w.digits))
      (λ h. absurd (false≢true (sym (long-time w.digits (ltb-true 20 (length w.digits) h)) ∙ w.is_timely)))
      (λ h. omega (arith, parts_long, ltb-false 20 (length w.digits) h))

  pub time-text : take (k - (2 * length bs + 1)) text ≡ decimal_text t
  time-text =
      let n : k - (2 * length bs + 1) ≡ length w.digits = omega (arith, parts_long) in
      let d = length w.digits in
      let front : take d text ≡ take d (take k text) =
      ap (take d) (sym (take-append-drop k text))
      ∙ take-append-le d (take k text) (drop k text) (omega (arith, parts_long, length-take-le k text within))
      in
      rw n
      (front ∙ ap (take d) w.parts ∙ take-append_seam w.digits (space ∷ w.hex)
      ∙ sym (time-back w.digits w.is_timely) ∙ ap decimal_text w.says_time)

-- ---- what is written

pub same_length : {out text out' : List ℕ} {at most r : ℕ} → Printed out at text most out' r → length out' ≡ length out
same_length {out} {text} {at = at} w = ap length w.bytes ∙ length-sets out at text

-- nothing, at the end of a run that is over
pub silent : (t : Bool) (out : List ℕ) (at : ℕ) → Printed out at (cond t [] []) 0 out at
silent true out at = record { bytes = refl; next = omega arith; short = omega arith }
silent false out at = record { bytes = refl; next = omega arith; short = omega arith }

-- what is sent stands at the front of the array
pub sent_front : (xs out : List ℕ) {out' : List ℕ} {n : ℕ}
    → record { number = 0; len = n; output = out' } ≡ written xs out → (n ≡ length xs) × (take n out' ≡ xs)
sent_front xs out e =
    let l = ap (λ (r : Result). r.len) e in
    let o = ap (λ (r : Result). r.output) e in
    (l, rw (l, o) (take-append_seam xs (drop (length xs) out)))

-- what is sent for a reception that was admitted, without the zero fill
pub sent-bytes : (xs : List ℕ) → sent_bytes (frame_of xs) ≡ xs
unfolding frame_of
sent-bytes xs = take-append_seam xs _

pub relayed_bytes : (setting : ℕ) (fit : Bool) (v : View) (r : view.Reception) (a : Shown)
    → a ≡ (admission fit v r).answer
    → relayed_for setting a r.bytes ≡ sent_bytes (sent_for setting a r)
relayed_bytes setting fit v r a e =
    rw e
    (sym (sent-bytes (relayed_for setting (admission fit v r).answer r.bytes))
    ∙ ap sent_bytes (relayed_sent fit v r setting))
