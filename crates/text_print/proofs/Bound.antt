-- No text of a line is longer than fifteen times the line with its newline: a row without bytes to send has 30 characters beside its time, and one
-- with bytes to send is of a line with eight bytes at least.
use Rattle.std.specs.Prelude.{Option, Some, None}
use mathlib.Core.Path.{◌≡◌, refl, sym, ap}
use mathlib.Core.Bool.{Bool, true, false, cond}
use mathlib.Core.List.{List, [], ◌∷◌, ◌++◌}
use Prim.Native.Nat.{ℕ, suc, ◌+◌, ◌-◌, ◌*◌, ◌≤◌, ◌<◌}
use native.Mathlib.Omega.{arith}
use native.Mathlib.Decide.{dec_lt}
use lib.Dec.{eqb}
use lib.ListN.{length, take, length-take, length-append}
use lib.Seq.{length-take-le, take-length}
use Rattle.radio_erp1.specs.Subtelegram.{min_length, max_length, is_valid}
use Rattle.radio_telegram.specs.Repeater.{relay_of, repeat_of}
use Rattle.radio_telegram.proofs.Repeating.{relay_fits, relay_short}
use Rattle.collector_model.specs.Answer.{Shown, is_kept}
use Rattle.collector_model.specs.Step.{sent_for}
use Rattle.text_lines.specs.Ascii.{newline}
use Rattle.text_lines.specs.Reading.{Reading, reception, bad, setting_of, line_reading, line_limit}
use Rattle.text_lines.proofs.Whole.{Said, said}
use Rattle.text_rows.specs.Text.{decimal_text}
use Rattle.text_rows.proofs.Longest.{row-short}
use Rattle.text_program.specs.Lines.{Program}
use Rattle.text_program.specs.Chunks.{Position, in_line, at_line_start, feed_text}
use Rattle.text_program.specs.Collect.{Phase, starting, running, over, collect, first_text, line_text, phase_text}
use Rattle.text_collect.specs.Printed.{printed_row, sent_bytes, reception_at}
use Rattle.text_collect.specs.Session.{Receiver, model_collector, taken_at}
use Rattle.text_collect.proofs.Taking.{time-room, time-text, sent-bytes}

-- ---- what is sent

module _ (setting : ℕ) (a : Shown) (t : ℕ) (bs : List ℕ) where
  abbrev sent : List ℕ
  sent = sent_bytes (sent_for setting a (reception_at t bs))

  pub sent-short : length sent ≤ max_length
  unfolding sent_for repeat_of
  sent-short = rw (sent-bytes (cond (is_kept a) (repeat_of setting bs) [])) (go (is_kept a) (is_valid bs))
    where
      go : (kept valid : Bool) → length (cond kept (cond valid (relay_of setting bs) []) []) ≤ max_length
      go true true = relay_fits setting bs
      go true false = omega arith
      go false valid = omega arith

  none_sent : length bs < min_length → length sent ≡ 0
  unfolding sent_for repeat_of
  none_sent h = rw (sent-bytes (cond (is_kept a) (repeat_of setting bs) [])) (go (is_kept a) (is_valid bs))
    where
      go : (kept valid : Bool) → length (cond kept (cond valid (relay_of setting bs) []) []) ≡ 0
      go true true = rw (sym (relay_short setting bs h))
      go true false = refl
      go false valid = refl

-- ---- a line

time-long : (l : List ℕ) {t : ℕ} {bs : List ℕ} → Said l t bs → length l ≡ length (decimal_text t) + (2 * length bs + 1)
time-long l {t} {bs} w =
    let v : Said (take (length l) l) t bs = rw (take-length l) w in
    let k = length l in
    let room = time-room l k (omega arith) v in
    let e = length-take-le (k - (2 * length bs + 1)) l (omega arith) in
    let d = ap length (time-text l k (omega arith) v) in
    omega (arith, room, e, d)

first_bound : (x : (Option ℕ)) → length (first_text model_collector x) ≤ 4
first_bound (Some n) = omega arith
first_bound None = omega arith

row-bound : (c : Receiver) (l : List ℕ) (x : Reading) → line_reading l ≡ x
    → length (line_text model_collector c x) ≤ 15 * (length l + 1)
row-bound c l (reception t bs) e =
    let a = (taken_at c.view t bs).answer in
    let out = sent c.setting a t bs in
    let row = row-short (decimal_text t) (printed_row a) out in
    let long = time-long l (said l e) in
    let most = sent-short c.setting a t bs in
    elim (dec_lt (length bs) 8) [
      | yes h ↦ (let z = none_sent c.setting a t bs h in omega (arith, row, long, z))
      | no h ↦ omega (arith, row, long, most)
    ]
row-bound c l bad e = omega arith

line-bound : (s : Phase Receiver) (l : List ℕ) → length (phase_text model_collector s l) ≤ 15 * (length l + 1)
line-bound starting l = omega (arith, first_bound (setting_of l))
line-bound (running c) l = row-bound c l (line_reading l) refl
line-bound over l = omega arith

-- ---- a text

module _ {S : Type 0} (p : Program S) (limit : ℕ)
    (b : (s : S) (l : List ℕ) → length (p.text s l) ≤ 15 * (length l + 1)) where
  text-bound : (x : List ℕ) (a : Position S) → length (feed_text p limit a x) ≤ 15 * (length a.line + length x)
  unfolding feed_text
  text-bound [] a = omega arith
  text-bound (c ∷ x) a =
      go (eqb c newline) (text-bound x (at_line_start (p.next a.state a.line)))
      (text-bound x (in_line a.state (take limit (a.line ++ (c ∷ [])))))
    where
      go : (t : Bool) → length (feed_text p limit (at_line_start (p.next a.state a.line)) x) ≤ 15 * (0 + length x)
          → length (feed_text p limit (in_line a.state (take limit (a.line ++ (c ∷ [])))) x)
          ≤ 15 * (length (take limit (a.line ++ (c ∷ []))) + length x)
          → length (cond t (p.text a.state a.line) []
          ++ feed_text p limit
          (cond t (at_line_start (p.next a.state a.line))
          (in_line a.state (take limit (a.line ++ (c ∷ [])))))
          x)
          ≤ 15 * (length a.line + suc (length x))
      go true e f = simp length-append (omega (arith, e, b a.state a.line))
      go false e f = omega (arith, f, length-take limit (a.line ++ (c ∷ [])), length-append a.line (c ∷ []))

pub printed-bound : (s : Phase Receiver) (text : List ℕ)
    → length (feed_text (collect model_collector) line_limit (at_line_start s) text) ≤ 15 * length text
printed-bound s text = omega (arith, text-bound (collect model_collector) line_limit line-bound text (at_line_start s))
