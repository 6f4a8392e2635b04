-- The end of a run: what is kept of a line, with a newline behind it, is one more line, and no text of a line is longer than the longest row.
use Rattle.std.specs.Prelude.{Option, Some, None}
use mathlib.Core.Path.{◌≡◌, refl, sym, ap, ◌∙◌}
use mathlib.Core.Bool.{Bool, true, false, cond}
use mathlib.Core.List.{List, [], ◌∷◌, ◌++◌}
use Prim.Native.Nat.{ℕ, suc, ◌+◌, ◌-◌, ◌≤◌, ◌<◌}
use native.Mathlib.Omega.{arith}
use lib.Dec.{eqb, leb}
use borrow.Author.Tests.{leb-true, leb-false}
use lib.ListN.{length, take, drop, set, length-take, length-drop, length-append}
use lib.Seq.{take-nil, take_all, take-length, take-append-le, take-append_seam, take-suc-set, length-take-le}
use Rattle.collector_model.specs.Step.{sent_for}
use Rattle.text_lines.specs.Ascii.{newline}
use Rattle.text_lines.specs.Reading.{Reading, reception, bad, setting_of, line_reading, line_limit}
use Rattle.base_buffers.specs.Printed.{Printed, PrintedIfFits}
use Rattle.text_rows.specs.Text.{decimal_text}
use Rattle.text_rows.specs.Longest.{longest_totals}
use Rattle.text_rows.proofs.Longest.{digits-short, row-short}
use Rattle.base_buffers.proofs.Stores.{then, if_fits}
use Rattle.text_program.specs.Chunks.{Position, in_line, at_line_start, feed, last_text, end_text}
use Rattle.text_program.specs.Collect.{Phase, starting, running, over, collect, first_text, line_text, phase_end, next_phase, phase_text}
use Rattle.text_program.specs.Buffer.{is_unended}
use Rattle.text_program.proofs.Limit.{bounded}
use Rattle.text_program.proofs.Segments.{Drained, none, more, feed_open, open_front}
use Rattle.text_collect.specs.declared.Progress.{Progress}
use Rattle.text_collect.specs.Printed.{printed_row, sent_bytes, reception_at}
use Rattle.text_collect.specs.Session.{Receiver, model_collector, taken_at, phase_of, longest_line, longest_end, Ran}
use Rattle.text_print.specs.Step.{longest_finish}
use Rattle.text_collect.proofs.Taking.{same_length}
use Rattle.text_print.proofs.Bound.{sent-short}

-- ---- how long a text is

first_short : (x : (Option ℕ)) → length (first_text model_collector x) ≤ longest_line
first_short (Some n) = omega arith
first_short None = omega arith

later-short : (c : Receiver) (x : Reading) → length (line_text model_collector c x) ≤ longest_line
later-short c (reception t bs) =
    let a = (taken_at c.view t bs).answer in
    let sent = sent_for c.setting a (reception_at t bs) in
    omega (
      arith,
      row-short (decimal_text t) (printed_row a) (sent_bytes sent),
      digits-short 20 t,
      sent-short c.setting a t bs,
    )
later-short c bad = omega arith

line-short : (s : Phase Receiver) (l : List ℕ) → length (phase_text model_collector s l) ≤ longest_line
line-short starting l = first_short (setting_of l)
line-short (running c) l = later-short c (line_reading l)
line-short over l = omega arith

end_short : (s : Phase Receiver) → longest_end s ≤ longest_totals
end_short starting = omega arith
end_short (running v) = omega arith
end_short over = omega arith

-- ---- nothing is kept

pub no_line-kept : (s : Phase Receiver) (l : List ℕ) {out out' : List ℕ} {r : ℕ}
    → length l ≡ 0 → longest_finish ≤ length out
    → PrintedIfFits out 0 (longest_end s) (phase_end model_collector s) out' r
    → Printed out 0 (end_text (collect model_collector) (in_line s l)) longest_finish out' r
unfolding last_text
no_line-kept s [] e h p =
    let b = end_short s in
    let q = if_fits (omega arith) p in
    record { bytes = q.bytes; next = q.next; short = omega (arith, q.short) }
no_line-kept s (x ∷ l) e h p = absurd (omega arith)

-- ---- a line is kept

-- a text that ends with a newline is not open
not_open : (l : List ℕ) → is_unended (l ++ (newline ∷ [])) ≡ false
unfolding is_unended
not_open [] = refl
not_open (c ∷ l) = go (eqb c newline) (not_open l)
  where
    go : (t : Bool) → is_unended (l ++ (newline ∷ [])) ≡ false → cond t false (is_unended (l ++ (newline ∷ []))) ≡ false
    go true e = refl
    go false e = e

-- a part of a line is no whole line
part_is_none : (s s' : Phase Receiver) (l : List ℕ) → is_unended l ≡ true
    → feed (collect model_collector) line_limit (at_line_start s) l ≡ at_line_start s' → length l ≡ 0
part_is_none s s' l o e =
    let f = rw (take-nil {A = ℕ} line_limit) at (feed_open (collect model_collector) line_limit l [] s o) in
    let k : take line_limit l ≡ [] = ap (λ (a : Position (Phase Receiver)). a.line) (sym f ∙ e) in
    let n = ap length k in
    omega (arith, length-take line_limit l)

module _ (s : Phase Receiver) (l : List ℕ) (o : is_unended l ≡ true)
    (full : 0 < length l) {out out₁ : List ℕ} (p : Progress)
    (capacity : longest_line ≤ length out) (r : Ran s (l ++ (newline ∷ [])) out out₁ p) where
  -- the line is taken
  all_used : p.used ≡ suc (length l)
  all_used = go (leb p.used (length l)) refl
    where
      go : (t : Bool) → leb p.used (length l) ≡ t → p.used ≡ suc (length l)
      go true e =
          let h = leb-true p.used (length l) e in
          let part : feed (collect model_collector) line_limit (at_line_start s) (take p.used l)
          ≡ at_line_start (phase_of p.session) =
          rw (take-append-le p.used l (newline ∷ []) h) at r.fed.state
          in
          let n = part_is_none s (phase_of p.session) (take p.used l) (open_front p.used l o) part in
          let u : p.used ≡ 0 = omega (arith, length-take-le p.used l h) in
          let z : ◌≡◌ {A = Bool} true false = sym (r.rest u capacity) ∙ not_open l in
          let y : ◌≡◌ {A = ℕ} 0 1 = cc in
          absurd (omega arith)
      go false e = let h = leb-false p.used (length l) e in omega (arith, r.within, length-append l (newline ∷ []))

  whole : take p.used (l ++ (newline ∷ [])) ≡ l ++ (newline ∷ [])
  whole = rw all_used (take_all (suc (length l)) (l ++ (newline ∷ [])) (omega (arith, length-append l (newline ∷ []))))

  taken : Drained (collect model_collector) line_limit s (l ++ (newline ∷ []))
      (next_phase model_collector s l) (phase_text model_collector s l)
  taken =
      more (collect model_collector) line_limit (bounded model_collector)
      (none (collect model_collector) line_limit s) l o

  next_taken : phase_of p.session ≡ next_phase model_collector s l
  next_taken = ap (λ (a : Position (Phase Receiver)). a.state) (sym (rw whole at r.fed.state) ∙ taken.state)

  text-taken : Printed out 0 (phase_text model_collector s l) (length out) out₁ p.written
  text-taken = rw taken.text at (rw whole at r.fed.output)

  then_end : {out₂ : List ℕ} {n : ℕ} → longest_finish ≤ length out
      → PrintedIfFits out₁ p.written (longest_end (phase_of p.session))
      (phase_end model_collector (phase_of p.session)) out₂ n
      → Printed out 0
      (phase_text model_collector s l ++ phase_end model_collector (next_phase model_collector s l)) longest_finish
      out₂ n
  then_end room q =
      let same = same_length text-taken in
      let short = end_short (phase_of p.session) in
      let w : p.written ≤ longest_line = omega (arith, text-taken.next, line-short s l) in
      let f : p.written + longest_end (phase_of p.session) ≤ length out₁ = omega arith in
      let e = if_fits f q in
      let t = then text-taken e in
      rw (sym next_taken) (record { bytes = t.bytes; next = t.next; short = omega (arith, e.short) })

last_full : (s : Phase Receiver) (l : List ℕ) → 0 < length l
    → last_text (collect model_collector) s l
    ≡ phase_text model_collector s l ++ phase_end model_collector (next_phase model_collector s l)
unfolding last_text
last_full s [] h = absurd (omega arith)
last_full s (c ∷ l) h = refl

pub line_kept : (s : Phase Receiver) (l : List ℕ) {n : ℕ} {out out₁ out₂ : List ℕ} (p : Progress)
    → is_unended l ≡ true → (length l ≡ 0 → ⊥) → longest_finish ≤ length out
    → Ran s (l ++ (newline ∷ [])) out out₁ p
    → PrintedIfFits out₁ p.written (longest_end (phase_of p.session))
    (phase_end model_collector (phase_of p.session)) out₂ n
    → Printed out 0 (end_text (collect model_collector) (in_line s l)) longest_finish out₂ n
line_kept s l p o some room r q =
    rw (last_full s l (omega arith)) (then_end s l o (omega arith) p (omega arith) r room q)

-- the line in an array of zeros, with a newline behind it
pub with_newline : (l zeros whole : List ℕ) → length l < length zeros
    → whole ≡ take (length l) l ++ drop (length l) zeros
    → take (length l + 1 - 0) (set whole (length l) newline) ≡ l ++ (newline ∷ [])
with_newline l zeros whole h e =
    let n : length l + 1 - 0 ≡ suc (length l) = omega arith in
    let f : whole ≡ l ++ drop (length l) zeros = e ∙ rw (take-length l) in
    let fits : length l < length whole =
    omega (arith, ap length f, length-append l (drop (length l) zeros), length-drop (length l) zeros) in
    rw (n, take-suc-set whole (length l) newline fits, f, take-append_seam l (drop (length l) zeros))
