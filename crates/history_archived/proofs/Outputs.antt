-- Calls that share a buffer write one behind the other, and behind what they wrote it is as it was.
use Prim.Native.Nat.{ℕ, ◌+◌}
use native.Mathlib.Omega.{arith}
use native.Mathlib.Nat.{zero-add}
use mathlib.Core.Path.{◌≡◌, refl, sym, ap, ◌∙◌}
use mathlib.Core.List.{List, [], ◌∷◌, ◌++◌, map}
use lib.ListN.{length, take, drop, length-append}
use lib.Seq.{sets-eq, take_at, drop_at, drop-drop}
use Rattle.text_lines.specs.Reading.{line_limit}
use Rattle.text_program.specs.Lines.{Program}
use Rattle.text_program.specs.Chunks.{at_line_start, feed_text, joined}
use Rattle.text_program.specs.Buffer.{Fed}
use Rattle.c_collector.specs.State.{Arrays}
use Rattle.history_archived.specs.Runs.{LinesCall, TakesLines, TakesAs, GoesOn, IsRun}
use Rattle.history_archived.specs.Outputs.{Output, text_out, times_out, records_out, closings_out, written_to, Shares}
use Rattle.history_archived.specs.Outputs.{last, more, Behind, OutputsStay, ClosingsStay}

-- n elements were written at the front
record Fronted (out out' : List ℕ) (n : ℕ) : Type 0 where
  long : length (take n out') ≡ n
  rest : drop n out' ≡ drop n out

fronted : {S : Type 0} {p : Program S} {s s' : S} {x out out' : List ℕ} {n : ℕ} → Fed p s x out s' out' n
    → Fronted out out' n
fronted {S} {p} {s} {s'} {x} {out} {out'} {n} f =
    let t = feed_text p line_limit (at_line_start s) x in
    let e : n ≡ length t = f.output.next ∙ zero-add (length t) in
    let is : out' ≡ t ++ drop (0 + length t) out =
    f.output.bytes ∙ sets-eq t out 0 (omega (arith, f.output.short, e)) in
    let m : 0 + length t ≡ n = omega (arith, e) in
    let js : out' ≡ t ++ drop n out = is ∙ ap (λ (k : ℕ). t ++ drop k out) m in
    record {
      long = ap (λ (l : List ℕ). length (take n l)) js ∙ ap length (take_at t (drop n out) n (sym e)) ∙ sym e;
      rest = ap (drop n) js ∙ drop_at t (drop n out) n (sym e);
    }

module _ (o : Output) (Is : LinesCall → Type 0)
    (one : (c : LinesCall) → Is c → Fronted (o.lent c) (o.left c) (o.count c)) where
  behind : (cs : List LinesCall) (a : Arrays) {buffer rest : List ℕ} → IsRun GoesOn Is a cs → Shares o buffer cs rest
      → rest ≡ drop (length (joined (map (written_to o) cs))) buffer
  unfolding IsRun joined
  behind [] a r last = refl
  behind (c ∷ cs) a r (more k) =
      let f = one c r.1 in
      let all = joined (map (written_to o) cs) in
      let n = o.count c in
      let e : n + length all ≡ length (written_to o c ++ all) =
      omega (arith, f.long, length-append (written_to o c) all) in
      behind cs c.after r.2 k ∙ ap (drop (length all)) f.rest ∙ drop-drop (length all) n (o.lent c)
      ∙ ap (λ (m : ℕ). drop m (o.lent c)) e

  stays : Behind o Is
  stays a cs buffer rest r k = behind cs a r k

pub outputs_stay : OutputsStay
outputs_stay = record {
  lines = λ setting. record {
    text = stays text_out (TakesLines setting) (λ c k. fronted (k.taken refl).text);
    times = stays times_out (TakesLines setting) (λ c k. fronted (k.taken refl).times);
    records = stays records_out (TakesLines setting) (λ c k. fronted (k.taken refl).records);
  };
  lines_as = λ setting format. record {
    text = stays text_out (TakesAs setting format) (λ c k. fronted (k.taken refl).text);
    times = stays times_out (TakesAs setting format) (λ c k. fronted (k.taken refl).times);
    records = stays records_out (TakesAs setting format) (λ c k. fronted (k.taken refl).records);
  };
}

pub closings_stay : ClosingsStay
closings_stay setting format = stays closings_out (TakesAs setting format) (λ c k. fronted (k.taken refl).closes)
