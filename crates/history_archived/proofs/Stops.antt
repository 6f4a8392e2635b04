-- Where a call stops is decided by what it is lent: before each line that it takes there is room, and where there is room
-- it takes a further line that has ended.
use Prim.Native.Nat.{ℕ, ◌+◌, ◌-◌, ◌*◌, ◌≤◌, ◌<◌}
use native.Mathlib.Omega.{arith}
use mathlib.Core.Path.{◌≡◌, refl, sym, ap, subst, ◌∙◌}
use mathlib.Core.Bool.{true, not}
use mathlib.Core.List.{List, ◌++◌}
use lib.Dec.{eqb, ltb}
use lib.ListN.{length, get_or, take, drop, take-append-drop}
use lib.Seq.{take-add, length-take-le}
use borrow.Author.Tests.{ltb-true, ltb-false}
use Rattle.base_lists.proofs.Tests.{by_test}
use Rattle.collector_model.specs.View.{View}
use Rattle.text_lines.specs.Reading.{line_limit}
use Rattle.text_rows.specs.declared.formats.Format.{Format}
use Rattle.text_program.specs.Lines.{Program}
use Rattle.text_program.specs.Chunks.{at_line_start, feed}
use Rattle.text_program.specs.Collect.{Phase, collect}
use Rattle.text_program.specs.Buffer.{is_unended}
use Rattle.text_collect.specs.Session.{Receiver, model_collector, running_at, longest_line}
use Rattle.text_collect.specs.Rows.{row_times}
use Rattle.text_collect.specs.Stored.{given_by, BeforeEach}
use Rattle.text_collect.specs.Formats.{collect_in, longest_line_in}
use Rattle.text_collect.specs.Heard.{line_closings, has_room_behind}
use Rattle.c_collector.specs.State.{state_at}
use Rattle.c_lines.specs.Formats.{format_of}
use Rattle.history_archived.specs.Runs.{LinesCall, used_by, lines_by, TakesLines, TakesAs}
use Rattle.history_archived.specs.Places.{TakenAlike, StopsDecided}
use Rattle.history_archived.proofs.Newlines.{newlines, newlines_append, fed_whole, open_none, same_front}
use Rattle.history_archived.proofs.Runs.{phase, gave, gave_as}
use Rattle.history_archived.proofs.Places.{call-count, inside, inside_as}

-- whole lines of an input were taken from a phase on, and before each there was room; where there is room, and fewer were
-- taken than may be, no further line has ended
record Decides (Ready : List ℕ → Type 0) (s : Phase Receiver) (input : List ℕ) (most used lines : ℕ) : Type 0 where
  after : Phase Receiver
  led : feed row_times line_limit (at_line_start s) (take used input) ≡ at_line_start after
  within : used ≤ length input
  count : newlines (take used input) ≡ lines
  few : lines ≤ most
  due : BeforeEach Ready s input used
  rest : lines < most → Ready (take used input) → is_unended (drop used input) ≡ true

module _ {Ready : List ℕ → Type 0} {s : Phase Receiver} {input : List ℕ} {most : ℕ} where
  in_two : {used lines : ℕ} → Decides Ready s input most used lines
      → newlines input ≡ lines + newlines (drop used input)
  in_two {used} {lines} k =
      ap newlines (sym (take-append-drop used input)) ∙ newlines_append (take used input) (drop used input)
      ∙ ap (λ (n : ℕ). n + newlines (drop used input)) k.count

  -- no lines are left out
  no_fewer_lines : {u n v m : ℕ} → Decides Ready s input most u n → Decides Ready s input most v m → u < v → m ≤ n
  no_fewer_lines {u} {n} {v} {m} k l h =
      by_test (ltb n most)
      (λ t.
      let ready = l.due u k.after h k.led in
      let z = open_none (drop u input) (k.rest (ltb-true n most t) ready) in
      omega (arith, in_two k, in_two l, z))
      (λ t. omega (arith, ltb-false n most t, l.few))

  no_shorter : {u n v m : ℕ} → Decides Ready s input most u n → Decides Ready s input most v m → u < v → ⊥
  no_shorter {u} {n} {v} {m} k l h =
      let more = take (v - u) (drop u input) in
      let is : v ≡ u + (v - u) = omega arith in
      let split : take v input ≡ take u input ++ more = ap (λ (w : ℕ). take w input) is ∙ take-add u (v - u) input in
      let sum : m ≡ n + newlines more =
      sym l.count ∙ ap newlines split ∙ newlines_append (take u input) more
      ∙ ap (λ (w : ℕ). w + newlines more) k.count
      in
      let same : n ≡ m = omega (arith, sum, no_fewer_lines k l h) in
      let front =
      same_front (take u input) (take v input) (drop u input) (drop v input) true
      (take-append-drop u input ∙ sym (take-append-drop v input))
      (fed_whole row_times k.after s (take u input) k.led)
      (fed_whole row_times l.after s (take v input) l.led)
      (k.count ∙ same ∙ sym l.count)
      in
      let long = ap length front in
      omega (arith, long, length-take-le u input k.within, length-take-le v input l.within)

  decided : {u n v m : ℕ} → Decides Ready s input most u n → Decides Ready s input most v m → u ≡ v
  decided {u} {n} {v} {m} k l =
      by_test (ltb u v) (λ t. absurd (no_shorter k l (ltb-true u v t)))
      (λ t. by_test (ltb v u) (λ r. absurd (no_shorter l k (ltb-true v u r)))
      (λ r. omega (arith, ltb-false u v t, ltb-false v u r)))

-- the room behind a text, by the lengths of the outputs
record Room (p : Program (Phase Receiver)) (longest : ℕ) (s : Phase Receiver) (out moments : ℕ) (text : List ℕ)
    : Type 0 where
  rows : given_by row_times s text < moments
  chars : given_by p s text + longest ≤ out

record RoomAs (f : Format) (s : Phase Receiver) (out moments closed : ℕ) (text : List ℕ) : Type 0 where
  both : Room (collect_in f) longest_line_in s out moments text
  closings : has_room_behind closed (given_by (line_closings (not (eqb closed 0))) s text) ≡ true

abbrev DecidesBy : (ℕ → View → (out moments closed : ℕ) → List ℕ → Type 0) → ℕ → (used lines : ℕ)
    → View → List ℕ → (most out moments closed : ℕ) → Type 0
DecidesBy Ready setting used lines v input most out moments closed =
    Decides (Ready setting v out moments closed) (running_at setting v) input most used lines

abbrev room_at : ℕ → View → (out moments closed : ℕ) → List ℕ → Type 0
room_at setting v out moments closed = Room (collect model_collector) longest_line (running_at setting v) out moments

abbrev RoomIn : Format → ℕ → View → (out moments closed : ℕ) → List ℕ → Type 0
RoomIn f setting v out moments closed = RoomAs f (running_at setting v) out moments closed

moved : (D : View → List ℕ → ℕ → ℕ → ℕ → ℕ → Type 0) {v v' : View} {x x' : List ℕ} {m m' o o' r r' k k' : ℕ}
    → v ≡ v' → x ≡ x' → m ≡ m' → o ≡ o' → r ≡ r' → k ≡ k' → D v x m o r k → D v' x' m' o' r' k'
moved D {v} {v'} {x} {x'} {m} {m'} {o} {o'} {r} {r'} {k} {k'} a b c d e f y =
    subst (λ (w : ℕ). D v' x' m' o' r' w) f
    (subst (λ (w : ℕ). D v' x' m' o' w k) e
    (subst (λ (w : ℕ). D v' x' m' w r k) d
    (subst (λ (w : ℕ). D v' x' w o r k) c
    (subst (λ (w : List ℕ). D v' w m o r k) b
    (subst (λ (w : View). D w x m o r k) a y)))))

module _ (Is : LinesCall → Type 0) (Ready : ℕ → View → (out moments closed : ℕ) → List ℕ → Type 0) (setting : ℕ)
    (one : (c : LinesCall) → Is c
    → DecidesBy Ready setting (get_or c.done' 0 0) (lines_by c) (state_at c.before) c.input c.most
    (length c.out) (length c.moments) (length c.closed)) where
  taken_alike : TakenAlike Is
  taken_alike c d k l e =
      decided (one c k)
      (moved (DecidesBy Ready setting (get_or d.done' 0 0) (lines_by d)) (sym e.state) (sym e.input)
      (sym e.most) (sym e.text) (sym e.rows) (sym e.closings) (one d l))

decides : (setting : ℕ) (c : LinesCall) → TakesLines setting c
    → DecidesBy room_at setting (get_or c.done' 0 0) (lines_by c) (state_at c.before) c.input c.most
    (length c.out) (length c.moments) (length c.closed)
decides setting c k =
    let t = k.taken refl in
    record {
      after = phase setting c.after;
      led = t.times.state;
      within = t.within;
      count = sym
          (call-count (TakesLines setting) setting (collect model_collector) (gave setting) (inside setting) c k);
      few = t.few;
      due = λ n s h f. let r = t.due n s h f in record { rows = r.rows; chars = r.chars };
      rest = λ h r.
          t.rest h (omega (arith, r.rows, t.times.output.next)) (omega (arith, r.chars, t.text.output.next));
    }

decides_as : (setting format : ℕ) (c : LinesCall) → TakesAs setting format c
    → DecidesBy (RoomIn (format_of format)) setting (get_or c.done' 0 0) (lines_by c) (state_at c.before) c.input
    c.most (length c.out) (length c.moments) (length c.closed)
decides_as setting format c k =
    let t = k.taken refl in
    let p = collect_in (format_of format) in
    let long = length c.closed in
    record {
      after = phase setting c.after;
      led = t.times.state;
      within = t.within;
      count =
          sym (call-count (TakesAs setting format) setting p (gave_as setting format) (inside_as setting format) c k);
      few = t.few;
      due = λ n s h f.
          let r = t.due n s h f in
          record { both = record { rows = r.rows; chars = r.chars }; closings = r.closings };
      rest = λ h r.
          let m : given_by (line_closings (not (eqb long 0))) (phase setting c.before) (used_by c)
          ≡ 32 * get_or c.done' 4 0 = omega (arith, t.closes.output.next) in
          t.rest h (omega (arith, r.both.rows, t.times.output.next))
          (omega (arith, r.both.chars, t.text.output.next))
          (subst (λ (w : ℕ). has_room_behind long w ≡ true) m r.closings);
    }

pub stops_decided : StopsDecided
stops_decided = record {
  lines = λ setting. taken_alike (TakesLines setting) room_at setting (decides setting);
  lines_as = λ setting format.
      taken_alike (TakesAs setting format) (RoomIn (format_of format)) setting (decides_as setting format);
}
