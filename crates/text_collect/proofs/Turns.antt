-- Lines taken one after the other with the rows that an archive keeps of them, by any program over the same lines: none, a BAD one, a
-- reception.
use mathlib.Core.Path.{◌≡◌, refl, sym, ap, ap₂, subst, ◌∙◌}
use mathlib.Core.Bool.{Bool, true, false, cond, not, ◌||◌}
use mathlib.Core.List.{List, [], ◌++◌}
use Prim.Native.Nat.{ℕ, ◌+◌, ◌-◌, ◌*◌, ◌<◌, ◌≤◌}
use native.Mathlib.Omega.{arith}
use native.Mathlib.Nat.{sub_self}
use lib.Dec.{eqb, leb, ltb}
use borrow.Author.Tests.{leb-true, ltb-true, ltb-false}
use lib.ListN.{length, take, drop, replicate, length-take, length-drop, length-replicate}
use lib.Seq.{take-nil, take-take, take-add, length-take-le}
use Rattle.base_lists.proofs.Tests.{by_test}
use Rattle.base_bytes.specs.Bytes.{index_of}
use Rattle.collector_model.specs.View.{View}
use Rattle.collector_model.specs.Step.{StepOutcome}
use Rattle.collector_state.specs.Collector.{Columns, columns_after}
use Rattle.collector_state.specs.Admission.{Tested}
use Rattle.base_buffers.specs.Printed.{Printed}
use Rattle.text_lines.specs.Ascii.{newline}
use Rattle.text_lines.specs.Reading.{line_limit, line_reading, reception, bad}
use Rattle.text_program.specs.Lines.{Program}
use Rattle.text_program.specs.Chunks.{Position, Bounded, at_line_start, feed}
use Rattle.text_lines.proofs.Long.{fronts_tell}
use Rattle.text_program.specs.Collect.{Phase, starting, running, over, next_phase}
use Rattle.text_program.proofs.Limit.{bounded}
use Rattle.collector_closings.specs.Cells.{closed_cells}
use Rattle.text_program.specs.Buffer.{is_unended, Fed}
use Rattle.text_program.proofs.Pieces.{feed_append}
use Rattle.text_program.proofs.Segments.{open_before, open_front, feed_open}
use Rattle.text_program.proofs.Takes.{fed_none}
use Rattle.text_collect.specs.Printed.{reception_at}
use Rattle.text_collect.specs.Stored.{given_by, BeforeEach}
use Rattle.text_collect.specs.Elements.{columns_in, held, line_columns, ElementsAfter}
use Rattle.text_collect.specs.Heard.{line_closings, is_asked, has_room_behind, has_room}
use Rattle.text_collect.specs.Session.{Receiver, model_collector, taken_at, running_at}
use Rattle.text_collect.specs.Rows.{row_times, row_records, line_ticks, stored_time, stored_record}
use Rattle.text_collect.proofs.Taking.{line_at, same_length}
use Rattle.text_collect.proofs.Storing.{printed_none, ticks_bounded, tick, times_bounded, records_bounded, rows-line, bad_next, bad-times, bad-records, said_next, said-times, said-records}

-- the lines up to `at` were taken: what they give stands before `to`, n and k, and the test of the state says what it said
pub record Taken (p : Program (Phase Receiver)) (Ready : List ℕ → Type 0) (asked fit : Bool) (setting : ℕ)
    (input : List ℕ) (most : ℕ) (v₀ : View) (a₀ : Columns) (out₀ moments₀ rows₀ closed₀ : List ℕ) (v : View)
    (a : Columns)
    (out moments rows closed : List ℕ) (at to n k left : ℕ) : Type 0 where
  pub inside : at ≤ length input
  pub room : to ≤ length out
  pub long : length out ≡ length out₀
  pub tested : Tested fit v
  pub elements : ElementsAfter (running_at setting v₀) a₀ (take at input) (running_at setting v) a
  pub fed : Fed p (running_at setting v₀) (take at input) out₀ (running_at setting v) out to
  pub few : left ≤ most
  pub due : BeforeEach Ready (running_at setting v₀) input at
  pub places : n ≤ length moments
  pub same_moments : length moments ≡ length moments₀
  pub same_rows : length rows ≡ length rows₀
  pub sized : length rows₀ ≡ 23 * length moments₀
  pub times : Fed row_times (running_at setting v₀) (take at input) moments₀ (running_at setting v) moments n
  pub records : Fed row_records (running_at setting v₀) (take at input) rows₀ (running_at setting v) rows (23 * n)
  pub spare : 32 * k ≤ length closed
  pub same_closed : length closed ≡ length closed₀
  pub closes : Fed (line_closings asked) (running_at setting v₀)
      (take at input) closed₀ (running_at setting v) closed (32 * k)
  pub ticks : Fed line_ticks (running_at setting v₀) (take at input) (replicate most 0) (running_at setting v)
      (replicate most 0) (most - left)

-- ---- what a line makes of the columns

columns_front : (s : Phase Receiver) (l : List ℕ) (a : Columns) → columns_in s (take line_limit l) a ≡ columns_in s l a
columns_front starting l a = refl
columns_front (running c) l a = rw (fronts_tell l).reading
columns_front over l a = refl

columns_bounded : Bounded line_columns line_limit
columns_bounded = record {
  next = λ h l. ap₂ held ((bounded model_collector).next h.phase l) (columns_front h.phase l h.columns);
  text = λ h l. refl;
}

module _ (c : Receiver) (l : List ℕ) (a : Columns) where
  bad-columns : line_reading l ≡ bad → columns_in (running c) l a ≡ a
  bad-columns e = rw e

  said-columns : {t : ℕ} {bs : List ℕ} → line_reading l ≡ reception t bs
      → columns_in (running c) l a ≡ columns_after c.view (reception_at t bs) a
  said-columns e = rw e

-- ---- what a line closes

nothing : (b : Bool) → cond {A = List ℕ} b [] [] ≡ []
nothing true = refl
nothing false = refl

module _ (asked : Bool) where
  closed_front : (s : Phase Receiver) (l : List ℕ)
      → (line_closings asked).text s (take line_limit l) ≡ (line_closings asked).text s l
  closed_front starting l = refl
  closed_front (running c) l = rw (fronts_tell l).reading
  closed_front over l = refl

  pub closings_bounded : Bounded (line_closings asked) line_limit
  closings_bounded = record { next = λ s l. (bounded model_collector).next s l; text = closed_front }

  module _ (c : Receiver) (l : List ℕ) where
    bad-closes : line_reading l ≡ bad → (line_closings asked).text (running c) l ≡ []
    bad-closes e = rw e (nothing asked)

    said-closes : {t : ℕ} {bs : List ℕ} → line_reading l ≡ reception t bs
        → (line_closings asked).text (running c) l ≡ cond asked (closed_cells c.view (reception_at t bs)) []
    said-closes e = rw e

-- ---- before each line there was room

-- a shorter front, behind a text that is whole lines, that is whole lines too has nothing of the next line
nothing_of : (s₀ s s' : Phase Receiver) (input : List ℕ) (at n : ℕ)
    → feed row_times line_limit (at_line_start s₀) (take at input) ≡ at_line_start s
    → at ≤ n → n - at ≤ index_of newline (drop at input)
    → index_of newline (drop at input) < length (drop at input)
    → feed row_times line_limit (at_line_start s₀) (take n input) ≡ at_line_start s' → n ≡ at
nothing_of s₀ s s' input at n here h short there f =
    let rest = drop at input in
    let k = index_of newline rest in
    let j = n - at in
    let l = take j rest in
    let is : n ≡ at + j = omega arith in
    let o : is_unended l ≡ true =
    subst (λ (x : List ℕ). is_unended x ≡ true) (take-take j k rest short)
    (open_front j (take k rest) (open_before rest))
    in
    let split : take n input ≡ take at input ++ l = ap (λ (m : ℕ). take m input) is ∙ take-add at j input in
    let led : feed row_times line_limit (at_line_start s₀) (take n input)
    ≡ feed row_times line_limit (at_line_start s) l =
    ap (feed row_times line_limit (at_line_start s₀)) split
    ∙ feed_append row_times line_limit (take at input) l (at_line_start s₀)
    ∙ ap (λ (q : Position (Phase Receiver)). feed row_times line_limit q l) here
    in
    let kept = rw (take-nil {A = ℕ} line_limit) at (feed_open row_times line_limit l [] s o) in
    let none : take line_limit l ≡ [] = ap (λ (q : Position (Phase Receiver)). q.line) (sym kept ∙ sym led ∙ f) in
    let empty = ap length none in
    omega (arith, empty, length-take line_limit l, length-take-le j rest (omega arith))

due_next : (Ready : List ℕ → Type 0) (s₀ s : Phase Receiver) (input : List ℕ) (at used : ℕ)
    → feed row_times line_limit (at_line_start s₀) (take at input) ≡ at_line_start s
    → (index_of newline (drop at input) < length (drop at input)) × (used ≡ index_of newline (drop at input) + 1)
    → Ready (take at input) → BeforeEach Ready s₀ input at → BeforeEach Ready s₀ input (at + used)
due_next Ready s₀ s input at used here e ready due n s' h f =
    by_test (ltb n at) (λ t. due n s' (ltb-true n at t) f)
    (λ t.
    let q = nothing_of s₀ s s' input at n here (ltb-false n at t) (omega (arith, e.1)) e.0 f in
    subst (λ (m : ℕ). Ready (take m input)) (sym q) ready)

-- ---- lines

module _ (p : Program (Phase Receiver)) (b : Bounded p line_limit) {Ready : List ℕ → Type 0} (asked : Bool) where
  pub none_taken : {fit : Bool} {setting : ℕ} (input : List ℕ) (most : ℕ) {v : View} {a : Columns} (out : List ℕ)
      {moments rows closed : List ℕ} → Tested fit v → length rows ≡ 23 * length moments
      → Taken p Ready asked fit setting input most v a out moments rows closed v a out moments rows closed 0 0 0 0 most
  none_taken input most out t e =
      record {
        inside = omega arith;
        room = omega arith;
        long = refl;
        tested = t;
        elements = fed_none line_columns columns_bounded _ _;
        fed = fed_none p b _ _;
        few = omega arith;
        due = λ n s h f. absurd (omega arith);
        places = omega arith;
        same_moments = refl;
        same_rows = refl;
        sized = e;
        times = fed_none row_times times_bounded _ _;
        records = fed_none row_records records_bounded _ _;
        spare = omega arith;
        same_closed = refl;
        closes = fed_none (line_closings asked) (closings_bounded asked) _ _;
        ticks = rw (sub_self most) (fed_none line_ticks ticks_bounded _ _);
      }

  -- one line more, which has `used` characters with its newline
  module _ (nexts : (s : Phase Receiver) (l : List ℕ) → p.next s l ≡ next_phase model_collector s l)
      {fit : Bool} {setting : ℕ} (input : List ℕ) {most : ℕ} {v₀ v : View} {a₀ a : Columns}
      {out₀ moments₀ rows₀ closed₀ out moments rows closed : List ℕ} {at to n k left : ℕ}
      (i : Taken p Ready asked fit setting input most v₀ a₀ out₀ moments₀ rows₀ closed₀ v a out moments rows closed
      at to n k left)
      (used : ℕ)
      (e : (index_of newline (drop at input) < length (drop at input)) × (used ≡ index_of newline (drop at input) + 1))
      (some : left ≡ 0 → ⊥) (ready : Ready (take at input)) where
    within : at + used ≤ length input
    within = omega (arith, e.0, e.1, length-drop at input, i.inside)

    still-due : BeforeEach Ready (running_at setting v₀) input (at + used)
    still-due =
        due_next Ready (running_at setting v₀) (running_at setting v) input at used i.times.state e ready i.due

    ticked : most - (left - 1) ≤ length (replicate {A = ℕ} most 0)
    ticked = simp length-replicate (omega (arith, i.few))

    pub bad-taken : {text out' : List ℕ} {longest r : ℕ} → line_reading (line_at input at) ≡ bad
        → p.text (running_at setting v) (line_at input at) ≡ text → Printed out to text longest out' r → r ≤ length out
        → Taken p Ready asked fit setting input most v₀ a₀ out₀ moments₀ rows₀ closed₀ v a out' moments rows closed
        (at + used) r n k (left - 1)
    bad-taken u x w fits =
        let same = same_length w in
        let here : Receiver = record { setting = setting; view = v } in
        let next = bad_next here (line_at input at) u in
        record {
          inside = within;
          room = omega arith;
          long = same ∙ i.long;
          tested = i.tested;
          elements =
              rows-line line_columns columns_bounded input at used i.elements e i.inside (omega arith) refl
              (ap₂ held next (bad-columns here (line_at input at) a u)) (printed_none [] 0 0);
          fed = rows-line p b input at used i.fed e i.inside (omega (arith, i.long)) x (nexts _ _ ∙ next) w;
          few = omega (arith, i.few);
          due = still-due;
          places = i.places;
          same_moments = i.same_moments;
          same_rows = i.same_rows;
          sized = i.sized;
          times =
              rows-line row_times times_bounded input at used i.times e i.inside
              (omega (arith, i.places, i.same_moments)) (bad-times here (line_at input at) u) next
              (printed_none moments n 0);
          records =
              rows-line row_records records_bounded input at used i.records e i.inside
              (omega (arith, i.places, i.same_moments, i.sized)) (bad-records here (line_at input at) u) next
              (printed_none rows (23 * n) 0);
          spare = i.spare;
          same_closed = i.same_closed;
          closes =
              rows-line (line_closings asked) (closings_bounded asked) input at used i.closes e i.inside
              (omega (arith, i.spare, i.same_closed)) (bad-closes asked here (line_at input at) u) next
              (printed_none closed (32 * k) 0);
          ticks =
              rows-line line_ticks ticks_bounded input at used i.ticks e i.inside ticked refl next
              (tick most left i.few some);
        }

    pub said-taken : {t : ℕ} {bs text out' moments' rows' closed' : List ℕ} {longest r n' k' : ℕ} (o : StepOutcome)
        {a' : Columns} → line_reading (line_at input at) ≡ reception t bs → o ≡ taken_at v t bs
        → a' ≡ columns_after v (reception_at t bs) a → Tested fit o.next
        → p.text (running_at setting v) (line_at input at) ≡ text → Printed out to text longest out' r → r ≤ length out
        → n < length moments → Printed moments n (stored_time o.answer t bs) 1 moments' n'
        → Printed rows (23 * n) (stored_record o.answer bs) 23 rows' (23 * n')
        → Printed closed (32 * k) (cond asked (closed_cells v (reception_at t bs)) []) 2048 closed' (32 * k')
        → 32 * k' ≤ length closed
        → Taken p Ready asked fit setting input most v₀ a₀ out₀ moments₀ rows₀ closed₀ o.next a' out' moments' rows'
        closed' (at + used) r n' k' (left - 1)
    said-taken o u s c t x w fits free d f g spare =
        let same = same_length w in
        let here : Receiver = record { setting = setting; view = v } in
        let next = said_next here (line_at input at) o u s in
        record {
          inside = within;
          room = omega arith;
          long = same ∙ i.long;
          tested = t;
          elements =
              rows-line line_columns columns_bounded input at used i.elements e i.inside (omega arith) refl
              (ap₂ held next (said-columns here (line_at input at) a u ∙ sym c)) (printed_none [] 0 0);
          fed = rows-line p b input at used i.fed e i.inside (omega (arith, i.long)) x (nexts _ _ ∙ next) w;
          few = omega (arith, i.few);
          due = still-due;
          places = omega (arith, d.short, same_length d, free);
          same_moments = same_length d ∙ i.same_moments;
          same_rows = same_length f ∙ i.same_rows;
          sized = i.sized;
          times =
              rows-line row_times times_bounded input at used i.times e i.inside
              (omega (arith, d.short, free, i.same_moments)) (said-times here (line_at input at) o u s) next d;
          records =
              rows-line row_records records_bounded input at used i.records e i.inside
              (omega (arith, d.short, free, i.same_moments, i.sized))
              (said-records here (line_at input at) o u s) next f;
          spare = omega (arith, same_length g);
          same_closed = same_length g ∙ i.same_closed;
          closes =
              rows-line (line_closings asked) (closings_bounded asked) input at used i.closes e i.inside
              (omega (arith, i.same_closed)) (said-closes asked here (line_at input at) u) next g;
          ticks =
              rows-line line_ticks ticks_bounded input at used i.ticks e i.inside ticked refl next
              (tick most left i.few some);
        }

-- ---- room for what one line more may close

cond-nothing : (text : List ℕ) {closed closed' : List ℕ} {at most r : ℕ}
    → Printed closed at (cond false text []) most closed' r → r ≡ at
cond-nothing text g = omega (arith, g.next)

pub room-left : (k r : ℕ) (text : List ℕ) {closed closed' : List ℕ}
    → has_room (length closed) k ≡ true → 32 * k ≤ length closed
    → Printed closed (32 * k) (cond (is_asked closed) text []) 2048 closed' (32 * r) → 32 * r ≤ length closed
room-left k r text {closed} {closed'} h s g = go (eqb (length closed) 0) h g
  where
    go : (none : Bool) → none || leb (32 * k + 2048) (length closed) ≡ true
        → Printed closed (32 * k) (cond (not none) text []) 2048 closed' (32 * r) → 32 * r ≤ length closed
    go true h g = omega (arith, cond-nothing text g)
    go false h g = omega (arith, g.short, leb-true (32 * k + 2048) (length closed) h)

-- it is there behind what the lines before close
pub room_there : {p : Program (Phase Receiver)} {s s' : Phase Receiver} {x closed₀ closed : List ℕ} (k : ℕ)
    → Fed p s x closed₀ s' closed (32 * k) → length closed ≡ length closed₀ → has_room (length closed) k ≡ true
    → has_room_behind (length closed₀) (given_by p s x) ≡ true
room_there {p} {s} {s'} {x} {closed₀} {closed} k f e h =
    let is : 32 * k ≡ given_by p s x = omega (arith, f.output.next) in
    subst (λ (m : ℕ). has_room_behind m (given_by p s x) ≡ true) e
    (subst (λ (m : ℕ). has_room_behind (length closed) m ≡ true) is h)

-- a buffer of the same length asks for the same
pub asked_same : (text text' closed₀ : List ℕ) {closed closed' : List ℕ} {at most r : ℕ} → text ≡ text'
    → length closed ≡ length closed₀ → Printed closed at (cond (is_asked closed) text []) most closed' r
    → Printed closed at (cond (is_asked closed₀) text' []) most closed' r
asked_same text text' closed₀ {closed} {closed'} {at} {most} {r} f e g =
    subst (λ (n : ℕ). Printed closed at (cond (not (eqb n 0)) text' []) most closed' r) e
    (subst (λ (t : List ℕ). Printed closed at (cond (is_asked closed) t []) most closed' r) f g)
