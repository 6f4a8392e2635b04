-- Lines that were taken, passed over by `skip_lines` and read by `read_line`: whole lines of one text, and as many, are
-- the same characters.
use Prim.Native.Nat.{ℕ, ◌+◌, ◌≤◌, ◌<◌}
use native.Mathlib.Omega.{arith}
use mathlib.Core.Path.{◌≡◌, refl, sym, ap, ap₂, ◌∙◌}
use mathlib.Core.Bool.{Bool, true, false, cond, false≢true}
use mathlib.Core.List.{List, [], ◌∷◌, ◌++◌, map, append_assoc, append-nil}
use lib.Dec.{eqb, ltb}
use lib.ListN.{length, get_or, take, drop, take-append-drop, length-take, length-drop}
use lib.Seq.{take-add, take-take, length-take-le}
use borrow.Author.Tests.{ltb-true, ltb-false}
use Rattle.base_bytes.specs.Bytes.{index_of}
use Rattle.base_lists.proofs.Tests.{by_test}
use Rattle.base_lists.proofs.Padded.{take-padded}
use Rattle.text_lines.specs.Ascii.{newline}
use Rattle.text_lines.specs.Reading.{Reading, reception, bad, line_reading, Front, front_of, line_of, bytes_in}
use Rattle.text_lines.proofs.Starts.{by_cases}
use Rattle.text_program.specs.Lines.{Program, prepend, lines_of}
use Rattle.text_program.specs.Chunks.{at_line_start, joined}
use Rattle.text_program.specs.Collect.{Phase, over, collect}
use Rattle.text_program.specs.Buffer.{is_unended}
use Rattle.text_program.proofs.Segments.{open_before, open_whole, up_to_newline}
use Rattle.text_collect.specs.Session.{Receiver, model_collector}
use Rattle.text_collect.specs.Rows.{row_times, line_ticks}
use Rattle.text_collect.specs.Formats.{collect_in}
use Rattle.c_collector.specs.State.{Arrays}
use Rattle.c_lines.specs.Calls.{line_number, line_values, SkippedTo, Skipped}
use Rattle.c_lines.specs.Formats.{format_of}
use Rattle.history_archived.specs.Runs.{LinesCall, used_by, lines_by, TakesLines, TakesAs, GoesOn, IsRun, used_in}
use Rattle.history_archived.specs.Places.{IsFrom, Passes, passed, skip, BeginsAt, here, again, Walks, ended, next}
use Rattle.history_archived.specs.Places.{Covers, RestartsCover, SkipsAsTaken, LineRead, IsRead, AreRead, none, one}
use Rattle.history_archived.specs.Places.{line_by, said_by, ReadAlike, ReadsAgree, NoneRead}
use Rattle.history_archived.proofs.Newlines.{newlines, is_whole, newlines_append, whole_append, ticks-count}
use Rattle.history_archived.proofs.Newlines.{fed_whole, open_none, same_front}
use Rattle.history_archived.proofs.Runs.{phase, Gave, gave, gave_as, counted}

-- ---- a part of a log

-- u characters of a text that was read from a place on
record Part (log : List ℕ) (place u : ℕ) (text : List ℕ) : Type 0 where
  long : place + u ≤ length log
  split : take (place + u) log ≡ take place log ++ take u text

part : (log : List ℕ) (place u : ℕ) (text : List ℕ) → place ≤ length log → IsFrom log place text → u ≤ length text
    → Part log place u text
part log place u text h from few =
    let rest = drop place log in
    let n : length text ≤ length rest = omega (arith, ap length from, length-take (length text) rest) in
    let same : take u text ≡ take u rest = ap (take u) from ∙ take-take u (length text) rest few in
    record {
      long = omega (arith, n, length-drop place log);
      split = take-add place u log ∙ ap (λ (l : List ℕ). take place log ++ l) (sym same);
    }

-- ---- lines that were passed over

record Gone (log : List ℕ) (place left end : ℕ) : Type 0 where
  text : List ℕ
  long : end ≤ length log
  split : take end log ≡ take place log ++ text
  whole : is_whole true text ≡ true
  count : newlines text ≡ left

skipped_whole : {input : List ℕ} {most used lines : ℕ} → SkippedTo input most used lines
    → is_whole true (take used input) ≡ true
skipped_whole {input} {most} {used} {lines} k = fed_whole line_ticks over over (take used input) k.whole

skipped-count : {input : List ℕ} {most used lines : ℕ} → SkippedTo input most used lines
    → newlines (take used input) ≡ lines
skipped-count {input} {most} {used} {lines} k = sym (k.ticks ∙ ticks-count (take used input) (at_line_start over))

gone : (log : List ℕ) {place left end : ℕ} → place ≤ length log → Passes log place left end → Gone log place left end
unfolding newlines is_whole
gone log {place} {left} {end} h (passed z) = record {
  text = [];
  long = h;
  split = sym (append-nil (take place log));
  whole = refl;
  count = sym z;
}
gone log h (skip {place} {left} {end} {text} {done'} from k more) =
    let s = k.skipped in
    let u = get_or done' 0 0 in
    let p = part log place u text h from s.within in
    let g = gone log p.long more in
    record {
      text = take u text ++ g.text;
      long = g.long;
      split =
          g.split ∙ ap (λ (l : List ℕ). l ++ g.text) p.split
          ∙ append_assoc (take place log) (take u text) g.text;
      whole = whole_append (take u text) g.text true (skipped_whole s) g.whole;
      count = newlines_append (take u text) g.text ∙ omega (arith, skipped-count s, g.count, s.few);
    }

-- ---- where a call begins

-- the text up to there
begun : (log : List ℕ) (place lines start : ℕ) → place ≤ length log → is_whole true (take place log) ≡ true
    → newlines (take place log) ≡ lines → BeginsAt log place lines start
    → (start ≤ length log) × (take start log ≡ take place log)
begun log place lines start h w n here = (h, refl)
begun log place lines start h w n (again k) =
    let g = gone log (omega arith) k in
    let is : take start log ≡ g.text = g.split in
    let e = take-append-drop start log ∙ sym (take-append-drop place log) in
    let same =
    same_front (take start log) (take place log) (drop start log) (drop place log) true e (rw is g.whole) w
    (ap newlines is ∙ g.count ∙ sym n)
    in
    (g.long, same)

-- ---- calls

module _ (Is : LinesCall → Type 0) (setting : ℕ) (p : Program (Phase Receiver))
    (one : (c : LinesCall) → Is c → Gave p setting c)
    (inside : (c : LinesCall) → Is c → get_or c.done' 0 0 ≤ length c.input) where
  call_whole : (c : LinesCall) → Is c → is_whole true (used_by c) ≡ true
  call_whole c k =
      fed_whole row_times (phase setting c.after) (phase setting c.before) (used_by c) (one c k).times.state

  pub call-count : (c : LinesCall) → Is c → lines_by c ≡ newlines (used_by c)
  call-count c k = (one c k).ticks ∙ ticks-count (used_by c) (at_line_start (phase setting c.before))

  walked : (log : List ℕ) (cs : List LinesCall) (a : Arrays) {place lines end : ℕ} → place ≤ length log
      → is_whole true (take place log) ≡ true → newlines (take place log) ≡ lines
      → IsRun GoesOn Is a cs → Walks log place lines cs end → take end log ≡ take place log ++ used_in cs
  unfolding IsRun joined
  walked log [] a {place} {lines} {end} h w n r ended = sym (append-nil (take place log))
  walked log (c ∷ cs) a h w n r (next {place} {lines} {start} {end} begins from more) =
      let k = r.1 in
      let u = get_or c.done' 0 0 in
      let b = begun log place lines start h w n begins in
      let q = part log start u c.input b.0 from (inside c k) in
      let is : take (start + u) log ≡ take place log ++ used_by c =
      q.split ∙ ap (λ (l : List ℕ). l ++ used_by c) b.1
      in
      let whole : is_whole true (take (start + u) log) ≡ true =
      rw is (whole_append (take place log) (used_by c) true w (call_whole c k))
      in
      let count : newlines (take (start + u) log) ≡ lines + lines_by c =
      ap newlines is ∙ newlines_append (take place log) (used_by c) ∙ ap₂ ◌+◌ n (sym (call-count c k))
      in
      walked log cs c.after q.long whole count r.2 more ∙ ap (λ (l : List ℕ). l ++ used_in cs) is
      ∙ append_assoc (take place log) (used_by c) (used_in cs)

  covers : Covers Is
  unfolding is_whole newlines
  covers log a cs end r w = sym (walked log cs a (omega arith) refl refl r w)

  run_whole : (cs : List LinesCall) (a : Arrays) → IsRun GoesOn Is a cs → is_whole true (used_in cs) ≡ true
  unfolding IsRun joined is_whole
  run_whole [] a r = refl
  run_whole (c ∷ cs) a r =
      whole_append (used_by c) (used_in cs) true (call_whole c r.1) (run_whole cs c.after r.2)

pub inside : (setting : ℕ) (c : LinesCall) → TakesLines setting c → get_or c.done' 0 0 ≤ length c.input
inside setting c k = (k.taken refl).within

pub inside_as : (setting format : ℕ) (c : LinesCall) → TakesAs setting format c
    → get_or c.done' 0 0 ≤ length c.input
inside_as setting format c k = (k.taken refl).within

pub restarts_cover : RestartsCover
restarts_cover = record {
  lines = λ setting. covers (TakesLines setting) setting (collect model_collector) (gave setting) (inside setting);
  lines_as = λ setting format.
      covers (TakesAs setting format) setting (collect_in (format_of format)) (gave_as setting format)
      (inside_as setting format);
}

-- ---- one call

-- whole lines of an input, at most so many; where there are fewer, no further line has ended
record Stops (input : List ℕ) (most used lines : ℕ) : Type 0 where
  within : used ≤ length input
  whole : is_whole true (take used input) ≡ true
  count : newlines (take used input) ≡ lines
  few : lines ≤ most
  rest : lines < most → is_unended (drop used input) ≡ true

stops_skip : {input : List ℕ} {most used lines : ℕ} → SkippedTo input most used lines → Stops input most used lines
stops_skip k =
    record { within = k.within; whole = skipped_whole k; count = skipped-count k; few = k.few; rest = k.rest }

module _ {input : List ℕ} {most : ℕ} where
  all_lines : {used lines : ℕ} → Stops input most used lines → newlines input ≡ lines + newlines (drop used input)
  all_lines {used} {lines} k =
      ap newlines (sym (take-append-drop used input)) ∙ newlines_append (take used input) (drop used input)
      ∙ ap (λ (n : ℕ). n + newlines (drop used input)) k.count

  no_fewer : {u n v m : ℕ} → Stops input most u n → Stops input most v m → n < m → ⊥
  no_fewer {u} {n} {v} {m} k l h =
      let z = open_none (drop u input) (k.rest (omega (arith, l.few))) in
      omega (arith, all_lines k, all_lines l, z)

  stops_same : {u n v m : ℕ} → Stops input most u n → Stops input most v m → (u ≡ v) × (n ≡ m)
  stops_same {u} {n} {v} {m} k l =
      by_test (ltb n m) (λ t. absurd (no_fewer k l (ltb-true n m t)))
      (λ t. by_test (ltb m n) (λ s. absurd (no_fewer l k (ltb-true m n s)))
      (λ s.
      let e : n ≡ m = omega (arith, ltb-false n m t, ltb-false m n s) in
      let same =
      same_front (take u input) (take v input) (drop u input) (drop v input) true
      (take-append-drop u input ∙ sym (take-append-drop v input)) k.whole l.whole
      (k.count ∙ e ∙ sym l.count)
      in
      let long = ap length same in
      (omega (arith, long, length-take-le u input k.within, length-take-le v input l.within), e)))

two : (l : List ℕ) → length l ≡ 2 → l ≡ get_or l 0 0 ∷ get_or l 1 0 ∷ []
two [] e = absurd (omega arith)
two (a ∷ []) e = absurd (omega arith)
two (a ∷ b ∷ []) e = refl
two (a ∷ b ∷ c ∷ l) e = absurd (omega arith)

as_taken : {input done' : List ℕ} {most used lines : ℕ} → Stops input most used lines → Skipped input most done'
    → done' ≡ used ∷ lines ∷ []
as_taken {input} {done'} {most} {used} {lines} k s =
    let e = stops_same (stops_skip s.skipped) k in
    two done' s.long ∙ ap₂ (λ (a b : ℕ). a ∷ b ∷ []) e.0 e.1

pub skips_as_taken : SkipsAsTaken
skips_as_taken = record {
  lines = λ setting c done' k room s.
      let t = k.taken refl in
      let w = call_whole (TakesLines setting) setting (collect model_collector) (gave setting) (inside setting) c k in
      let n = call-count (TakesLines setting) setting (collect model_collector) (gave setting) (inside setting) c k in
      as_taken
      (record {
        within = t.within;
        whole = w;
        count = sym n;
        few = t.few;
        rest = λ h. t.rest h room.rows room.text;
      })
      s;
  lines_as = λ setting format c done' k room closes s.
      let t = k.taken refl in
      let p = collect_in (format_of format) in
      let w = call_whole (TakesAs setting format) setting p (gave_as setting format) (inside_as setting format) c k in
      let n = call-count (TakesAs setting format) setting p (gave_as setting format) (inside_as setting format) c k in
      as_taken
      (record {
        within = t.within;
        whole = w;
        count = sym n;
        few = t.few;
        rest = λ h. t.rest h room.rows room.text closes;
      })
      s;
}

-- ---- line by line

-- a line in front of others
line-more : (l x : List ℕ) → is_unended l ≡ true → lines_of (l ++ (newline ∷ x)) ≡ l ∷ lines_of x
unfolding lines_of is_unended
line-more [] x o = refl
line-more (c ∷ l) x o = go (eqb c newline) o (line-more l x)
  where
    go : (t : Bool) → cond t false (is_unended l) ≡ true
        → (is_unended l ≡ true → lines_of (l ++ (newline ∷ x)) ≡ l ∷ lines_of x)
        → cond t ([] ∷ lines_of (l ++ (newline ∷ x))) (prepend c (lines_of (l ++ (newline ∷ x)))) ≡ (c ∷ l) ∷ lines_of x
    go true o ih = absurd (false≢true o)
    go false o ih = ap (prepend c) (ih o)

-- what a call of `read_line` says that read a line
record SaidLine (r : LineRead) (l : List ℕ) : Type 0 where
  chars : line_by r ≡ l ++ (newline ∷ [])
  unended : is_unended l ≡ true
  says : line_reading l ≡ said_by r

-- by the front of its input
abbrev number_for : Front → ℕ
number_for f = line_number (line_of f)

abbrev told_for : Front → List ℕ
told_for f = line_values (line_of f)

abbrev reading_for : Front → Reading
reading_for f =
    cond (eqb (number_for f) 0) (reception (get_or (told_for f) 0 0) (take (get_or (told_for f) 1 0) (bytes_in f))) bad

record SaidFor (input : List ℕ) (f : Front) : Type 0 where
  used : get_or (told_for f) 2 0 ≡ index_of newline input + 1
  there : index_of newline input < length input
  reading : line_reading (take (index_of newline input) input) ≡ reading_for f

said_for : (input : List ℕ) → (number_for (front_of input) ≡ 4 → ⊥) → SaidFor input (front_of input)
said_for input =
    let n = index_of newline input in
    by_cases input (λ f. (number_for f ≡ 4 → ⊥) → SaidFor input f)
    (λ h some. absurd (some refl))
    (λ h q some. record { used = refl; there = h; reading = q })
    (λ t bs h q some. record { used = refl; there = h; reading = q ∙ rw (take-padded 64 bs) })

read_said : (r : LineRead) → IsRead r → SaidLine r (take (index_of newline r.input) r.input)
read_said r k =
    let input = r.input in
    let f = front_of input in
    let c = k.call in
    let n = index_of newline input in
    let s = said_for input (λ z. k.some (c.answer ∙ z)) in
    let used : get_or r.told 2 0 ≡ n + 1 = ap (λ (l : List ℕ). get_or l 2 0) c.told ∙ s.used in
    let at : n + 1 ≡ 0 + n + 1 = omega arith in
    let up : take (n + 1) input ≡ take n input ++ (newline ∷ []) =
    ap (λ (m : ℕ). take m input) at ∙ up_to_newline input 0 n refl s.there
    in
    record {
      chars = ap (λ (m : ℕ). take m input) used ∙ up;
      unended = open_before input;
      says = s.reading ∙ rw (c.answer, c.told, c.written);
    }

record ReadOver (rs : List LineRead) : Type 0 where
  whole : is_whole true (joined (map line_by rs)) ≡ true
  count : newlines (joined (map line_by rs)) ≡ length rs
  says : map line_reading (lines_of (joined (map line_by rs))) ≡ map said_by rs

one_newline : (l : List ℕ) → is_unended l ≡ true → newlines (l ++ (newline ∷ [])) ≡ 1
unfolding newlines
one_newline l o = newlines_append l (newline ∷ []) ∙ ap (λ (n : ℕ). n + 1) (open_none l o)

line_whole : (l : List ℕ) (b : Bool) → is_whole b (l ++ (newline ∷ [])) ≡ true
unfolding is_whole
line_whole [] b = refl
line_whole (c ∷ l) b = line_whole l (eqb c newline)

read_over : {rs : List LineRead} → AreRead rs → ReadOver rs
unfolding joined is_whole newlines lines_of
read_over none = record { whole = refl; count = refl; says = refl }
read_over (one {r} {rs} k ks) =
    let l = take (index_of newline r.input) r.input in
    let s = read_said r k in
    let more = read_over ks in
    let x = joined (map line_by rs) in
    let is : line_by r ++ x ≡ l ++ (newline ∷ x) =
    ap (λ (y : List ℕ). y ++ x) s.chars ∙ append_assoc l (newline ∷ []) x in
    let lines : lines_of (line_by r ++ x) ≡ l ∷ lines_of x = ap lines_of is ∙ line-more l x s.unended in
    let one_line : newlines (line_by r) ≡ 1 = ap newlines s.chars ∙ one_newline l s.unended in
    record {
      whole = whole_append (line_by r) x true (rw s.chars (line_whole l true)) more.whole;
      count = newlines_append (line_by r) x ∙ omega (arith, one_line, more.count);
      says = ap (map line_reading) lines ∙ ap₂ ◌∷◌ s.says more.says;
    }

module _ (Is : LinesCall → Type 0) (setting : ℕ) (p : Program (Phase Receiver))
    (one : (c : LinesCall) → Is c → Gave p setting c)
    (inside : (c : LinesCall) → Is c → get_or c.done' 0 0 ≤ length c.input) where
  read_alike : ReadAlike Is
  read_alike a cs rs rest rest' r k e n =
      let o = read_over k in
      let same =
      same_front (used_in cs) (joined (map line_by rs)) rest rest' true e (run_whole Is setting p one inside cs a r)
      o.whole (sym (counted Is setting p one cs a r) ∙ n ∙ sym o.count)
      in
      ap (λ (x : List ℕ). map line_reading (lines_of x)) same ∙ o.says

pub reads_agree : ReadsAgree
reads_agree = record {
  lines = λ setting. read_alike (TakesLines setting) setting (collect model_collector) (gave setting) (inside setting);
  lines_as = λ setting format.
      read_alike (TakesAs setting format) setting (collect_in (format_of format)) (gave_as setting format)
      (inside_as setting format);
}

none_for : (input : List ℕ) → 4 ≡ number_for (front_of input) → length input ≤ index_of newline input
none_for input =
    let n = index_of newline input in
    by_cases input (λ f. 4 ≡ number_for f → length input ≤ n)
    (λ h z. h)
    (λ h q z. absurd (omega arith))
    (λ t bs h q z. absurd (omega arith))

pub none_read : NoneRead
none_read input bytes done k = open_whole input (none_for input k.answer)
