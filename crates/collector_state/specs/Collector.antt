-- The view of a collector's state in arrays, and what `take` gives (document 01, "Merging").
use Rattle.std.specs.Prelude.{ℕ, ◌+◌, ◌-◌, ◌*◌, length, get_or, take, drop, set, ◌≡◌, Bool, false, cond, Result, Ok, Err}
use mathlib.Core.List.{List, [], ◌++◌, map, flatten}
use Rattle.base_refusal.specs.Number.{number_of}
use Rattle.base_refusal.specs.declared.Refusal.{Refusal}
use Rattle.base_lists.specs.Lists.{padded, up_from, last_index}
use Rattle.radio_erp1.specs.Subtelegram.{max_length}
use Rattle.base_buffers.specs.Buffer.{part, resized}
use Rattle.collector_model.specs.View.{Entry, View, Reception, capacity, capped, still_open, fresh}
use Rattle.collector_model.specs.Acceptable.{is_copy_of}
use Rattle.collector_state.specs.declared.Collector.{Collector}
use Rattle.collector_state.specs.declared.Held.{Held}
use Rattle.collector_state.specs.declared.Lent.{Lent}
use Rattle.collector_state.specs.declared.Summary.{Summary}
use Rattle.collector_model.specs.Answer.{Shown, is_kept, is_copy, is_accepted, is_received, shown_of}
use Rattle.collector_model.specs.Step.{StepOutcome, step}
use Rattle.collector_state.specs.declared.Taken.{Taken}

-- the arrays of the entries: entry i has element i of each; of the bytes, the 21 from 21 * i on
pub record Columns : Type 0 where
  pub times : List ℕ
  pub lens : List ℕ
  pub bytes : List ℕ
  pub copies : List ℕ

-- the columns of lent arrays
abbrev pub columns : List ℕ → List ℕ → List ℕ → List ℕ → Columns
columns times lens bytes copies = record { times = times; lens = lens; bytes = bytes; copies = copies }

-- the columns of a state that is lent, to be read and to be changed
abbrev pub columns_held : Held → Columns
columns_held s = columns s.times.now s.lens.now s.bytes.now s.copies.now

abbrev pub columns_lent : Lent → Columns
columns_lent s = columns s.times.now s.lens.now s.bytes.now s.copies.now

-- after a call the same four arrays are lent
pub record SameArrays (s s' : Lent) : Type 0 where
  pub times : s'.times.ghost_name ≡ s.times.ghost_name
  pub lens : s'.lens.ghost_name ≡ s.lens.ghost_name
  pub bytes : s'.bytes.ghost_name ≡ s.bytes.ghost_name
  pub copies : s'.copies.ghost_name ≡ s.copies.ghost_name

-- entry i: its bytes, time and number of copies. It has as many bytes as its length says, also if that is over 21.
abbrev pub entry_at : Columns → ℕ → Entry
entry_at a i = record {
  bytes = resized (get_or a.lens i 0) (part (max_length * i) max_length a.bytes);
  time = get_or a.times i 0;
  copies = get_or a.copies i 0;
}

-- the first `count` entries
unfoldable pub entries_at : Columns → ℕ → List Entry
entries_at a count = map (entry_at a) (up_from 0 count)

-- the view of columns and a summary: the entries that it counts, its latest time and its totals
abbrev pub view_in : Columns → Summary → View
view_in a s = record { latest = s.latest; totals = s.totals; entries = entries_at a s.count }

-- the columns of a state
abbrev pub columns_of : Collector → Columns
columns_of c = columns c.times c.lens c.bytes c.copies

-- the view of a state
unfoldable pub view_of : Collector → View
view_of c = view_in (columns_of c) c.summary

-- ---- a collector started fresh, or restored

-- the columns with these entries: zeros after the bytes of each, and after all of them
unfoldable pub columns_holding : List Entry → Columns
columns_holding l = record {
  times = padded capacity (map (λ e. e.time) l);
  lens = padded capacity (map (λ e. length e.bytes) l);
  bytes = padded (capacity * max_length) (flatten (map (λ e. padded max_length e.bytes) l));
  copies = padded capacity (map (λ e. e.copies) l);
}

-- no telegram open, nothing counted, and every element is zero
pub record IsFresh (c : Collector) : Type 0 where
  pub state : view_of c ≡ fresh
  pub elements : columns_of c ≡ columns_holding []

-- ---- every element of the arrays after a reception

-- the n elements after the first `gone` are moved to the front; the rest is unchanged
unfoldable pub moved : {A : Type 0} → ℕ → ℕ → List A → List A
moved gone n l = take n (drop gone l) ++ drop n l

-- element i is set to x, if a test passes
abbrev pub set_if : Bool → ℕ → ℕ → List ℕ → List ℕ
set_if test i x l = cond test (set l i x) l

-- element i is raised by one, up to the ceiling, if a test passes
abbrev pub more_if : Bool → ℕ → List ℕ → List ℕ
more_if test i l = set_if test i (capped (get_or l i 0 + 1)) l

-- xs are put from `at` on, if a test passes
abbrev pub put_if : Bool → ℕ → List ℕ → List ℕ → List ℕ
put_if test at xs l = cond test (take at l ++ (xs ++ drop (at + length xs) l)) l

-- the index of the last entry that r is a copy of, or the number of entries if there is none
unfoldable pub last_copy : List Entry → Reception → ℕ
last_copy l r = last_index (λ e. is_copy_of e r) l

-- what an answer does with the columns of `count` entries, of which the last ones, those in l, are left. These are
-- moved to the front. A copy is counted for the last of them that r is a copy of. A kept reception is put after them.
unfoldable pub columns_with : Shown → Reception → ℕ → List Entry → Columns → Columns
columns_with answer r count l a =
    let n = length l in
    let gone = count - n in
    record {
      times = set_if (is_kept answer) n r.time (moved gone n a.times);
      lens = set_if (is_kept answer) n (length r.bytes) (moved gone n a.lens);
      bytes = put_if (is_kept answer) (max_length * n) r.bytes (moved (max_length * gone) (max_length * n) a.bytes);
      copies = set_if (is_kept answer) n 0 (more_if (is_copy answer) (last_copy l r) (moved gone n a.copies));
    }

-- the columns after a step: KEPT, COPY and LOOSE leave only the open telegrams; with a refusal every element is
-- unchanged
unfoldable pub columns_after : View → Reception → Columns → Columns
columns_after v r a =
    let answer = (step v r).answer in
    cond (is_accepted answer) (columns_with answer r (length v.entries) (still_open r.time v) a) a

-- ---- what `take` gives

-- the answer, and the view of the next state
abbrev pub step_outcome_of : Taken → StepOutcome
step_outcome_of r = record { answer = shown_of r.answer; next = view_of r.next }

-- the step, with every element of the arrays; with 8 and 11 the state is exactly the one that was handed in
pub record Takes (c : Collector) (r : Reception) (t : Taken) : Type 0 where
  pub outcome : step_outcome_of t ≡ step (view_of c) r
  pub elements : columns_of t.next ≡ columns_after (view_of c) r (columns_of c)
  pub stays : is_received (shown_of t.answer) ≡ false → t.next ≡ c

-- ---- a call that gives the next state, or is refused

-- the number of its answer: 0 says done
abbrev pub next_number : Result Collector Refusal → ℕ
next_number (Ok d) = 0
next_number (Err why) = number_of why

-- the state after the call: with a refusal, the one that was handed in
abbrev pub next_in : Collector → Result Collector Refusal → Collector
next_in c (Ok d) = d
next_in c (Err why) = c
