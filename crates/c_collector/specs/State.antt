-- A collector in five arrays of numbers, and the state in them.
use Rattle.std.specs.Prelude.{ℕ, ◌≡◌, List, [], ◌∷◌, length, get_or}
use Rattle.collector_model.specs.declared.Totals.{Totals}
use Rattle.collector_model.specs.View.{View}
use Rattle.c_collector.specs.declared.Held.{Held}
use Rattle.c_collector.specs.declared.Lent.{Lent}
use Rattle.collector_state.specs.declared.Collector.{Collector}
use Rattle.collector_state.specs.declared.Summary.{Summary}
use Rattle.collector_state.specs.Collector.{Columns, columns, view_in}

-- what a caller lends: for each open telegram the time when it was opened, its length, its 21 bytes and its number of
-- copies; and eight numbers
pub record Arrays : Type 0 where
  pub times : List ℕ
  pub lengths : List ℕ
  pub bytes : List ℕ
  pub copies : List ℕ
  pub numbers : List ℕ

abbrev pub arrays : List ℕ → List ℕ → List ℕ → List ℕ → List ℕ → Arrays
arrays times lengths bytes copies numbers = record {
  times = times;
  lengths = lengths;
  bytes = bytes;
  copies = copies;
  numbers = numbers;
}

-- the four arrays of the entries
abbrev pub columns_at : Arrays → Columns
columns_at s = columns s.times s.lengths s.bytes s.copies

-- eight numbers: how many telegrams are open, the latest time, and the totals
abbrev pub summary_in : List ℕ → Summary
summary_in numbers = record {
  count = get_or numbers 0 0;
  latest = get_or numbers 1 0;
  totals = record {
    received = get_or numbers 2 0;
    kept = get_or numbers 3 0;
    copies = get_or numbers 4 0;
    loose = get_or numbers 5 0;
    damaged = get_or numbers 6 0;
    late = get_or numbers 7 0;
  };
}

-- the state in the five arrays
abbrev pub state_at : Arrays → View
state_at s = view_in (columns_at s) (summary_in s.numbers)

-- the six totals, in the order of the eight numbers
abbrev pub total_numbers : Totals → List ℕ
total_numbers n = n.received ∷ n.kept ∷ n.copies ∷ n.loose ∷ n.damaged ∷ n.late ∷ []

-- the eight numbers of a state
abbrev pub numbers_of : View → List ℕ
numbers_of v = length v.entries ∷ v.latest ∷ total_numbers v.totals

-- the eight numbers of a summary
abbrev pub summary_numbers : Summary → List ℕ
summary_numbers s = s.count ∷ s.latest ∷ total_numbers s.totals

-- the arrays of a state that is held by value
abbrev pub arrays_of : Collector → Arrays
arrays_of c = arrays c.times c.lens c.bytes c.copies (summary_numbers c.summary)

-- the five arrays of a state that is lent, to be changed and to be read
abbrev pub arrays_in : Lent → Arrays
arrays_in s = arrays s.times.now s.lengths.now s.bytes.now s.copies.now s.numbers.now

abbrev pub arrays_held : Held → Arrays
arrays_held s = arrays s.times.now s.lengths.now s.bytes.now s.copies.now s.numbers.now

-- after a call the same five arrays are lent
pub record SameLoans (s s' : Lent) : Type 0 where
  pub times : s'.times.ghost_name ≡ s.times.ghost_name
  pub lengths : s'.lengths.ghost_name ≡ s.lengths.ghost_name
  pub bytes : s'.bytes.ghost_name ≡ s.bytes.ghost_name
  pub copies : s'.copies.ghost_name ≡ s.copies.ghost_name
  pub numbers : s'.numbers.ghost_name ≡ s.numbers.ghost_name
