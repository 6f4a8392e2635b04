-- What the contracts of private functions say: the test of a state, in the parts in which the code tests it (document
-- 01, "Parked collector"), and one reception, in the parts in which the code takes it ("Merging"). No public contract
-- cites these.
use Rattle.std.specs.Prelude.{ℕ, ◌*◌, ◌+◌, ◌-◌, ◌%◌, ◌≤◌, ◌<◌, List, get_or, length, ◌≡◌, Bool, true, false, cond, not, ◌&&◌, leb, Option, Some, None, IfSome}
use Rattle.base_lists.specs.Lists.{all, pairwise}
use Rattle.radio_erp1.specs.Subtelegram.{max_length, is_valid}
use Rattle.base_buffers.specs.Buffer.{part, resized}
use Rattle.collector_model.specs.declared.Totals.{Totals}
use Rattle.collector_model.specs.View.{Entry, Reception, opened_by, is_open, capacity, maturity}
use Rattle.collector_model.specs.Acceptable.{is_copy_of, is_summed}
use Rattle.collector_model.specs.Answer.{Shown, Kept, Copy, Loose, Refused, is_copy}
use Rattle.collector_model.specs.Step.{max_count, tally}
use Rattle.collector_state.specs.declared.merging.Judged.{Judged}
use Rattle.collector_state.specs.declared.merging.Judged.TheVariants as judged
use Rattle.base_refusal.specs.Number.{number_of}
use Rattle.base_refusal.specs.declared.Refusal.{Refusal}
use Rattle.collector_state.specs.declared.Summary.{Summary}
use Rattle.collector_model.specs.declared.Answer.{Answer}
use Rattle.collector_state.specs.Collector.{Columns, entry_at, entries_at, moved, set_if, more_if, put_if, last_copy}
use Rattle.collector_state.specs.Admission.{answer_for, has_copy, Admits}

-- ---- the test of a state

-- "in order of time (equal times allowed), open at the latest time, none later than it"
unfoldable pub are_timely : ℕ → List Entry → Bool
are_timely latest l =
    all (λ e. leb e.time latest && is_open latest e) l
    && pairwise (λ e later. leb e.time later.time) l

-- "valid", "no two the same telegram"
unfoldable pub are_telegrams : List Entry → Bool
are_telegrams l = all (λ e. is_valid e.bytes) l && pairwise (λ e later. not (is_copy_of e (opened_by later))) l

-- entry i is a copy of one before it
abbrev pub is_repeated_at : Columns → ℕ → Bool
is_repeated_at a i = has_copy (entries_at a i) (opened_by (entry_at a i))

-- the bytes of entry i
abbrev pub shown_at : List ℕ → List ℕ → ℕ → List ℕ
shown_at lens bytes i = resized (get_or lens i 0) (part (max_length * i) max_length bytes)

-- how many marks there are
abbrev pub marks : ℕ
marks = 1024

-- the mark of a telegram, from the last two bytes of TXID and the first byte after RORG
unfoldable pub mark_of : List ℕ → ℕ
mark_of s = (4 * get_or s (length s - 3) 0 + 67 * get_or s (length s - 4) 0 + 29 * get_or s 1 0) % marks

-- the mark of a valid telegram
abbrev pub mark_in : List ℕ → Option ℕ
mark_in s = cond (is_valid s) (Some (mark_of s)) None

-- r is what is known, if the mark was seen before; else no
pub record Repeated (seen known r : Bool) : Type 0 where
  pub new : seen ≡ false → r ≡ false
  pub old : seen ≡ true → r ≡ known

-- ---- one reception: what is decided, and what that does with each array

-- the answer to a reception that passed the tests
abbrev pub judged_as : Judged → Shown
judged_as judged.Kept = Kept
judged_as (judged.Copy entry) = Copy
judged_as judged.Loose = Loose

-- for a copy, the entry that it is a copy of
abbrev pub judged_heard : Judged → Option ℕ
judged_heard judged.Kept = None
judged_heard (judged.Copy entry) = Some entry
judged_heard judged.Loose = None

-- the last of the entries that r is a copy of, if there is one
abbrev pub copy_in : List Entry → Reception → Option ℕ
copy_in l r = cond (has_copy l r) (Some (last_copy l r)) None

-- both as the open telegrams decide
pub record JudgedBy (l : List Entry) (r : Reception) (shown : Shown) (heard : Option ℕ) : Type 0 where
  pub answer : shown ≡ answer_for 0 (has_copy l r) (leb capacity (length l))
  pub heard_is : heard ≡ cond (is_copy shown) (Some (last_copy l r)) None

-- the summary after a reception that was refused for this reason: it is only counted
abbrev pub counted_only : Summary → Refusal → Summary
counted_only s why = record { count = s.count; latest = s.latest; totals = tally (Refused (number_of why)) s.totals }

-- every total can be raised by one
pub record Countable (n : Totals) : Type 0 where
  pub summed : is_summed n ≡ true
  pub room : n.received < max_count

-- of the first `count` times, those before r are no longer open at `time`, and the one at r is open, if there is one
pub record Expired (times : List ℕ) (count time r : ℕ) : Type 0 where
  pub few : r ≤ count
  pub closed : (i : ℕ) → i < r → leb (time - get_or times i 0) maturity ≡ false
  pub first : r < count → leb (time - get_or times r 0) maturity ≡ true

-- an array of n elements was `old` and is now `said`
pub record Becomes (n : ℕ) (old new said : List ℕ) : Type 0 where
  pub long : length old ≡ n
  pub is : new ≡ said

-- one of the numbers of copies is raised by one, up to the ceiling, if an entry was heard again
abbrev pub credited : Option ℕ → List ℕ → List ℕ
credited None l = l
credited (Some i) l = more_if true i l

-- the columns after these changes
abbrev pub columns_changed : ℕ → ℕ → Option ℕ → Bool → Reception → Columns → Columns
columns_changed gone left heard kept r a = record {
  times = set_if kept left r.time (moved gone left a.times);
  lens = set_if kept left (length r.bytes) (moved gone left a.lens);
  bytes = put_if kept (max_length * left) r.bytes (moved (max_length * gone) (max_length * left) a.bytes);
  copies = set_if kept left 0 (credited heard (moved gone left a.copies));
}

-- what was changed, column by column
pub record Changes (gone left : ℕ) (heard : Option ℕ) (kept : Bool) (r : Reception) (a a' : Columns) : Type 0 where
  pub times : Becomes capacity a.times a'.times (columns_changed gone left heard kept r a).times
  pub lens : Becomes capacity a.lens a'.lens (columns_changed gone left heard kept r a).lens
  pub bytes : Becomes (max_length * capacity) a.bytes a'.bytes (columns_changed gone left heard kept r a).bytes
  pub copies : Becomes capacity a.copies a'.copies (columns_changed gone left heard kept r a).copies
