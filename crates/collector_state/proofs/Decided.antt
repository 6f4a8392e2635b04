-- What one reception changes, as it is decided before anything is changed.
use Rattle.std.specs.Prelude.{ℕ, ◌*◌, ◌+◌, ◌≤◌, ◌<◌, length, ◌≡◌, Bool, true, Option, IfSome}
use Rattle.radio_erp1.specs.Subtelegram.{max_length}
use Rattle.collector_model.specs.declared.Answer.{Answer}
use Rattle.collector_model.specs.View.{Reception, capacity}
use Rattle.collector_state.specs.declared.Summary.{Summary}
use Rattle.collector_state.specs.Collector.{Columns}
use Rattle.collector_state.specs.Admission.{Admits}
use Rattle.collector_state.specs.Private.{columns_changed}

-- what one reception changes: the first `gone` entries are dropped, and `left` stay. Of these, `heard` is the one that
-- was received again. If `kept`, the reception is put after them. `summary` is the rest of the new state.
pub record Decision : Type 0 where
  pub gone : ℕ
  pub left : ℕ
  pub heard : Option ℕ
  pub kept : Bool
  pub summary : Summary
  pub answer : Answer

-- the columns after the changes that were decided
abbrev pub changed : Decision → Reception → Columns → Columns
changed d r a = columns_changed d.gone d.left d.heard d.kept r a

-- arrays that hold 64 entries
pub record Whole (a : Columns) : Type 0 where
  pub times : length a.times ≡ capacity
  pub lens : length a.lens ≡ capacity
  pub bytes : length a.bytes ≡ max_length * capacity
  pub copies : length a.copies ≡ capacity

-- what is decided can be carried out, and does what `admit` does with the columns
pub record Decides (fit : Bool) (a : Columns) (s : Summary) (r : Reception) (d : Decision) : Type 0 where
  pub few : d.gone + d.left ≤ capacity
  pub room : d.kept ≡ true → (d.left < capacity) × (length r.bytes ≤ max_length)
  pub inside : IfSome d.heard (λ i. i < capacity)
  pub admits : Whole a → Admits fit a s r (changed d r a) (record { summary = d.summary; answer = d.answer })
