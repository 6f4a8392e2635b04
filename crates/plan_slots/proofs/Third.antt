-- Slots with a start and an end between two bounds are consecutive, and so are the third slots that may follow a second one.
use mathlib.Core.Path.{◌≡◌, ◌∙◌}
use mathlib.Core.Bool.{true, false, and-false}
use Prim.Native.Nat.{ℕ, ◌+◌, ◌-◌, ◌/◌, ◌≤◌, ◌<◌, min, max}
use native.Mathlib.Decide.{dec_lt}
use native.Mathlib.Omega.{arith}
use borrow.Author.Tests.{le-leb, lt-leb}
use Rattle.base_lists.specs.Lists.{keep, up_from}
use Rattle.base_lists.proofs.Keep.{keep_same}
use Rattle.base_lists.proofs.UpFrom.{keep_none, keep_between}
use Rattle.plan_slots.specs.declared.SlotRange.{SlotRange}
use Rattle.plan_slots.specs.declared.Rule.{Rule}
use Rattle.plan_slots.specs.Plan.{no_slot, is_of_two, slots_in, range_at, start_of, end_of}
use Rattle.plan_slots.specs.Search.{fits, third_follows, IsRow, IsThirds}

-- a start at `from` or later; an end by `end`
module _ (s : SlotRange) (d from end : ℕ) where
  abbrev lo : ℕ
  lo = s.first

  abbrev hi : ℕ
  hi = s.last

  passes : (c : ℕ) → lo ≤ c → c ≤ hi → from ≤ start_of c → end_of d c ≤ end → fits s d from end c ≡ true
  passes c p q b e = simp (le-leb lo c p, le-leb c hi q, le-leb from (start_of c) b, le-leb (end_of d c) end e)

  early : (c : ℕ) → start_of c < from → fits s d from end c ≡ false
  early c b = simp (lt-leb from (start_of c) b, and-false)

  late : (c : ℕ) → end < end_of d c → fits s d from end c ≡ false
  late c e = simp (lt-leb (end_of d c) end e, and-false)

  abbrev low : ℕ
  low = max lo ((from + 999) / 1000)

  abbrev high : ℕ
  high = min hi ((end - d) / 1000)

  pub row_too_long : end < d → IsRow s d from end 0 0
  unfolding up_from
  row_too_long h =
      record {
        row = keep_none (fits s d from end) lo (hi + 1 - lo) (λ i p q. late i (omega arith));
        small = omega arith;
      }

  pub row_none : d ≤ end → high < low → IsRow s d from end 0 0
  unfolding up_from
  row_none e h = record {
    row =
        keep_none (fits s d from end) lo (hi + 1 - lo)
        (λ i p q. elim (dec_lt (start_of i) from) [ yes b ↦ early i b | no b ↦ late i (omega arith) ]);
    small = omega arith;
  }

  some_slots : low ≤ high → d ≤ end → keep (fits s d from end) (up_from lo (hi + 1 - lo)) ≡ up_from low (high + 1 - low)
  some_slots h e =
      keep_between (fits s d from end) lo hi low high (omega arith) h (omega arith)
      (λ i p q. early i (omega arith))
      (λ i p q. passes i (omega arith) (omega arith) (omega arith) (omega arith))
      (λ i p q. late i (omega arith))

  pub row_some : (x y : ℕ) → d ≤ end → hi < 256 → x ≡ low → y ≡ high → x ≤ y → IsRow s d from end x (y + 1 - x)
  row_some x y e f p q g = record { row = rw (p, q) (some_slots (rw (p, q) at g) e); small = omega arith }

-- what `thirds` finds after the second slot b, in the order of its answers
module _ (r : Rule) (d b : ℕ) where
  pub none_fits : is_of_two r ≡ true → end_of d b ≤ r.end → IsThirds r d b no_slot 1
  unfolding up_from third_follows
  none_fits h e = record { row = simp (h, le-leb (end_of d b) r.end e); small = omega arith }

  pub none_late : is_of_two r ≡ true → r.end < end_of d b → IsThirds r d b 0 0
  unfolding up_from third_follows
  none_late h e = record { row = simp (h, lt-leb (end_of d b) r.end e); small = omega arith }

  pub third_row : is_of_two r ≡ false → {a n : ℕ} → IsRow (range_at r 2) d (end_of d b) r.end a n → IsThirds r d b a n
  unfolding third_follows
  third_row h k = record {
    row =
        rw h
        (keep_same (third_follows r d b) (fits (range_at r 2) d (end_of d b) r.end) (λ c. rw h)
        (slots_in (range_at r 2))
        ∙ k.row);
    small = k.small;
  }
