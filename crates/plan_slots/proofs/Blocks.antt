-- A search through blocks of plans, one after the other: how many plans were passed, and what stands at index k.
use Rattle.std.specs.Prelude.{Ok, Err}
use mathlib.Core.Path.{◌≡◌, ◌∙◌}
use mathlib.Core.List.{List, ◌++◌, flat_map, append-nil}
use Prim.Native.Nat.{ℕ, suc, ◌+◌, ◌-◌, ◌≤◌, ◌<◌}
use native.Mathlib.Omega.{arith}
use lib.ListN.{length, get_or, length-append, get_or-append}
use lib.Seq.{get_or-append-add}
use Rattle.base_lists.specs.Lists.{up_from}
use Rattle.base_lists.proofs.UpFrom.{up_from_add, flat_map_append}
use Rattle.plan_slots.specs.declared.SlotPlan.{SlotPlan}
use Rattle.plan_slots.specs.Plan.{plan}
use Rattle.plan_slots.specs.Search.{lookup_of}
use Rattle.plan_slots.proofs.Lookups.{lookup_found, lookup_counted, is_found, is_counted}

-- the blocks f lo, f (lo + 1), .., up to f (hi - 1)
module _ (f : ℕ → List SlotPlan) (lo hi : ℕ) where
  abbrev up_to : ℕ → List SlotPlan
  up_to i = flat_map f (up_from lo (i - lo))

  -- at block i, n plans were passed, and index k is not among them
  pub record Passed (k i n : ℕ) : Type 0 where
    pub low : lo ≤ i
    pub high : i - lo ≤ hi - lo
    pub count : n ≡ length (up_to i)
    pub before : n ≤ k

  pub at_start : (k : ℕ) → Passed k lo 0
  unfolding flat_map up_from
  at_start k =
      let none : lo - lo ≡ 0 = omega arith in
      record { low = omega arith; high = omega arith; count = rw none; before = omega arith }

  one_more : (i : ℕ) → lo ≤ i → up_to (i + 1) ≡ up_to i ++ f i
  unfolding flat_map up_from
  one_more i h =
      let size : i + 1 - lo ≡ i - lo + 1 = omega arith in
      let at : lo + (i - lo) ≡ i = omega arith in
      rw (size, up_from_add, flat_map_append, at, append-nil)

  abbrev rest : ℕ → List SlotPlan
  rest i = flat_map f (up_from (suc i) (hi - suc i))

  split : (i : ℕ) → lo ≤ i → i < hi → up_to hi ≡ up_to i ++ (f i ++ rest i)
  unfolding flat_map up_from
  split i h k =
      let size : hi - lo ≡ i - lo + suc (hi - suc i) = omega arith in
      let at : lo + (i - lo) ≡ i = omega arith in
      rw (size, up_from_add, flat_map_append, at)

  -- the search in block i found the plan at index k, or passed m plans more
  pub found : {k i n : ℕ} {p : SlotPlan} → Passed k i n → i < hi
      → Ok p ≡ lookup_of (f i) (k - n) → Ok p ≡ lookup_of (up_to hi) k
  found {k} {i} {n} {p} s h e =
      let w = is_found (f i) (k - n) e in
      let at : length (up_to i) + (k - n) ≡ k = omega arith in
      let inside : k < length (up_to i ++ (f i ++ rest i)) = simp length-append (omega arith) in
      let there : get_or (up_to i ++ (f i ++ rest i)) k (plan 0 0 0) ≡ get_or (f i) (k - n) (plan 0 0 0) =
      (rw at at (get_or-append-add (up_to i) (f i ++ rest i) (k - n) (plan 0 0 0)))
      ∙ get_or-append (f i) (rest i) (plan 0 0 0) (k - n) w.0 in
      rw (split i s.low h, w.1, ← there) (lookup_found _ k inside)

  pub at_next : {k i n m : ℕ} → Passed k i n → i < hi → Err m ≡ lookup_of (f i) (k - n) → Passed k (i + 1) (n + m)
  at_next {k} {i} {n} {m} s h e =
      let w = is_counted (f i) (k - n) e in
      record {
        low = omega arith;
        high = omega arith;
        count = rw (one_more i s.low, length-append) (omega arith);
        before = omega arith;
      }

  pub at_end : {k i n : ℕ} → Passed k i n → hi ≤ i → Err n ≡ lookup_of (up_to hi) k
  at_end {k} {i} {n} s h =
      let same : hi - lo ≡ i - lo = omega arith in
      rw (same, s.count) (lookup_counted (up_to i) k (omega arith))
