use Rattle.std.specs.Prelude.{Ok, Err}
-- The search among plans of which one slot is the next number: those with given first two slots, and, under a rule of two transmissions, those with a
-- given first slot.
use mathlib.Core.Path.{◌≡◌, refl, ap, ◌∙◌}
use mathlib.Core.Bool.{true, false}
use mathlib.Core.List.{List, [], ◌∷◌, map, flat_map}
use Prim.Native.Nat.{ℕ, zero, suc, ◌+◌, ◌-◌, ◌≤◌, ◌<◌}
use native.Mathlib.Omega.{arith}
use lib.Dec.{leb}
use lib.ListN.{length, length-map}
use borrow.Author.Tests.{le-leb}
use Rattle.base_lists.specs.Lists.{keep, up_from}
use Rattle.base_lists.proofs.Tests.{by_test}
use Rattle.base_lists.proofs.UpFrom.{length-up_from, get_d_up_from}
use Rattle.plan_slots.specs.declared.Rule.{Rule}
use Rattle.plan_slots.specs.declared.SlotPlan.{SlotPlan}
use Rattle.plan_slots.specs.Plan.{plan, no_slot, is_of_two, range_at, end_of}
use Rattle.plan_slots.specs.Search.{second_follows, third_follows, fits, IsRow, IsThirds, lookup_of, plans_after, plans_from}
use Rattle.plan_slots.proofs.Lookups.{lookup_found, lookup_counted}

-- ---- a row of plans

module _ (f : ℕ → SlotPlan) (c m k : ℕ) {ps : List SlotPlan} (is : ps ≡ map f (up_from c m)) where
  size : length (map f (up_from c m)) ≡ m
  size = rw (length-map, length-up_from)

  row-counted : m ≤ k → Err m ≡ lookup_of ps k
  row-counted h = rw is (rw size at (lookup_counted (map f (up_from c m)) k (omega (arith, size))))

  row-found : k < m → Ok (f (c + k)) ≡ lookup_of ps k
  row-found h =
      rw is (rw (get_d_up_from f c m k (plan 0 0 0) h) at (lookup_found (map f (up_from c m)) k (omega (arith, size))))

-- ---- with given first two slots

module _ (r : Rule) (d a b k : ℕ) where
  pub after_none : second_follows r d a b ≡ false → Err 0 ≡ lookup_of (plans_after r d a b) k
  unfolding plans_after
  after_none p = rw p (lookup_counted _ k (omega arith))

  module _ (c m : ℕ) (p : second_follows r d a b ≡ true) (t : IsThirds r d b c m) where
    run : plans_after r d a b ≡ map (plan a b) (up_from c m)
    unfolding plans_after
    run = rw p (ap (map (plan a b)) t.row)

    pub after_counted : m ≤ k → Err m ≡ lookup_of (plans_after r d a b) k
    after_counted h = row-counted (plan a b) c m k run h

    pub after_found : k < m → Ok (plan a b (c + k)) ≡ lookup_of (plans_after r d a b) k
    after_found h = row-found (plan a b) c m k run h

-- ---- with a given first slot, under a rule of two

module _ (r : Rule) (d a : ℕ) (two : is_of_two r ≡ true) where
  abbrev pair : ℕ → SlotPlan
  pair b = plan a b no_slot

  abbrev from : ℕ
  from = end_of d a + r.pause

  -- a second slot gives one plan, where it follows and ends in time
  one : (b : ℕ) → second_follows r d a b ≡ true → leb (end_of d b) r.end ≡ true → plans_after r d a b ≡ pair b ∷ []
  unfolding plans_after third_follows
  one b x y = rw (x, two) (rw (two, y))

  none_late : (b : ℕ) → second_follows r d a b ≡ true → leb (end_of d b) r.end ≡ false → plans_after r d a b ≡ []
  unfolding plans_after third_follows
  none_late b x y = rw (x, two) (rw (two, y))

  none_early : (b : ℕ) → second_follows r d a b ≡ false → plans_after r d a b ≡ []
  unfolding plans_after
  none_early b x = rw x

  pairs : (s n : ℕ) → (range_at r 1).first ≤ s → n ≤ (range_at r 1).last + 1 - s
      → flat_map (plans_after r d a) (up_from s n) ≡ map pair (keep (fits (range_at r 1) d from r.end) (up_from s n))
  unfolding flat_map up_from
  pairs s zero p q = refl
  pairs s (suc n) p q =
      let rest = pairs (suc s) n (omega arith) (omega arith) in
      let low = le-leb (range_at r 1).first s p in
      let high = le-leb s (range_at r 1).last (omega arith) in
      by_test (second_follows r d a s)
      (λ x. by_test (leb (end_of d s) r.end)
      (λ y. rw (one s x y, low, high, x, y) (ap (λ (l : List SlotPlan). pair s ∷ l) rest))
      (λ y. rw (none_late s x y, low, high, x, y) rest))
      (λ x. rw (none_early s x, low, high, x) rest)

  module _ {c m : ℕ} (t : IsRow (range_at r 1) d from r.end c m) where
    all : plans_from r d a ≡ map pair (up_from c m)
    unfolding plans_from
    all =
        pairs (range_at r 1).first ((range_at r 1).last + 1 - (range_at r 1).first) (omega arith) (omega arith)
        ∙ ap (map pair) t.row

    pub pairs_counted : (k : ℕ) → m ≤ k → Err m ≡ lookup_of (plans_from r d a) k
    pairs_counted k h = row-counted pair c m k all h

    pub pairs_found : (k : ℕ) → k < m → Ok (plan a (c + k) no_slot) ≡ lookup_of (plans_from r d a) k
    pairs_found k h = row-found pair c m k all h
