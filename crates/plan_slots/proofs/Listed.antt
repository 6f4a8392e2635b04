-- `plans` lists the lawful plans: it is made by keeping these among all candidates, which stand in order.
use mathlib.Core.Path.{◌≡◌, refl, sym, ap}
use mathlib.Core.Bool.{Bool, true, false, cond, or-true}
use mathlib.Core.List.Memᴰ
use mathlib.Core.List.{List, [], ◌∷◌, map, flat_map, Memᴰ}
use Prim.Native.Nat.{ℕ, ◌+◌, ◌-◌, ◌≤◌, ◌<◌}
use native.Mathlib.Omega.{arith}
use lib.Dec.{leb}
use borrow.Author.Tests.{leb-true, lt-ltb, eq-eqb}
use Rattle.base_lists.proofs.Choice.{both}
use Rattle.base_lists.proofs.Keep.{keep_in, keep-from}
use Rattle.base_lists.proofs.Pairwise.{pairwise-keep}
use Rattle.base_lists.proofs.Tests.{branch}
use Rattle.base_lists.proofs.UpFrom.{up_from_in, flat_map_in, flat_map-from, pairwise-flat_map, pairwise_map}
use Rattle.plan_slots.specs.declared.Rule.{Rule}
use Rattle.plan_slots.specs.declared.SlotRange.{SlotRange}
use Rattle.plan_slots.specs.declared.SlotPlan.{SlotPlan}
use Rattle.plan_slots.specs.Plan.{plan, plans, candidates, lawful, within, empty, no_slot, range_at, slots_in, third_slots}
use Rattle.plan_slots.specs.Search.{third_follows}
use Rattle.plan_slots.specs.Claims.{precedes, Lexicographic, PlansListed}
use Rattle.plan_slots.proofs.Parts.{parts, no_third, third_after}

-- ── every lawful plan is a candidate ──

bounds : (s : SlotRange) (n : ℕ) → within s n ≡ true → (s.first ≤ n) × (n < s.first + (s.last + 1 - s.first))
bounds s n e =
    let w = both (leb s.first n) (leb n s.last) e in
    let low = leb-true s.first n w.0 in
    let high = leb-true n s.last w.1 in
    (low, omega arith)

module _ (r : Rule) (d : ℕ) where
  third_in : (b c : ℕ) → third_follows r d b c ≡ true → Memᴰ c (third_slots r)
  third_in b c e =
      branch (Memᴰ c) (empty (range_at r 2))
      (λ t. Memᴰ.head (no_third r d b c e t))
      (λ f. let w = bounds (range_at r 2) c (third_after r d b c e f).0 in up_from_in _ _ c w.0 w.1)

  candidate : {p : SlotPlan} → lawful r d p ≡ true → Memᴰ p (candidates r)
  unfolding candidates
  candidate {p} e =
      let w = parts r d p e in
      let a = bounds (range_at r 0) p.first w.in_first in
      let b = bounds (range_at r 1) p.second w.in_second in
      let c = third_in p.second p.third w.third_follows_lem in
      flat_map_in _ _ _ p.first a.0 a.1
      (flat_map_in _ _ _ p.second b.0 b.1 (Memᴰ.map (plan p.first p.second) c))

-- ── the candidates stand in order ──

by_first : (p q : SlotPlan) → p.first < q.first → precedes p q ≡ true
by_first p q h = rw (lt-ltb p.first q.first h)

by_second : (p q : SlotPlan) → p.first ≡ q.first → p.second < q.second → precedes p q ≡ true
by_second p q e h = simp (eq-eqb p.first q.first e, lt-ltb p.second q.second h, or-true)

by_third : (p q : SlotPlan) → p.first ≡ q.first → p.second ≡ q.second → p.third < q.third → precedes p q ≡ true
by_third p q e f h =
    simp (eq-eqb p.first q.first e, eq-eqb p.second q.second f, lt-ltb p.third q.third h, or-true)

module _ (r : Rule) where
  abbrev thirds : ℕ → ℕ → List SlotPlan
  thirds a b = map (plan a b) (third_slots r)

  abbrev seconds : ℕ → List SlotPlan
  seconds a = flat_map (thirds a) (slots_in (range_at r 1))

  thirds_ordered : (a b : ℕ) → Lexicographic (thirds a b)
  thirds_ordered a b = go (empty (range_at r 2))
    where
      go : (t : Bool) → Lexicographic (map (plan a b) (cond t (no_slot ∷ []) (slots_in (range_at r 2))))
      go true = refl
      go false = pairwise_map (plan a b) precedes (λ i j h. by_third (plan a b i) (plan a b j) refl refl h) _ _

  second_is : (a b : ℕ) {p : SlotPlan} → Memᴰ p (thirds a b) → (p.first ≡ a) × (p.second ≡ b)
  second_is a b m =
      let w = Memᴰ.of_map (plan a b) (third_slots r) m in
      (ap (λ (q : SlotPlan). q.first) (sym w.2), ap (λ (q : SlotPlan). q.second) (sym w.2))

  first_is : (a : ℕ) {p : SlotPlan} → Memᴰ p (seconds a) → p.first ≡ a
  first_is a m = let w = flat_map-from (thirds a) _ _ m in (second_is a w.0 w.3).0

  seconds_ordered : (a : ℕ) → Lexicographic (seconds a)
  seconds_ordered a =
      pairwise-flat_map (thirds a) precedes (thirds_ordered a)
      (λ i j h p q k m.
      let u = second_is a i k in
      let v = second_is a j m in
      by_second p q (cc) (omega arith)) _ _

  ordered : Lexicographic (candidates r)
  unfolding candidates
  ordered =
      pairwise-flat_map seconds precedes seconds_ordered
      (λ i j h p q k m.
      let u = first_is i k in
      let v = first_is j m in
      by_first p q (omega arith)) _ _

-- ── the theorem ──

pub plans-listed : PlansListed
unfolding plans
plans-listed r d =
    record {
      only = λ m. (keep-from (lawful r d) (candidates r) m).1;
      every = λ e. keep_in (lawful r d) (candidate r d e) e;
      ordered = pairwise-keep precedes (lawful r d) (candidates r) (ordered r);
    }
