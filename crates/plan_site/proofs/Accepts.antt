-- The check accepts exactly the sites that fit: a lawful plan keeps its own transmissions apart, and repeaters that do not clash, pair by pair, are
-- transmissions that are apart, pair by pair.
use mathlib.Core.Path.{◌≡◌, refl, ap}
use mathlib.Core.Bool.{Bool, true, false, cond, not, ◌&&◌, ◌||◌}
use mathlib.Core.List.{List, [], ◌∷◌, flat_map, Memᴰ}
use Prim.Native.Nat.{ℕ, suc, ◌+◌, ◌≤◌}
use native.Mathlib.Omega.{arith}
use lib.Dec.{ltb, eqb}
use lib.ListN.{take}
use borrow.Author.Tests.{leb-true, ltb-false, le-ltb, eqb-false, not-true, not-false}
use Rattle.base_lists.specs.Lists.{any, all, pairwise, first_of}
use Rattle.base_lists.proofs.Choice.{neither, both}
use Rattle.base_lists.proofs.Members.{all_of, all_at}
use Rattle.base_lists.proofs.Pairwise.{pairwise_append}
use Rattle.base_lists.proofs.Tests.{none, none_back, and-true, by_test, all_append, all_parts, pairwise_parts}
use Rattle.base_refusal.specs.Number.{number_of}
use Rattle.base_refusal.specs.declared.Refusal.TheVariants as refusal
use Rattle.base_refusal.proofs.Numbers.{refused-number}
use Rattle.plan_slots.specs.declared.Rule.{Rule}
use Rattle.plan_slots.specs.declared.SlotPlan.{SlotPlan}
use Rattle.plan_slots.specs.Plan.{no_slot, start_of, end_of, range_at, empty, is_duration, lawful}
use Rattle.plan_slots.proofs.Parts.{parts, no_third, third_after}
use Rattle.plan_rules.specs.Rules.{is_rule_and_level, is_offered, rule_of, transmissions_of, is_lawful_by}
use Rattle.plan_site.specs.declared.Assignment.{Assignment}
use Rattle.plan_site.specs.Site.{max_repeaters, is_in_range, has_lawful_plan, Transmission, sent_in, sent_by, overlap, clash, SiteAnswer, site_answer, pair_of}
use Rattle.plan_site.specs.Site.{site_of}
use Rattle.plan_site.specs.Claims.{apart, SiteFits, AcceptsExactly}

-- ---- one repeater: a lawful plan keeps its transmissions apart

-- two transmissions, the one over before the other starts
before : (d n m : ℕ) → end_of d n ≤ start_of m
    → apart (record { slot = n; duration = d }) (record { slot = m; duration = d }) ≡ true
before d n m h = ap not (and_no (ltb (start_of n) (end_of d m)) (le-ltb (start_of m) (end_of d n) h))
  where
    and_no : (a : Bool) {b : Bool} → b ≡ false → a && b ≡ false
    and_no true e = e
    and_no false e = refl

module _ (r : Rule) (d : ℕ) (p : SlotPlan) (l : lawful r d p ≡ true) where
  second_after : end_of d p.first ≤ start_of p.second
  second_after =
      let h : end_of d p.first + r.pause ≤ start_of p.second = leb-true _ _ (parts r d p l).second_follows_lem in
      omega arith

  later : eqb p.third no_slot ≡ false → end_of d p.second ≤ start_of p.third
  later n =
      by_test (empty (range_at r 2))
      (λ z.
      absurd (eqb-false p.third no_slot n
      (no_third r d p.second p.third (parts r d p l).third_follows_lem z)))
      (λ z. (third_after r d p.second p.third (parts r d p l).third_follows_lem z).1)

  plan-apart : (x : Bool) → eqb p.third no_slot ≡ x
      → pairwise apart (sent_in d (p.first ∷ p.second ∷ cond x [] (p.third ∷ []))) ≡ true
  plan-apart true e = rw (before d p.first p.second second_after)
  plan-apart false e =
      let h = second_after in
      let k = later e in
      rw (
        before d p.first p.second h,
        before d p.first p.third (omega arith),
        before d p.second p.third k,
      )

own_apart : (a : Assignment) → has_lawful_plan a ≡ true → pairwise apart (sent_by a) ≡ true
unfolding is_lawful_by
own_apart a e =
    let n = transmissions_of a.slots in
    let t =
    both (is_duration a.duration)
    (is_rule_and_level a.rule a.level
    && (is_offered a.rule a.level n && lawful (rule_of a.rule a.level n) a.duration a.slots))
    e in
    let u =
    both (is_rule_and_level a.rule a.level)
    (is_offered a.rule a.level n && lawful (rule_of a.rule a.level n) a.duration a.slots)
    t.1 in
    let v =
    both (is_offered a.rule a.level n)
    (lawful (rule_of a.rule a.level n) a.duration a.slots) u.1 in
    plan-apart (rule_of a.rule a.level n) a.duration a.slots v.1 (eqb a.slots.third no_slot) refl

-- ---- repeaters that do not clash, pair by pair, are transmissions that are apart, pair by pair

abbrev pub peace : Assignment → Assignment → Bool
peace a b = not (clash a b)

abbrev air : List Assignment → List Transmission
air l = flat_map sent_by l

across : (a b : Assignment) → clash a b ≡ false → (t u : Transmission)
    → Memᴰ t (sent_by a) → Memᴰ u (sent_by b) → apart t u ≡ true
unfolding clash
across a b e t u m k =
    let w = none (λ t. any (overlap t) (sent_by b)) (sent_by a) e in
    let y = not-true _ (all_at (λ t. not (any (overlap t) (sent_by b))) m w) in
    all_at (apart t) k (none (overlap t) (sent_by b) y)

air_apart : (a : Assignment) (t : Transmission) → Memᴰ t (sent_by a)
    → (l : List Assignment) → all (peace a) l ≡ true
    → all (apart t) (air l) ≡ true
unfolding flat_map
air_apart a t m [] e = refl
air_apart a t m (b ∷ l) e =
    let w = both (peace a b) (all (peace a) l) e in
    all_append (apart t) (sent_by b) (air l)
    (all_of (apart t) (sent_by b) (λ u k. across a b (not-true _ w.0) t u m k))
    (air_apart a t m l w.1)

peace_apart : (l : List Assignment) → all has_lawful_plan l ≡ true
    → pairwise peace l ≡ true → pairwise apart (air l) ≡ true
unfolding flat_map
peace_apart [] e f = refl
peace_apart (a ∷ l) e f =
    let v = both (has_lawful_plan a) (all has_lawful_plan l) e in
    let w = both (all (peace a) l) (pairwise peace l) f in
    pairwise_append apart (sent_by a) (air l) (own_apart a v.0) (peace_apart l v.1 w.1)
    (λ t u m k. all_at (apart t) k (air_apart a t m l w.0))

-- ---- and the other way

clash_none : (a b : Assignment) → all (λ t. all (apart t) (sent_by b)) (sent_by a) ≡ true → peace a b ≡ true
unfolding clash
clash_none a b e =
    ap not (none_back (λ t. any (overlap t) (sent_by b)) (sent_by a)
    (all_of (λ t. not (any (overlap t) (sent_by b))) (sent_by a)
    (λ t m. ap not (none_back (overlap t) (sent_by b) (all_at (λ t. all (apart t) (sent_by b)) m e)))))

apart_air : (a : Assignment) (l : List Assignment)
    → all (λ t. all (apart t) (air l)) (sent_by a) ≡ true → all (peace a) l ≡ true
unfolding flat_map
apart_air a [] e = refl
apart_air a (b ∷ l) e =
    and-true
    (clash_none a b (all_of (λ t. all (apart t) (sent_by b)) (sent_by a) (λ t m. (halves t m).0)))
    (apart_air a l (all_of (λ t. all (apart t) (air l)) (sent_by a) (λ t m. (halves t m).1)))
  where
    halves : (t : Transmission) → Memᴰ t (sent_by a)
        → (all (apart t) (sent_by b) ≡ true) × (all (apart t) (air l) ≡ true)
    halves t m = all_parts (apart t) (sent_by b) (air l) (all_at (λ t. all (apart t) (air (b ∷ l))) m e)

apart_peace : (l : List Assignment) → pairwise apart (air l) ≡ true → pairwise peace l ≡ true
unfolding flat_map
apart_peace [] e = refl
apart_peace (a ∷ l) e =
    let w = pairwise_parts apart (sent_by a) (air l) e in
    and-true (apart_air a l w.1) (apart_peace l w.0)

-- ---- the answer

pair_none : (i : ℕ) (l : List Assignment) → pairwise peace l ≡ true → pair_of i l ≡ site_answer 0 0 0
pair_none i [] e = refl
pair_none i (a ∷ l) e =
    let w = both (all (peace a) l) (pairwise peace l) e in
    rw (none_back (clash a) l w.0) (pair_none (suc i) l w.1)

none_pair : (i : ℕ) (l : List Assignment) → (pair_of i l).number ≡ 0 → pairwise peace l ≡ true
none_pair i [] e = refl
none_pair i (a ∷ l) e = go (any (clash a) l) refl (λ f. none_pair (suc i) l f) e
  where
    go : (x : Bool) → any (clash a) l ≡ x → ((pair_of (suc i) l).number ≡ 0 → pairwise peace l ≡ true)
        → (cond x (site_answer (number_of refusal.Overlap) i (suc i + first_of (clash a) l))
        (pair_of (suc i) l)).number ≡ 0
        → pairwise peace (a ∷ l) ≡ true
    go true k ih f = absurd (refused-number refusal.Overlap f)
    go false k ih f = and-true (none (clash a) l k) (ih f)

module _ (count : ℕ) (repeaters : List Assignment) where
  abbrev site : List Assignment
  site = take count repeaters

  fits-accepted : SiteFits count repeaters → site_of count repeaters ≡ site_answer 0 0 0
  unfolding site_of
  fits-accepted f =
      rw (le-ltb max_repeaters count f.in_range.few, f.in_range.known, f.lawful)
      (pair_none 0 site (apart_peace site f.apart))

  -- a choice whose number is 0 is not the refusal
  past : (x : Bool) (a b : SiteAnswer) → (a.number ≡ 0 → ⊥) → (cond x a b).number ≡ 0 → (x ≡ false) × (b.number ≡ 0)
  past true a b z e = absurd (z e)
  past false a b z e = (refl, e)

  accepted-fits : (site_of count repeaters).number ≡ 0 → SiteFits count repeaters
  unfolding site_of
  accepted-fits e =
      let u = past (ltb max_repeaters count || not (all is_in_range site)) _ _ (refused-number refusal.Argument) e in
      let v = past (not (all has_lawful_plan site)) _ _ (refused-number refusal.Unlawful) u.1 in
      let w = neither (ltb max_repeaters count) (not (all is_in_range site)) u.0 in
      let l = not-false (all has_lawful_plan site) v.0 in
      record {
        in_range = record { few = ltb-false max_repeaters count w.0; known = not-false (all is_in_range site) w.1 };
        lawful = l;
        apart = peace_apart site l (none_pair 0 site v.1);
      }

  -- THE CLAIM
  pub accepts_exactly : AcceptsExactly count repeaters
  accepts_exactly = record { accepted = fits-accepted; fits = accepted-fits }
