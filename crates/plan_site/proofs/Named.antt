-- 18 names the first unlawful plan and 19 the first pair that clashes, and only these; the plan that a draw picks is a site of its own. What
-- `pair_of` names is shown by induction over the repeaters, with indices counted from the first of them.
use mathlib.Core.Path.{◌≡◌, refl, sym, ap, ap₂, subst, ◌∙◌}
use mathlib.Core.Bool.{Bool, true, false, cond, not, ◌&&◌, ◌||◌}
use mathlib.Core.List.{List, [], ◌∷◌}
use Prim.Native.Nat.{ℕ, zero, suc, ◌+◌, ◌≤◌, ◌<◌, zero-le, suc-le-suc}
use native.Mathlib.Nat.{not-suc-le-zero, le_of_suc-le-suc}
use native.Mathlib.Omega.{arith}
use lib.Dec.{ltb}
use lib.ListN.{length, get_or, take, length-take}
use borrow.Author.Tests.{lt-ltb, ltb-true, ltb-false, le-ltb, not-true, not-false}
use Rattle.base_lists.specs.Lists.{any, all, first_of}
use Rattle.base_lists.proofs.Choice.{cond_no, cond_yes, neither, both}
use Rattle.base_lists.proofs.First.{any_first, first_least, not_all, first_passes, first_before, first_is, none_at}
use Rattle.base_lists.proofs.Tests.{none, all_get_d, and-true, branch}
use Rattle.base_refusal.specs.Number.{number_of}
use Rattle.base_refusal.specs.declared.Refusal.TheVariants as refusal
use Rattle.plan_slots.specs.Plan.{is_duration}
use Rattle.plan_rules.specs.Rules.{is_rule_and_level, is_offered}
use Rattle.plan_rules.proofs.Lawful.{picked_allowed, plan_by-lawful}
use Rattle.plan_site.specs.declared.Assignment.{Assignment}
use Rattle.plan_site.specs.Site.{max_repeaters, is_in_range, has_lawful_plan, clash, no_assignment, SiteAnswer, site_answer, pair_of, site_of}
use Rattle.plan_site.specs.Claims.{InRange, FirstUnlawful, FirstOverlap, NamesTheFirst, DrawnAccepted}

-- ---- the first pair of a list

record Pair (l : List Assignment) (i j : ℕ) : Type 0 where
  order : i < j
  inside : j < length l
  clashes : clash (get_or l i no_assignment) (get_or l j no_assignment) ≡ true
  no_smaller_first : (k m : ℕ) → k < i → k < m → m < length l
      → clash (get_or l k no_assignment) (get_or l m no_assignment) ≡ false
  no_smaller_second : (m : ℕ) → i < m → m < j → clash (get_or l i no_assignment) (get_or l m no_assignment) ≡ false

-- a pair from repeater s on, by indices into the whole and into the list
record PairFrom (s : ℕ) (l : List Assignment) (i j : ℕ) : Type 0 where
  from : ℕ
  to : ℕ
  first_from : i ≡ s + from
  second_from : j ≡ s + to
  pair : Pair l from to

overlap_at : {i j k l : ℕ}
    → site_answer (number_of refusal.Overlap) i j ≡ site_answer (number_of refusal.Overlap) k l → (k ≡ i) × (l ≡ j)
overlap_at e = (sym (ap (λ (a : SiteAnswer). a.repeater) e), sym (ap (λ (a : SiteAnswer). a.other) e))

other-number : {n m : ℕ} {i j k l : ℕ} → (n ≡ m → ⊥) → site_answer n i j ≡ site_answer m k l → ⊥
other-number h e = h (ap (λ (a : SiteAnswer). a.number) e)

module _ (a : Assignment) (l : List Assignment) where
  -- the first repeater clashes with a later one
  pair_here : any (clash a) l ≡ true → Pair (a ∷ l) 0 (suc (first_of (clash a) l))
  pair_here e = record {
    order = suc-le-suc zero-le;
    inside = suc-le-suc (ltb-true (first_of (clash a) l) (length l) (sym (any_first (clash a) l) ∙ e));
    clashes = first_passes (clash a) no_assignment l e;
    no_smaller_first = λ k m h. absurd (not-suc-le-zero h);
    no_smaller_second = λ m h k. second m h k;
  }
    where
      second : (m : ℕ) → 0 < m → m < suc (first_of (clash a) l) → clash a (get_or (a ∷ l) m no_assignment) ≡ false
      second zero h k = absurd (not-suc-le-zero h)
      second (suc m) h k = first_before (clash a) no_assignment l m (le_of_suc-le-suc k)

  free : any (clash a) l ≡ false → (m : ℕ) → 0 < m → m < suc (length l)
      → clash a (get_or (a ∷ l) m no_assignment) ≡ false
  free e zero h k = absurd (not-suc-le-zero h)
  free e (suc m) h k =
      not-true _ (all_get_d (λ b. not (clash a b)) l m no_assignment (none (clash a) l e) (le_of_suc-le-suc k))

  -- it clashes with none, and the pair stands behind it
  pair_behind : any (clash a) l ≡ false → (i j : ℕ) → Pair l i j → Pair (a ∷ l) (suc i) (suc j)
  pair_behind e i j p = record {
    order = suc-le-suc p.order;
    inside = suc-le-suc p.inside;
    clashes = p.clashes;
    no_smaller_first = first;
    no_smaller_second = second;
  }
    where
      first : (k m : ℕ) → k < suc i → k < m → m < suc (length l)
          → clash (get_or (a ∷ l) k no_assignment) (get_or (a ∷ l) m no_assignment) ≡ false
      first zero m h n o = free e m n o
      first (suc k) zero h n o = absurd (not-suc-le-zero n)
      first (suc k) (suc m) h n o =
          p.no_smaller_first k m (le_of_suc-le-suc h) (le_of_suc-le-suc n) (le_of_suc-le-suc o)

      second : (m : ℕ) → suc i < m → m < suc j
          → clash (get_or l i no_assignment) (get_or (a ∷ l) m no_assignment) ≡ false
      second zero h k = absurd (not-suc-le-zero h)
      second (suc m) h k = p.no_smaller_second m (le_of_suc-le-suc h) (le_of_suc-le-suc k)

-- what `pair_of` names is the first pair
pair_named : (s : ℕ) (l : List Assignment) (i j : ℕ)
    → pair_of s l ≡ site_answer (number_of refusal.Overlap) i j → PairFrom s l i j
pair_named s [] i j e = absurd (other-number (λ h. omega arith) e)
pair_named s (a ∷ l) i j e = go (any (clash a) l) refl e (pair_named (suc s) l i j)
  where
    go : (x : Bool) → any (clash a) l ≡ x
        → cond x (site_answer (number_of refusal.Overlap) s (suc s + first_of (clash a) l)) (pair_of (suc s) l)
        ≡ site_answer (number_of refusal.Overlap) i j
        → (pair_of (suc s) l ≡ site_answer (number_of refusal.Overlap) i j → PairFrom (suc s) l i j)
        → PairFrom s (a ∷ l) i j
    go true k f ih =
        let w = overlap_at f in
        record {
          from = 0;
          to = suc (first_of (clash a) l);
          first_from = omega (arith, w.0);
          second_from = omega (arith, w.1);
          pair = pair_here a l k;
        }
    go false k f ih =
        let w = ih f in
        record {
          from = suc w.from;
          to = suc w.to;
          first_from = omega (arith, w.first_from);
          second_from = omega (arith, w.second_from);
          pair = pair_behind a l k w.from w.to w.pair;
        }

-- the first pair is what `pair_of` names
named_pair : (s : ℕ) (l : List Assignment) (i j : ℕ) → Pair l i j
    → pair_of s l ≡ site_answer (number_of refusal.Overlap) (s + i) (s + j)
named_pair s [] i j p = absurd (not-suc-le-zero p.inside)
named_pair s (a ∷ l) i zero p = absurd (not-suc-le-zero p.order)
named_pair s (a ∷ l) zero (suc j) p =
    let f = first_is (clash a) no_assignment l j (le_of_suc-le-suc p.inside) p.clashes
    (λ k h. p.no_smaller_second (suc k) (suc-le-suc zero-le) (suc-le-suc h)) in
    let some : any (clash a) l ≡ true
    = any_first (clash a) l ∙ lt-ltb (first_of (clash a) l) (length l) (omega (arith, le_of_suc-le-suc p.inside)) in
    rw (some, f) (ap₂ (site_answer (number_of refusal.Overlap)) (omega arith) (omega arith))
named_pair s (a ∷ l) (suc i) (suc j) p =
    let no : any (clash a) l ≡ false
    = none_at (clash a) no_assignment l
    (λ k h. p.no_smaller_first 0 (suc k) (suc-le-suc zero-le) (suc-le-suc zero-le) (suc-le-suc h)) in
    let behind : Pair l i j = record {
      order = le_of_suc-le-suc p.order;
      inside = le_of_suc-le-suc p.inside;
      clashes = p.clashes;
      no_smaller_first = λ k m h n o. p.no_smaller_first (suc k) (suc m) (suc-le-suc h) (suc-le-suc n) (suc-le-suc o);
      no_smaller_second = λ m h k. p.no_smaller_second (suc m) (suc-le-suc h) (suc-le-suc k);
    } in
    rw no (named_pair (suc s) l i j behind ∙ ap₂ (site_answer (number_of refusal.Overlap)) (omega arith) (omega arith))

-- it never names an unlawful plan
pair_overlap : (s : ℕ) (l : List Assignment) (i j : ℕ) → pair_of s l ≡ site_answer (number_of refusal.Unlawful) i j → ⊥
pair_overlap s [] i j e = other-number (λ h. omega arith) e
pair_overlap s (a ∷ l) i j e = go (any (clash a) l) e (pair_overlap (suc s) l i j)
  where
    go : (x : Bool)
        → cond x (site_answer (number_of refusal.Overlap) s (suc s + first_of (clash a) l)) (pair_of (suc s) l)
        ≡ site_answer (number_of refusal.Unlawful) i j
        → (pair_of (suc s) l ≡ site_answer (number_of refusal.Unlawful) i j → ⊥) → ⊥
    go true f ih = other-number (λ h. omega arith) f
    go false f ih = ih f

-- ---- the answer

module _ (count : ℕ) (repeaters : List Assignment) where
  abbrev site : List Assignment
  site = take count repeaters

  abbrev unlawful : Assignment → Bool
  unlawful a = not (has_lawful_plan a)

  -- the refusals of the first test are not these
  abbrev out_of_range : Bool
  out_of_range = ltb max_repeaters count || not (all is_in_range site)

  ranged : out_of_range ≡ false → InRange count repeaters
  ranged e =
      let w = neither (ltb max_repeaters count) (not (all is_in_range site)) e in
      record { few = ltb-false max_repeaters count w.0; known = not-false (all is_in_range site) w.1 }

  in_ranges : InRange count repeaters → out_of_range ≡ false
  in_ranges r = rw (le-ltb max_repeaters count r.few, r.known)

  is_unlawful : (i : ℕ) → site_of count repeaters ≡ site_answer (number_of refusal.Unlawful) i 0
      → FirstUnlawful count repeaters i
  unfolding site_of
  is_unlawful i e =
      let u = cond_no out_of_range (other-number (λ h. omega arith)) e in
      let v = cond_yes (not (all has_lawful_plan site)) (pair_overlap 0 site i 0) u.1 in
      let some : any unlawful site ≡ true = sym (not_all has_lawful_plan site) ∙ v.0 in
      let first : first_of unlawful site ≡ i = ap (λ (a : SiteAnswer). a.repeater) v.1 in
      record {
        in_range = ranged u.0;
        inside = rw first at (ltb-true (first_of unlawful site) (length site) (sym (any_first unlawful site) ∙ some));
        unlawful =
            rw first at
            (not-true (has_lawful_plan (get_or site (first_of unlawful site) no_assignment))
            (first_passes unlawful no_assignment site some));
        before = λ k h. not-false _ (first_before unlawful no_assignment site k (rw first h));
      }

  first_unlawful : (i : ℕ) → FirstUnlawful count repeaters i
      → site_of count repeaters ≡ site_answer (number_of refusal.Unlawful) i 0
  unfolding site_of
  first_unlawful i f =
      let first =
      first_is unlawful no_assignment site i f.inside (ap not f.unlawful) (λ k h. ap not (f.before k h)) in
      let some : not (all has_lawful_plan site) ≡ true
      = not_all has_lawful_plan site ∙ any_first unlawful site
      ∙ lt-ltb (first_of unlawful site) (length site) (rw first f.inside) in
      rw (in_ranges f.in_range, some, first)

  is_overlap : (i j : ℕ) → site_of count repeaters ≡ site_answer (number_of refusal.Overlap) i j
      → FirstOverlap count repeaters i j
  unfolding site_of
  is_overlap i j e =
      let u = cond_no out_of_range (other-number (λ h. omega arith)) e in
      let v = cond_no (not (all has_lawful_plan site)) (other-number (λ h. omega arith)) u.1 in
      let w = pair_named 0 site i j v.1 in
      let first : w.from ≡ i = omega (arith, w.first_from) in
      let second : w.to ≡ j = omega (arith, w.second_from) in
      let pair = subst (λ (n : ℕ). Pair site i n) second (subst (λ (n : ℕ). Pair site n w.to) first w.pair) in
      record {
        in_range = ranged u.0;
        lawful = not-false (all has_lawful_plan site) v.0;
        order = pair.order;
        inside = pair.inside;
        clashes = pair.clashes;
        no_smaller_first = pair.no_smaller_first;
        no_smaller_second = pair.no_smaller_second;
      }

  first_overlap : (i j : ℕ) → FirstOverlap count repeaters i j
      → site_of count repeaters ≡ site_answer (number_of refusal.Overlap) i j
  unfolding site_of
  first_overlap i j f =
      let pair : Pair site i j = record {
        order = f.order;
        inside = f.inside;
        clashes = f.clashes;
        no_smaller_first = f.no_smaller_first;
        no_smaller_second = f.no_smaller_second;
      } in
      rw (in_ranges f.in_range, f.lawful)
      (named_pair 0 site i j pair ∙ ap₂ (site_answer (number_of refusal.Overlap)) (omega arith) (omega arith))

  pub names_the_first : NamesTheFirst count repeaters
  names_the_first =
      record { unlawful = first_unlawful; is_unlawful = is_unlawful; overlap = first_overlap; is_overlap = is_overlap }

-- ---- a repeater that is named has a small index

pub record Small (a : SiteAnswer) : Type 0 where
  pub repeater : a.repeater ≤ 32
  pub other : a.other ≤ 32

pair_small : (s : ℕ) (l : List Assignment) → s + length l ≤ 32 → Small (pair_of s l)
pair_small s [] h = record { repeater = zero-le; other = zero-le }
pair_small s (a ∷ l) h =
    branch Small (any (clash a) l)
    (λ e. record { repeater = omega arith; other = omega (arith, first_least (clash a) l) })
    (λ e. pair_small (suc s) l (omega arith))

pub site_small : (count : ℕ) (repeaters : List Assignment) → Small (site_of count repeaters)
unfolding site_of
site_small count repeaters =
    let l = take count repeaters in
    branch Small (ltb max_repeaters count || not (all is_in_range l))
    (λ e. record { repeater = zero-le; other = zero-le })
    (λ e.
    let few : count ≤ 32 =
    ltb-false max_repeaters count (neither (ltb max_repeaters count) (not (all is_in_range l)) e).0 in
    let short : length l ≤ 32 = omega (arith, length-take count repeaters) in
    branch Small (not (all has_lawful_plan l))
    (λ f. record { repeater = omega (arith, first_least (λ a. not (has_lawful_plan a)) l); other = zero-le })
    (λ f. pair_small 0 l (omega arith)))

-- ---- a drawn plan

pub drawn-accepted : DrawnAccepted
unfolding site_of
drawn-accepted rule level n d draw p rest e =
    let u =
    both (is_duration d) (is_rule_and_level rule level && is_offered rule level n)
    (picked_allowed rule level n d draw p e) in
    let v = both (is_rule_and_level rule level) (is_offered rule level n) u.1 in
    rw (and-true v.0 u.0, plan_by-lawful rule level n d draw p e)
