-- What a test of each repeater in a slice of bytes has found, in terms of the list of repeaters.
use mathlib.Core.Path.{◌≡◌, refl, sym, ap, ◌∙◌}
use mathlib.Core.Bool.{Bool, true, false, not, false≢true}
use mathlib.Core.List.{List, [], map}
use Prim.Native.Nat.{ℕ, ◌<◌}
use Rattle.std.proofs.Common.{zero-le}
use native.Mathlib.Numerals.{add-one}
use native.Mathlib.Omega.{arith}
use lib.ListN.{length, length-map}
use borrow.Author.Tests.{not-false}
use Rattle.std.specs.Prelude.{Option, Some, None, unwrap_or}
use Rattle.std.specs.Bool.{MatchBool}
use Rattle.std.specs.Option.{MatchOption}
use Rattle.std.specs.List.{AllWithin, HoldsAt}
use Rattle.std.proofs.lemmas.Iterator.{index_from_first}
use Rattle.base_lists.specs.Lists.{all, first_of}
use Rattle.base_lists.proofs.First.{not_all, none_at}
use Rattle.base_lists.proofs.Tests.{by_test, all_get_d, all_map}
use Rattle.plan_site.specs.declared.Assignment.{Assignment}
use Rattle.plan_site.specs.Site.{IsFirst}
use Rattle.plan_site.specs.Bytes.{assignment_of}

module _ (p : Assignment → Bool) where
  -- the bytes of a repeater pass the test, or do not
  abbrev pub Passes : List ℕ → Type 0
  Passes b = p (assignment_of b) ≡ true

  abbrev pub Fails : List ℕ → Type 0
  Fails b = p (assignment_of b) ≡ false

  abbrev test : List ℕ → Bool
  test b = p (assignment_of b)

  abbrev index : List (List ℕ) → ℕ
  index xs = first_of p (map assignment_of xs)

  first_index : (xs : List (List ℕ)) (r : Option ℕ)
      → MatchOption r (AllWithin Fails xs 0 (length xs))
      (λ i. (i < length xs) × HoldsAt Passes xs i × AllWithin Fails xs 0 i)
      → index xs ≡ unwrap_or r (length xs)
  first_index =
      index_from_first index Passes Fails refl (λ x xs h. rw h) (λ x xs h. rw h (sym (add-one (index xs))))

  pub first_found : (xs : List (List ℕ)) (r : Option ℕ)
      → MatchOption r (AllWithin Fails xs 0 (length xs))
      (λ i. (i < length xs) × HoldsAt Passes xs i × AllWithin Fails xs 0 i)
      → IsFirst p (map assignment_of xs) r
  first_found xs None m = (first_index xs None m ∙ sym (length-map xs assignment_of), tt)
  first_found xs (Some i) m = (first_index xs (Some i) m, omega (arith, m.0, length-map xs assignment_of))

  pub all_found : (xs : List (List ℕ)) (r : Bool)
      → MatchBool r (AllWithin Passes xs 0 (length xs)) ((k : ℕ) × (k < length xs) × HoldsAt Fails xs k)
      → r ≡ all p (map assignment_of xs)
  all_found xs true m =
      let no = not_all test xs ∙ none_at (λ b. not (test b)) [] xs (λ k h. ap not (m k [] zero-le h)) in
      sym (all_map assignment_of p xs ∙ not-false (all test xs) no)
  all_found xs false m =
      by_test {X = false ≡ all p (map assignment_of xs)} (all test xs)
      (λ yes. absurd (false≢true (sym (m.2 []) ∙ all_get_d test xs m.0 [] yes m.1)))
      (λ no. sym (all_map assignment_of p xs ∙ no))
