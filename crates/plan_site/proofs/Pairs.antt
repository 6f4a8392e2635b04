-- The loop over the first repeaters of pairs.
use mathlib.Core.Path.{◌≡◌, sym, ap, ◌∙◌}
use mathlib.Core.Bool.{true, false}
use mathlib.Core.List.{List, [], ◌∷◌, map}
use Prim.Native.Nat.{ℕ, suc, ◌+◌, ◌-◌, ◌≤◌, ◌<◌}
use native.Mathlib.Omega.{arith}
use native.Mathlib.Numerals.{add-one}
use lib.ListN.{length, get_or, take, drop, length-drop, drop_of_length-le}
use lib.Seq.{drop-cons}
use borrow.Author.Tests.{lt-ltb, le-ltb}
use Rattle.std.specs.Prelude.{Option, Some, None}
use Rattle.std.proofs.lemmas.List.{get_or-map, drop-map, take_all}
use Rattle.base_lists.specs.Lists.{any, first_of}
use Rattle.base_lists.proofs.First.{any_first}
use Rattle.base_refusal.specs.Number.{number_of}
use Rattle.base_refusal.specs.declared.Refusal.TheVariants as refusal
use Rattle.plan_site.specs.declared.Assignment.{Assignment}
use Rattle.plan_site.specs.Site.{IsFirst, no_assignment, clash, site_answer, pair_of}
use Rattle.plan_site.specs.Bytes.{assignment_of}

-- the first pair is what the repeaters from i on say
pub record Paired (l : List Assignment) (i : ℕ) : Type 0 where
  pub least : i ≤ length l
  pub whole : pair_of 0 l ≡ pair_of i (drop i l)

-- what was found behind repeater i, in terms of the list
pub found_behind : (xs : List (List ℕ)) (i : ℕ) (b : Assignment) {found r : Option ℕ} → i < length xs
    → b ≡ assignment_of (get_or xs i [])
    → IsFirst (clash b) (map assignment_of (take (length xs - (i + 1)) (drop (i + 1) xs))) found → found ≡ r
    → IsFirst (clash (get_or (map assignment_of xs) i no_assignment)) (drop (i + 1) (map assignment_of xs)) r
found_behind xs i b {found} {r} h e f is =
    let behind : take (length xs - (i + 1)) (drop (i + 1) xs) ≡ drop (i + 1) xs =
    take_all (length xs - (i + 1)) (drop (i + 1) xs) (omega (arith, length-drop (i + 1) xs)) in
    let one : b ≡ get_or (map assignment_of xs) i no_assignment =
    e ∙ sym (get_or-map assignment_of xs i [] no_assignment h) in
    rw (drop-map assignment_of (i + 1) xs, ← behind, ← one, ← is) f

module _ (l : List Assignment) (i : ℕ) (t : Paired l i) where
  abbrev rest : List Assignment
  rest = drop (i + 1) l

  module _ (h : i < length l) where
    abbrev one : Assignment
    one = get_or l i no_assignment

    turn : pair_of i (drop i l) ≡ pair_of i (one ∷ rest)
    turn =
        ap (pair_of i)
        (drop-cons l i no_assignment h
        ∙ ap (λ (n : ℕ). one ∷ drop n l) (sym (add-one i)))

    pub paired_stop : (j : ℕ) → IsFirst (clash one) rest (Some j)
        → site_answer (number_of refusal.Overlap) i (i + 1 + j) ≡ pair_of 0 l
    paired_stop j f =
        let some : any (clash one) rest ≡ true
        = any_first (clash one) rest ∙ lt-ltb (first_of (clash one) rest) (length rest) (omega (arith, f.0, f.1)) in
        let n : suc i + first_of (clash one) rest ≡ i + 1 + j = omega (arith, f.0) in
        sym (t.whole ∙ turn ∙ rw (some, n))

    pub paired_next : IsFirst (clash one) rest None → Paired l (i + 1)
    paired_next f =
        let no : any (clash one) rest ≡ false
        = any_first (clash one) rest ∙ le-ltb (first_of (clash one) rest) (length rest) (omega (arith, f.0)) in
        record {
          least = omega arith;
          whole = t.whole ∙ turn ∙ rw no (ap (λ (n : ℕ). pair_of n rest) (sym (add-one i)));
        }

  pub paired_end : length l ≤ i → site_answer 0 0 0 ≡ pair_of 0 l
  paired_end h =
      let e : drop i l ≡ [] = drop_of_length-le l h in
      sym (t.whole ∙ ap (pair_of i) e)
