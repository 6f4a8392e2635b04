-- The answers of the check, one for each of its returns.
use mathlib.Core.Path.{◌≡◌, sym, ap, ◌∙◌}
use mathlib.Core.Bool.{Bool, true, false, not}
use mathlib.Core.List.{List, map}
use Prim.Native.Nat.{ℕ, ◌/◌, ◌%◌, ◌≤◌, ◌<◌}
use native.Mathlib.Omega.{arith}
use lib.Dec.{eqb}
use lib.ListN.{length, take, length-map}
use borrow.Author.Tests.{eq-eqb, eqb-true, lt-ltb, le-ltb, not-true, not-false}
use Rattle.std.specs.Prelude.{Some, None}
use Rattle.std.specs.Simd.{first_chunks}
use Rattle.std.proofs.lemmas.List.{take_all}
use Rattle.base_lists.specs.Lists.{all, first_of}
use Rattle.base_lists.proofs.First.{any_first, not_all}
use Rattle.base_refusal.specs.Number.{number_of}
use Rattle.base_refusal.specs.declared.Refusal.TheVariants as refusal
use Rattle.plan_site.specs.declared.Assignment.{Assignment}
use Rattle.plan_site.specs.Site.{IsFirst, is_in_range, has_lawful_plan, SiteAnswer, site_answer, pair_of, site_of}
use Rattle.plan_site.specs.Bytes.{assignment_of, assignments_in, site_in}
use Rattle.plan_site.proofs.Read.{read_all}

abbrev pub is_unlawful : Assignment → Bool
is_unlawful b = not (has_lawful_plan b)

abbrev argument : SiteAnswer
argument = site_answer (number_of refusal.Argument) 0 0

-- nothing is left after the repeaters
pub whole_of : (s : List ℕ) (rest : List ℕ) {x : Bool} → x ≡ eqb (length rest) 0 → x ≡ true → length rest ≡ length s % 9
    → length s % 9 ≡ 0
whole_of s rest e f size = sym size ∙ eqb-true (length rest) 0 (sym e ∙ f)

module _ (s : List ℕ) (xs : List (List ℕ)) (whole : length s % 9 ≡ 0) (cut : xs ≡ first_chunks 9 (length s / 9) s)
    (size : length xs ≡ length s / 9) where
  pub too_many : 32 < length xs → argument ≡ site_in s
  unfolding site_of
  too_many h = rw (eq-eqb (length s % 9) 0 whole, lt-ltb 32 (length s / 9) (omega (arith, size)))

  module _ (few : length xs ≤ 32) where
    abbrev site : List Assignment
    site = map assignment_of xs

    -- the repeaters of the list
    all_of : take (length s / 9) (assignments_in s) ≡ site
    all_of =
        ap (take (length s / 9)) (sym (read_all s (omega (arith, size, few))) ∙ ap (map assignment_of) (sym cut))
        ∙ take_all (length s / 9) site (omega (arith, length-map xs assignment_of, size))

    pub out_of_range : all is_in_range site ≡ false → argument ≡ site_in s
    unfolding site_of
    out_of_range e =
        rw (eq-eqb (length s % 9) 0 whole, le-ltb 32 (length s / 9) (omega (arith, size)), all_of, e)

    module _ (known : all is_in_range site ≡ true) where
      pub unlawful : (i : ℕ) → IsFirst is_unlawful site (Some i)
          → site_answer (number_of refusal.Unlawful) i 0 ≡ site_in s
      unfolding site_of
      unlawful i f =
          let some : not (all has_lawful_plan site) ≡ true
          = not_all has_lawful_plan site ∙ any_first is_unlawful site
          ∙ lt-ltb (first_of is_unlawful site) (length site) (omega (arith, f.0, f.1)) in
          rw (
            eq-eqb (length s % 9) 0 whole,
            le-ltb 32 (length s / 9) (omega (arith, size)),
            all_of,
            known,
            not-true (all has_lawful_plan site) some,
            f.0,
          )

      pub lawful_pairs : IsFirst is_unlawful site None → pair_of 0 site ≡ site_in s
      unfolding site_of
      lawful_pairs f =
          let no : not (all has_lawful_plan site) ≡ false
          = not_all has_lawful_plan site ∙ any_first is_unlawful site
          ∙ le-ltb (first_of is_unlawful site) (length site) (omega (arith, f.0)) in
          rw (
            eq-eqb (length s % 9) 0 whole,
            le-ltb 32 (length s / 9) (omega (arith, size)),
            all_of,
            known,
            not-false (all has_lawful_plan site) no,
          )
