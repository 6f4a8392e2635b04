-- Entries of one telegram: each more than 40 ms after the one before and of level 0, just where no two of them are copies.
use Prim.Native.Nat.{ℕ, ◌-◌}
use native.Mathlib.Omega.{arith}
use mathlib.Core.Path.{◌≡◌, refl, sym, ◌∙◌, ap, ap₂}
use mathlib.Core.Bool.{Bool, true, false, not, ◌&&◌, ◌||◌}
use mathlib.Core.List.{List, [], ◌∷◌, ◌++◌, append_assoc}
use lib.Dec.{leb, ltb, eqb}
use borrow.Author.Tests.{lt-ltb, le-ltb, leb-false, leb-true}
use Rattle.base_lists.specs.Lists.{any, all, pairwise}
use Rattle.base_lists.proofs.Choice.{both}
use Rattle.base_lists.proofs.Pairwise.{all_and, pairwise_and}
use Rattle.base_lists.proofs.Tests.{by_test, and-true, all_parts}
use Rattle.radio_telegram.specs.Repeater.{level_of}
use Rattle.collector_model.specs.View.{Reception, Entry, opened_by, tx_maturity}
use Rattle.collector_model.specs.Acceptable.{is_echo, is_copy_of, may_follow}
use Rattle.collector_model.specs.Latest.{latest_same}
use Rattle.collector_model.specs.Several.{in_time, is_second, are_second, SeveralEntries}
use Rattle.collector_model.proofs.Latest.{by_the_latest}

abbrev is_new : Entry → Entry → Bool
is_new x e = not (is_copy_of x (opened_by e))

-- ---- tests

none_of : (p : Entry → Bool) (l : List Entry) → all (λ x. not (p x)) l ≡ not (any p l)
none_of p [] = refl
none_of p (x ∷ l) = go (p x) (any p l) (none_of p l)
  where
    go : (b n : Bool) {m : Bool} → m ≡ not n → (not b && m) ≡ not (b || n)
    go true n e = refl
    go false n e = e

all_ext : (p q : Entry → Bool) → ((x : Entry) → p x ≡ q x) → (l : List Entry) → all p l ≡ all q l
all_ext p q e [] = refl
all_ext p q e (x ∷ l) = ap₂ ◌&&◌ (e x) (all_ext p q e l)

over : (n m : ℕ) → not (leb n m) ≡ ltb m n
over n m =
    by_test (leb n m)
    (λ t. ap not t ∙ sym (le-ltb m n (leb-true n m t)))
    (λ f. ap not f ∙ sym (lt-ltb m n (leb-false n m f)))

-- what is no echo is an original that came later
no_echo : (x e : Entry) → not (is_echo x (opened_by e)) ≡ is_second x e
no_echo x e = go (eqb (level_of e.bytes) 0)
  where
    go : (b : Bool) → not (not b || leb (e.time - x.time) tx_maturity) ≡ (b && ltb tx_maturity (e.time - x.time))
    go true = over (e.time - x.time) tx_maturity
    go false = refl

front : (xs ys : List Entry) → pairwise in_time (xs ++ ys) ≡ true → pairwise in_time xs ≡ true
front [] ys order = refl
front (x ∷ xs) ys order =
    let w = both (all (in_time x) (xs ++ ys)) (pairwise in_time (xs ++ ys)) order in
    and-true (all_parts (in_time x) xs ys w.0).0 (front xs ys w.1)

-- ---- one entry behind others

new_is : (before : List Entry) (e : Entry) → pairwise in_time before ≡ true
    → all (λ x. is_second x e) (latest_same before (opened_by e)) ≡ all (λ x. is_new x e) before
new_is before e order =
    let r = opened_by e in
    let latest = latest_same before r in
    all_ext (λ x. is_second x e) (λ x. not (is_echo x r)) (λ x. sym (no_echo x e)) latest
    ∙ none_of (λ x. is_echo x r) latest
    ∙ ap not (sym (by_the_latest r before order))
    ∙ sym (none_of (λ x. is_copy_of x r) before)

-- one more before
one_more : (before : List Entry) (e f : Entry)
    → all (λ x. is_new x f) (before ++ (e ∷ [])) ≡ (all (λ x. is_new x f) before && is_new e f)
one_more [] e f = go (is_new e f)
  where
    go : (b : Bool) → (b && true) ≡ b
    go true = refl
    go false = refl
one_more (x ∷ before) e f = go (is_new x f) (all (λ y. is_new y f) before) (is_new e f) (one_more before e f)
  where
    go : (a c d : Bool) {b : Bool} → b ≡ (c && d) → (a && b) ≡ ((a && c) && d)
    go true c d h = h
    go false c d h = refl

-- ---- all entries

regroup : (a b c d : Bool) → ((a && b) && (c && d)) ≡ (a && ((b && c) && d))
regroup true true c d = refl
regroup true false c d = refl
regroup false b c d = refl

each-new : (before l : List Entry) → pairwise in_time (before ++ l) ≡ true
    → (all (λ e. all (λ x. is_new x e) before) l && pairwise is_new l) ≡ are_second before l
each-new before [] order = refl
each-new before (e ∷ l) order =
    let behind : List Entry = before ++ (e ∷ []) in
    let together : behind ++ l ≡ before ++ (e ∷ l) = append_assoc before (e ∷ []) l in
    let rest = each-new behind l (ap (pairwise in_time) together ∙ order) in
    let split : all (λ f. all (λ x. is_new x f) behind) l
    ≡ (all (λ f. all (λ x. is_new x f) before) l && all (is_new e) l)
    = all_ext (λ f. all (λ x. is_new x f) behind) (λ f. all (λ x. is_new x f) before && is_new e f)
    (one_more before e) l
    ∙ all_and (λ f. all (λ x. is_new x f) before) (is_new e) l in
    regroup (all (λ x. is_new x e) before) (all (λ f. all (λ x. is_new x f) before) l)
    (all (is_new e) l) (pairwise is_new l)
    ∙ ap₂ ◌&&◌ (sym (new_is before e (front before (e ∷ l) order)))
    (ap (λ (b : Bool). b && pairwise is_new l) (sym split) ∙ rest)

-- behind none
none_before : (l : List Entry) → all (λ e. all (λ x. is_new x e) []) l ≡ true
none_before [] = refl
none_before (e ∷ l) = none_before l

pub several_entries : SeveralEntries
several_entries l = pairwise_and in_time is_new l ∙ go (pairwise in_time l) (λ order. alone ∙ each-new [] l order)
  where
    alone : pairwise is_new l ≡ (all (λ e. all (λ x. is_new x e) []) l && pairwise is_new l)
    alone = rw (none_before l) refl

    go : (a : Bool) {b c : Bool} → (a ≡ true → b ≡ c) → (a && b) ≡ (a && c)
    go true h = h refl
    go false h = refl
