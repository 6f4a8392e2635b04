-- `base_bytes::find` meets its contract: the place that `position` gives is the index, and no place means that the index is the length.
use Rattle.std.proofs.Common.{◌≡◌, ◌∙◌, ℕ, suc, ◌+◌, ◌-◌, ◌<◌, ◌≤◌, Bool, true, false, cond, not, eqb, ltb, List, [], ◌∷◌, length, take, drop, Some, None, refl, sym, ap, arith, rules, tests, length-take, length-drop}
use borrow.Author.Tests.{ltb-true, ltb-false}
use Rattle.std.proofs.lemmas.Iterator.{YieldsList-from_slice}
use Rattle.std.proofs.lemmas.Iterator.Search.{position_from_yields_List}
use Rattle.std.specs.List.{position_or_len}
use Rattle.base_lists.proofs.Parts.{drop-take}
use Rattle.base_bytes.specs.Bytes.{index_after, index_of, slice}
use Rattle.base_bytes.proofs.find.Goals as goal

same_index : (b : ℕ) (l : List ℕ) → position_or_len (λ x. eqb x b) l ≡ index_of b l
unfolding index_of index_after
same_index b [] = refl
same_index b (c ∷ l) = go (eqb c b) (same_index b l)
  where
    go : (t : Bool) → position_or_len (λ x. eqb x b) l ≡ index_of b l
        → cond (not t) (1 + position_or_len (λ x. eqb x b) l) 0 ≡ index_after t (index_of b l)
    go true e = refl
    go false e = omega (arith, e)

at_most : (b : ℕ) (l : List ℕ) → index_of b l ≤ length l
unfolding index_of index_after
at_most b [] = omega arith
at_most b (c ∷ l) = go (eqb c b) (at_most b l)
  where
    go : (t : Bool) → index_of b l ≤ length l → index_after t (index_of b l) ≤ suc (length l)
    go true h = omega arith
    go false h = omega arith

-- what `position` gives, read back
found : (p n at : ℕ) (t : Bool) → ltb p n ≡ t → Some at ≡ cond t (Some p) None → (at ≡ p) × (p < n)
found p n at true e h = (cc, ltb-true p n e)
found p n at false e h = absurd (cc)

missing : (p n : ℕ) (t : Bool) → ltb p n ≡ t → None ≡ cond t (Some p) None → n ≤ p
missing p n true e h = absurd (cc)
missing p n false e h = ltb-false p n e

module _ (b from to : ℕ) (s : List ℕ) (low : from ≤ to) (high : to ≤ length s) where
  abbrev part : List ℕ
  part = take (to - from) (drop from s)

  part_index : position_or_len (λ x. eqb x b) part ≡ index_of b (slice from to s)
  unfolding slice
  part_index = same_index b part ∙ ap (index_of b) (sym (drop-take s from to))

  part_length : length part ≡ to - from
  part_length = simp (length-take, length-drop) (omega arith)

pub returns-in-Some : goal.returns-in-Some
returns-in-Some c =
    let a = c.args in
    let s = a.text.now in
    let xs = part a.byte a.from a.to s c.requires.0 c.requires.1 in
    let r =
    position_from_yields_List {all = xs} (λ x. eqb x a.byte) _ _ _ c.in-Some.ensures.ran
    (YieldsList-from_slice xs c.iter.ensures.rest) (λ x b q k. search (rules, tests)) in
    let f = found _ _ _ _ refl r in
    let i = part_index a.byte a.from a.to s c.requires.0 c.requires.1 in
    let n = part_length a.byte a.from a.to s c.requires.0 c.requires.1 in
    (omega (arith, f.0, i), omega (arith, f.0, f.1, n))

pub returns-in-None : goal.returns-in-None
returns-in-None c =
    let a = c.args in
    let s = a.text.now in
    let xs = part a.byte a.from a.to s c.requires.0 c.requires.1 in
    let r =
    position_from_yields_List {all = xs} (λ x. eqb x a.byte) _ _ _ c.in-None.ensures.ran
    (YieldsList-from_slice xs c.iter.ensures.rest) (λ x b q k. search (rules, tests)) in
    let m = missing _ _ _ refl r in
    let i = part_index a.byte a.from a.to s c.requires.0 c.requires.1 in
    let n = part_length a.byte a.from a.to s c.requires.0 c.requires.1 in
    let most = at_most a.byte xs in
    let same = same_index a.byte xs in
    (omega (arith, m, i, n, most, same), omega arith)
