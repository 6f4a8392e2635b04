-- How a lent buffer is read, and what it holds after it is written.
use Rattle.std.specs.Prelude.{cond, List, ℕ, eqb, length, take, drop}
use Rattle.base_lists.specs.Lists.{padded}

-- the n elements from index a on, as in `&xs[a..a + n]`
abbrev pub part : {A : Type 0} → ℕ → ℕ → List A → List A
part a n xs = take n (drop a xs)

-- exactly n numbers: the first n of xs, filled up with zeros
unfoldable pub resized : ℕ → List ℕ → List ℕ
resized n xs = take n (padded n xs)

-- a buffer of n numbers after `new` is written over all of it; a buffer of another length is unchanged
unfoldable pub overwritten : ℕ → List ℕ → List ℕ → List ℕ
overwritten n new old = cond (eqb (length old) n) new old
