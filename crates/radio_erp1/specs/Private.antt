-- The comparison of many bytes at once, for the contracts of private functions. No public contract cites it.
use Rattle.std.specs.Prelude.{◌≡◌, ℕ, ◌+◌, ◌<◌, Bool, true, List, slice_index}

-- r says whether w bytes agree, from index `from` on
pub record SameBytes (a b : List ℕ) (from w : ℕ) (r : Bool) : Type 0 where
  pub same : r ≡ true → (k : ℕ) → k < w → slice_index a (from + k) ≡ slice_index b (from + k)
  pub all : ((k : ℕ) → k < w → slice_index a (from + k) ≡ slice_index b (from + k)) → r ≡ true
