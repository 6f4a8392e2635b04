-- Positions in bytes, and when bytes are the same.
use Rattle.std.specs.Prelude.{ℕ, Bool, true, false, List, [], ◌∷◌, eqb, suc, take, drop}

-- one more than k, unless the element is the one that is searched
unfoldable pub index_after : Bool → ℕ → ℕ
index_after true k = 0
index_after false k = suc k

-- the index of the first b in a list; its length if there is none
unfoldable pub index_of : ℕ → List ℕ → ℕ
index_of b [] = 0
index_of b (c ∷ l) = index_after (eqb c b) (index_of b l)

-- the elements from index `from` on and before index `to`
unfoldable pub slice : ℕ → ℕ → List ℕ → List ℕ
slice from to xs = drop from (take to xs)
