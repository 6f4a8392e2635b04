-- Parts of a list, and lists joined.
use mathlib.Core.Path.{◌≡◌, sym, ap, refl, ◌∙◌}
use mathlib.Core.List.{List, [], ◌∷◌, ◌++◌, flatten, append_assoc}
use Prim.Native.Nat.{ℕ, zero, suc, ◌-◌}
use native.Mathlib.Nat.{sub-zero, zero-sub, suc-sub-suc}
use lib.ListN.{take, drop}
use lib.Seq.{take-nil}

-- a part of the front is the front of a part
pub drop-take : {A : Type 0} (l : List A) (from end : ℕ) → drop from (take end l) ≡ take (end - from) (drop from l)
drop-take l zero end = rw (sub-zero end)
drop-take l (suc from) zero = rw (zero-sub (suc from))
drop-take [] (suc from) (suc end) = sym (take-nil (suc end - suc from))
drop-take (x ∷ l) (suc from) (suc end) = rw (suc-sub-suc end from) (drop-take l from end)

pub flatten_append : {A : Type 0} (xs ys : List (List A)) → flatten (xs ++ ys) ≡ flatten xs ++ flatten ys
unfolding flatten
flatten_append [] ys = refl
flatten_append (x ∷ xs) ys =
    ap (λ (l : List _). x ++ l) (flatten_append xs ys) ∙ sym (append_assoc x (flatten xs) (flatten ys))
