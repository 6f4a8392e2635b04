-- A state's counts have 16 bits by their type, and its numbers 64: what the laws of a step ask of a state.
use Prim.Native.Nat.{ℕ, zero, suc, ◌^◌, ◌<◌}
use native.Mathlib.Omega.{arith}
use mathlib.Core.Path.{◌≡◌, refl, ap}
use mathlib.Core.Bool.{Bool, true}
use mathlib.Core.List.{List, [], ◌∷◌, map}
use lib.Dec.{leb}
use lib.ListN.{get_or}
use package.mir.Val.{Val}
use borrow.Author.Tests.{le-leb}
use denote.Laws.{Is}
use denote.Shadow.{shadow}
use denote.Builtin.{u16}
use denote.Array.{Array, each}
use Rattle.base_lists.specs.Lists.{all, up_from}
use Rattle.base_lists.proofs.Tests.{and-true}
use Rattle.collector_model.specs.View.{Entry, ceiling}
use Rattle.collector_model.specs.Exact.{Fits}
use Rattle.collector_state.specs.declared.Collector.{Collector}
use Rattle.collector_state.specs.Collector.{columns_of, entry_at, entries_at, view_of}

-- a struct's array field is held as its elements one by one
pub same : (xs : List ℕ) → map (λ (x : ℕ). x) xs ≡ xs
same [] = refl
same (x ∷ xs) = ap (λ (l : List ℕ). x ∷ l) (same xs)

each-small : (xs : List ℕ) (us : List Val) → shadow (each ℕ u16.own_val xs us) → (i : ℕ) → get_or xs i 0 < 2 ^ 16
each-small [] us s i = omega arith
each-small (x ∷ xs) [] s i = absurd s
each-small (x ∷ xs) (u ∷ us) s zero = s.0.1
each-small (x ∷ xs) (u ∷ us) s (suc i) = each-small xs us s.1 i

pub small : (n : ℕ) (xs : List ℕ) (vs : List Val)
    → Is (Array u16 n) (map (λ (x : ℕ). x) xs) vs → (i : ℕ) → get_or xs i 0 < 2 ^ 16
small n xs vs p i = rw (same xs) at (each-small (map (λ (x : ℕ). x) xs) p.0 p.1.1 i)

every : {A B : Type 0} (p : B → Bool) (f : A → B) → ((x : A) → p (f x) ≡ true) → (l : List A) → all p (map f l) ≡ true
every p f h [] = refl
every p f h (x ∷ l) = and-true (h x) (every p f h l)

pub state-fits : (c : Collector) → c.summary.latest < 2 ^ 64 → c.summary.totals.received < 2 ^ 64
    → ((i : ℕ) → get_or c.copies i 0 < 2 ^ 16) → Fits (view_of c)
unfolding view_of entries_at
state-fits c latest received copies = record {
  latest = latest;
  received = received;
  copies =
      every (λ (e : Entry). leb e.copies ceiling) (entry_at (columns_of c))
      (λ i. le-leb (get_or c.copies i 0) ceiling (omega (arith, copies i))) (up_from 0 c.summary.count);
}
