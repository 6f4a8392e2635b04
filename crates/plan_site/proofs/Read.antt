-- Repeaters read from bytes: those that are cut out of them are those of the list.
use mathlib.Core.Path.{◌≡◌, refl, sym, ap, ◌∙◌}
use mathlib.Core.List.{List, ◌∷◌, map}
use Prim.Native.Nat.{ℕ, zero, suc, ◌+◌, ◌*◌, ◌/◌, ◌≤◌}
use native.Mathlib.Omega.{arith}
use lib.ListN.{length, drop}
use Rattle.std.specs.Simd.{first_chunks}
use Rattle.std.proofs.lemmas.List.{drop-drop}
use Rattle.base_lists.specs.Lists.{up_from}
use Rattle.plan_site.specs.declared.Assignment.{Assignment}
use Rattle.plan_site.specs.Bytes.{assignment_of, assignment_at, repeater_count, assignments_in}

-- n repeaters from repeater a on
chunks_from : (s : List ℕ) (a n : ℕ)
    → map assignment_of (first_chunks 9 n (drop (9 * a) s)) ≡ map (assignment_at s) (up_from a n)
unfolding up_from
chunks_from s a zero = refl
chunks_from s a (suc n) =
    let next : 9 * a + 9 ≡ 9 * suc a = omega arith in
    ap (λ (l : List Assignment). assignment_at s a ∷ l)
    (ap (λ (l : List ℕ). map assignment_of (first_chunks 9 n l)) (drop-drop 9 (9 * a) s ∙ ap (λ (k : ℕ). drop k s) next)
    ∙ chunks_from s (suc a) n)

pub read_all : (s : List ℕ) → length s / 9 ≤ 32
    → map assignment_of (first_chunks 9 (length s / 9) s) ≡ assignments_in s
read_all s few =
    let size : repeater_count s ≡ length s / 9 = omega arith in
    chunks_from s 0 (length s / 9) ∙ ap (λ (n : ℕ). map (assignment_at s) (up_from 0 n)) (sym size)
