-- A part of a buffer that is moved to its front, one number after the other.
--     Moved                     i of the n numbers are moved
--     moved_none, moved-next    the start, and a turn
--     moved_all                 the end
use mathlib.Core.Path.{◌≡◌, refl, sym}
use mathlib.Core.List.{List, ◌∷◌}
use Prim.Native.Nat.{ℕ, suc, ◌+◌, ◌-◌, ◌<◌, ◌≤◌}
use native.Mathlib.Omega.{arith}
use native.Mathlib.Nat.{add_comm}
use native.Mathlib.Numerals.{add-one}
use lib.ListN.{length, get_or, take, drop, set}
use lib.Seq.{sets, drop-cons, drop-drop, drop-set-lt, get_or-drop}

-- i of the n numbers from `from` on are moved: behind them the buffer is as it was, and the stores that are left give all
pub record Moved (old : List ℕ) (from n i : ℕ) (new : List ℕ) : Type 0 where
  pub rest : drop i new ≡ drop i old
  pub stores : sets new i (take (n - i) (drop (from + i) old)) ≡ sets old 0 (take n (drop from old))

pub moved_none : (old : List ℕ) (from n : ℕ) → Moved old from n 0 old
moved_none old from n =
    let e : n - 0 ≡ n = omega arith in
    let f : from + 0 ≡ from = omega arith in
    record { rest = refl; stores = rw (e, f) }

module _ {old new : List ℕ} {from n i : ℕ} (m : Moved old from n i new) where
  -- a number that is still to be moved is the old one
  same : get_or new (from + i) 0 ≡ get_or old (from + i) 0
  same = rw (add_comm from i, sym (get_or-drop i new from 0), m.rest, get_or-drop i old from 0)

  pub moved_next : i < n → from + n ≤ length old → Moved old from n (i + 1) (set new i (get_or new (from + i) 0))
  moved_next h k =
      let e : n - i ≡ suc (n - (i + 1)) = omega arith in
      let f : from + (i + 1) ≡ suc (from + i) = omega arith in
      let front : take (n - i) (drop (from + i) old)
      ≡ get_or old (from + i) 0 ∷ take (n - (i + 1)) (drop (from + (i + 1)) old) =
      rw (e, drop-cons old (from + i) 0 (omega arith), f)
      in
      record {
        rest =
            rw (
              drop-set-lt (i + 1) new i (get_or new (from + i) 0) (omega arith),
              sym (drop-drop 1 i new),
              sym (drop-drop 1 i old),
              m.rest,
            );
        stores = rw (same, add-one i) (rw (front, add-one i) at m.stores);
      }

  pub moved_all : i ≡ n → new ≡ sets old 0 (take n (drop from old))
  moved_all e = let z : n - i ≡ 0 = omega arith in rw z at m.stores
