-- The times of entries rise from the maturity before the latest time up to it: the test that the code makes in one pass.
use Prim.Native.Nat.{ℕ, zero, suc, ◌+◌, ◌-◌, ◌≤◌, ◌<◌}
use native.Mathlib.Numerals.{add-one}
use native.Mathlib.Omega.{arith}
use mathlib.Core.Path.{◌≡◌, refl, ◌∙◌, ap}
use mathlib.Core.Bool.{Bool, true, false, ◌&&◌}
use mathlib.Core.List.{List, [], ◌∷◌, map, map-map}
use lib.Dec.{leb}
use lib.ListN.{length, get_or, take, drop, drop_of_length-le}
use lib.Seq.{drop-cons}
use borrow.Author.Tests.{le-leb, lt-leb, leb-true}
use Rattle.base_lists.specs.Lists.{all, pairwise, up_from}
use Rattle.base_lists.proofs.Choice.{both}
use Rattle.base_lists.proofs.Tests.{and-true, all_both}
use Rattle.collector_model.specs.View.{Entry, maturity, is_open}
use Rattle.collector_state.specs.Collector.{Columns, entry_at, entries_at}
use Rattle.collector_state.specs.Private.{are_timely}
use Rattle.collector_state.proofs.Inside.{same_test}

-- lo, the times and hi never fall
unfoldable pub rising : ℕ → ℕ → List ℕ → Bool
rising lo hi [] = leb lo hi
rising lo hi (t ∷ ts) = leb lo t && rising t hi ts

abbrev time_of : Entry → ℕ
time_of e = e.time

abbrev is_between : ℕ → ℕ → Entry → Bool
is_between lo hi e = leb e.time hi && leb lo e.time

abbrev pub is_ordered : Entry → Entry → Bool
is_ordered e later = leb e.time later.time

between : {lo hi : ℕ} (e : Entry) → e.time ≤ hi → lo ≤ e.time → is_between lo hi e ≡ true
between e h k = and-true (le-leb _ _ h) (le-leb _ _ k)

rising-says : (lo hi : ℕ) (l : List Entry) → rising lo hi (map time_of l) ≡ true
    → (lo ≤ hi) × (all (is_between lo hi) l ≡ true) × (pairwise is_ordered l ≡ true)
unfolding rising
rising-says lo hi [] h = (leb-true lo hi h, refl, refl)
rising-says lo hi (e ∷ l) h =
    let w = both (leb lo e.time) (rising e.time hi (map time_of l)) h in
    let low : lo ≤ e.time = leb-true _ _ w.0 in
    let rest = rising-says e.time hi l w.1 in (
      omega arith,
      and-true (between e rest.0 low)
          (all_both (is_between e.time hi) (is_between e.time hi)
          (is_between lo hi) (λ x p q. wider x low p) l rest.1 rest.1),
      and-true
          (all_both (is_between e.time hi) (is_between e.time hi) (is_ordered e)
          (λ x p q. (both (leb x.time hi) (leb e.time x.time) p).1) l rest.1 rest.1)
          rest.2,
    )
  where
    wider : (x : Entry) → lo ≤ e.time → is_between e.time hi x ≡ true → is_between lo hi x ≡ true
    wider x low p =
        let w = both (leb x.time hi) (leb e.time x.time) p in
        between x (leb-true _ _ w.0) (omega (arith, leb-true e.time x.time w.1))

says-rising : (lo hi : ℕ) (l : List Entry) → lo ≤ hi → all (is_between lo hi) l ≡ true → pairwise is_ordered l ≡ true
    → rising lo hi (map time_of l) ≡ true
unfolding rising
says-rising lo hi [] h a p = le-leb lo hi h
says-rising lo hi (e ∷ l) h a p =
    let w = both (is_between lo hi e) (all (is_between lo hi) l) a in
    let v = both (leb e.time hi) (leb lo e.time) w.0 in
    let q = both (all (is_ordered e) l) (pairwise is_ordered l) p in
    and-true v.1
    (says-rising e.time hi l (leb-true _ _ v.0)
    (all_both (is_between lo hi) (is_ordered e) (is_between e.time hi)
    (λ x s t. and-true (both (leb x.time hi) (leb lo x.time) s).0 t) l w.1 q.0)
    q.1)

-- the times of the first entries
times-from : (times : List ℕ) (a n : ℕ) → a + n ≤ length times
    → map (λ i. get_or times i 0) (up_from a n) ≡ take n (drop a times)
unfolding up_from
times-from times a zero h = refl
times-from times a (suc n) h =
    rw (drop-cons times a 0 (omega arith))
    (ap (λ (l : List ℕ). get_or times a 0 ∷ l) (times-from times (suc a) n (omega arith)))

times_of : (a : Columns) (count : ℕ) → count ≤ length a.times
    → map time_of (entries_at a count) ≡ take count a.times
unfolding entries_at
times_of a count h =
    map-map time_of (entry_at a) (up_from 0 count) ∙ times-from a.times 0 count (omega arith)

-- an entry is open at the latest time where it is no earlier than the maturity before it
open_says : (latest t : ℕ) → leb (latest - maturity) t ≡ leb (latest - t) maturity
open_says latest t =
    same_test _ _
    (λ h. le-leb (latest - t) maturity (omega (arith, leb-true (latest - maturity) t h)))
    (λ h. le-leb (latest - maturity) t (omega (arith, leb-true (latest - t) maturity h)))

all_same : {A : Type 0} (p q : A → Bool) → ((x : A) → p x ≡ q x) → (l : List A) → all p l ≡ all q l
all_same p q h [] = refl
all_same p q h (x ∷ l) = rw (h x, all_same p q h l)

timely-rising : (latest : ℕ) (l : List Entry) → rising (latest - maturity) latest (map time_of l) ≡ are_timely latest l
unfolding are_timely
timely-rising latest l =
    same_test _ _
    (λ h. let w = rising-says (latest - maturity) latest l h in rw (← open_same) (and-true w.1 w.2))
    (λ h. let w = both (all (λ e. leb e.time latest && is_open latest e) l) (pairwise is_ordered l) h in
    says-rising (latest - maturity) latest l (omega arith) (open_same ∙ w.0) w.1)
  where
    open_same : all (is_between (latest - maturity) latest) l ≡ all (λ e. leb e.time latest && is_open latest e) l
    open_same = all_same _ _ (λ e. ap (λ (b : Bool). leb e.time latest && b) (open_says latest e.time)) l

pub timely_by : (a : Columns) (count latest : ℕ) → count ≤ length a.times
    → rising (latest - maturity) latest (take count a.times) ≡ are_timely latest (entries_at a count)
timely_by a count latest h = rw (← times_of a count h) (timely-rising latest (entries_at a count))

-- a turn of the loop over the times
module _ (ts : List ℕ) (i lo hi : ℕ) where
  module _ (h : i < length ts) where
    rising_at : rising lo hi (drop i ts) ≡ (leb lo (get_or ts i 0) && rising (get_or ts i 0) hi (drop (i + 1) ts))
    unfolding rising
    rising_at = rw (add-one, drop-cons ts i 0)

    pub rising-not : get_or ts i 0 < lo → rising lo hi (drop i ts) ≡ false
    rising-not n = rising_at ∙ rw (lt-leb lo (get_or ts i 0) n)

    pub rising-more : lo ≤ get_or ts i 0
        → rising lo hi (drop i ts) ≡ rising (get_or ts i 0) hi (drop (i + 1) ts)
    rising-more n = rising_at ∙ rw (le-leb lo (get_or ts i 0) n)

  pub rising_end : length ts ≤ i → rising lo hi (drop i ts) ≡ leb lo hi
  unfolding rising
  rising_end h = rw (drop_of_length-le ts h)
