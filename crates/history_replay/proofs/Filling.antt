-- Lists of a burst that are held by value.
--     Filled, filled-start, filled_next, filled-end      elements read one after the other
--     receptions-are, places-are                         what both lists hold
--     cells, cells-length, cell_at                       the places of the second, as they are written
use Prim.Native.Nat.{ℕ, zero, suc, ◌+◌, ◌*◌, ◌≤◌, ◌<◌}
use native.Mathlib.Nat.{zero-add}
use native.Mathlib.Numerals.{add-one}
use native.Mathlib.Omega.{arith}
use mathlib.Core.Path.{◌≡◌, refl, sym, ap, ap₂, ◌∙◌}
use mathlib.Core.List.{List, [], ◌∷◌, ◌++◌, map, map-append}
use lib.ListN.{length, get_or, take, set, length-set, length-map, length-take, replicate}
use lib.Seq.{take-suc, take-set-le, get_or-set_same, get_or-take}
use Rattle.base_lists.specs.Lists.{up_from}
use Rattle.base_lists.proofs.Tests.{get_d_map}
use Rattle.base_lists.proofs.UpFrom.{up_from_add}
use Rattle.base_buffers.proofs.Segments.{part-replicate}
use Rattle.collector_model.specs.View as view
use Rattle.collector_model.specs.Burst.{Replied}
use Rattle.collector_burst.specs.declared.Reception.{Reception}
use Rattle.collector_burst.specs.declared.Reply.{Reply}
use Rattle.collector_burst.specs.Records.{listed, reception_of, replied_of}
use Rattle.history_replay_model.specs.Record.{reply_of}
use Rattle.history_replay.specs.Calls.{call_length, record_at, number_at, record_count, burst_reception_in, burst_receptions_in, place_in}

-- ---- elements that are read one after the other; d stands for one past the end

module _ {A B : Type 0} (is : A → B) (at : ℕ → B) (d : A) where
  -- the first i are read from s
  pub record Filled (s : List ℕ) (n : ℕ) (all : List A) (i : ℕ) : Type 0 where
    pub least : i ≤ n
    pub few : n ≤ listed
    pub whole : call_length * n ≤ length s
    pub long : length all ≡ listed
    pub read : map is (take i all) ≡ map at (up_from 0 i)

  pub filled_start : (s : List ℕ) (n : ℕ) (all : List A) → n ≤ listed
      → call_length * n ≤ length s → length all ≡ listed → Filled s n all 0
  unfolding up_from
  filled_start s n all few whole long =
      record { least = omega arith; few = few; whole = whole; long = long; read = refl }

  module _ (s : List ℕ) (n : ℕ) (all : List A) (i : ℕ) (f : Filled s n all i) where
    next_number : up_from 0 (i + 1) ≡ up_from 0 i ++ (i ∷ [])
    unfolding up_from
    next_number = up_from_add 0 i 1 ∙ ap (λ (k : ℕ). up_from 0 i ++ (k ∷ [])) (zero-add i)

    pub filled_next : i < n → (x : A) → is x ≡ at i → Filled s n (set all i x) (i + 1)
    filled_next h x e =
        let inside : i < length all = omega (arith, f.few, f.long) in
        let within : i < length (set all i x) = rw (length-set all i x) inside in
        let front : take (i + 1) (set all i x) ≡ take i all ++ (x ∷ []) =
        ap (λ (k : ℕ). take k (set all i x)) (add-one i) ∙ take-suc (set all i x) i d within
        ∙ ap₂ (λ (l : List A) (y : A). l ++ (y ∷ []))
        (take-set-le i all i x (omega arith)) (get_or-set_same all i x d inside)
        in
        record {
          least = omega arith;
          few = f.few;
          whole = f.whole;
          long = length-set all i x ∙ f.long;
          read =
              ap (map is) front ∙ map-append is (take i all) (x ∷ [])
              ∙ ap₂ (λ (l : List B) (y : B). l ++ (y ∷ [])) f.read e
              ∙ sym (ap (map at) next_number ∙ map-append at (up_from 0 i) (i ∷ []));
        }

    pub filled_end : n ≤ i → map is (take n all) ≡ map at (up_from 0 n)
    filled_end h =
        let e : i ≡ n = omega (arith, f.least) in
        rw e at f.read

-- ---- receptions

-- record i
abbrev pub reception_at : List ℕ → ℕ → view.Reception
reception_at s i = burst_reception_in (record_at s i)

-- stands for a record past the end
abbrev pub none : Reception
none = record { bytes = []; len = 0; time = 0 }

-- and moments
abbrev pub moment_at : List ℕ → ℕ → ℕ
moment_at s i = number_at 1 (record_at s i)

pub map_same : (l : List ℕ) → map (λ n. n) l ≡ l
map_same [] = refl
map_same (n ∷ l) = ap (λ (k : List ℕ). n ∷ k) (map_same l)

-- as many as the bytes say
pub receptions_are : (s : List ℕ) (all : List Reception) (n : ℕ) → n ≡ record_count s
    → map reception_of (take n all) ≡ map (reception_at s) (up_from 0 n)
    → map reception_of (take n all) ≡ burst_receptions_in s
unfolding burst_receptions_in
receptions_are s all n e h = h ∙ ap (λ (k : ℕ). map (reception_at s) (up_from 0 k)) e

-- ---- places

map-replicate : (p : Reply) (n : ℕ) → map replied_of (replicate n p) ≡ replicate n (replied_of p)
map-replicate p zero = refl
map-replicate p (suc n) = ap (λ (l : List Replied). replied_of p ∷ l) (map-replicate p n)

pub places_are : (r : List ℕ) (all : List Reply) (p : Reply) (m : ℕ)
    → m ≤ listed → all ≡ replicate listed p → replied_of p ≡ place_in r
    → map replied_of (take m all) ≡ replicate m (place_in r)
places_are r all p m h e is =
    ap (λ (l : List Reply). map replied_of (take m l)) e
    ∙ ap (map replied_of) (part-replicate 0 m listed p (omega arith)) ∙ map-replicate p m
    ∙ ap (replicate m) is

-- ---- the first m places, as they are written

abbrev pub cells : ℕ → List Reply → List (List ℕ)
cells m l = map reply_of (map replied_of (take m l))

module _ (m : ℕ) (l : List Reply) (h : m ≤ length l) where
  pub replies-length : length (map replied_of (take m l)) ≡ m
  replies-length = length-map (take m l) replied_of ∙ rw length-take (omega arith)

  pub cells-length : length (cells m l) ≡ m
  cells-length = length-map (map replied_of (take m l)) reply_of ∙ replies-length

  pub cell_at : (i : ℕ) (d : Reply) → i < m → get_or (cells m l) i [] ≡ reply_of (replied_of (get_or l i d))
  cell_at i d k =
      let inside : i < length (take m l) = rw length-take (omega arith) in
      get_d_map reply_of (map replied_of (take m l)) i (replied_of d) [] (omega (arith, replies-length))
      ∙ ap reply_of (get_d_map replied_of (take m l) i d (replied_of d) inside ∙ ap replied_of (get_or-take m l i d k))
