-- The entries that columns show: one more, one inside, and which are copies of a reception.
use Rattle.std.specs.Prelude.{Some, None}
use Prim.Native.Nat.{ℕ, suc, ◌+◌, ◌-◌, ◌*◌, ◌≤◌, ◌<◌}
use native.Mathlib.Nat.{zero-add}
use native.Mathlib.Omega.{arith}
use mathlib.Core.Path.{◌≡◌, refl, sym, ◌∙◌, ap}
use mathlib.Core.Bool.{Bool, true, false, not, ◌||◌}
use lib.Dec.{leb, ltb, eqb}
use mathlib.Core.List.{List, [], ◌∷◌, ◌++◌, map, map-append}
use lib.ListN.{length, get_or, drop, length-map, length-drop}
use lib.Seq.{take-take, get_or-drop}
use borrow.Author.Tests.{lt-ltb, le-ltb}
use Rattle.base_lists.specs.Lists.{any, up_from, last_index}
use Rattle.base_lists.proofs.UpFrom.{up_from_add, length-up_from, get_d_up_from}
use Rattle.base_lists.proofs.Tests.{by_test}
use Rattle.base_lists.proofs.First.{none_at}
use Rattle.base_lists.proofs.Last.{last_is, last_none, last_low}
use Rattle.radio_erp1.specs.Subtelegram.{max_length}
use Rattle.radio_erp1.specs.Same.{is_same}
use Rattle.radio_erp1.proofs.Sames.{other_length}
use Rattle.base_buffers.specs.Buffer.{part, resized}
use Rattle.base_buffers.proofs.Segments.{part_length, part-ends}
use Rattle.base_buffers.proofs.Buffer.{resized-length, resized_cut}
use Rattle.radio_telegram.specs.Repeater.{level_of}
use Rattle.collector_model.specs.View.{Reception, Entry, tx_maturity}
use Rattle.collector_model.specs.Acceptable.{is_echo, is_copy_of}
use Rattle.collector_state.specs.Collector.{Columns, entry_at, entries_at, last_copy}
use Rattle.collector_state.specs.Admission.{has_copy}
use Rattle.collector_state.specs.Private.{shown_at, copy_in}
use Rattle.collector_state.proofs.Inside.{any_last}

-- the bytes of an entry, as the code lends them
pub bytes-shown : (bytes : List ℕ) (e len : ℕ) → len ≤ max_length → max_length * e + max_length ≤ length bytes
    → part (max_length * e) (max_length * e + len - max_length * e) bytes
    ≡ resized len (part (max_length * e) max_length bytes)
bytes-shown bytes e len short h =
    let whole : length (part (max_length * e) max_length bytes) ≡ max_length =
    part_length (max_length * e) max_length bytes h in
    part-ends (max_length * e) len bytes
    ∙ sym (resized_cut len (part (max_length * e) max_length bytes) (omega arith)
    ∙ take-take len max_length (drop (max_length * e) bytes) short)

-- whether the bytes of entry i are the same telegram: those of another length are not
module _ (lens bytes : List ℕ) (i : ℕ) (xs : List ℕ) where
  pub longer_not_same : (get_or lens i 0 ≡ length xs → ⊥) → is_same (shown_at lens bytes i) xs ≡ false
  longer_not_same n = sym (other_length _ _ (λ e. n (sym (resized-length (get_or lens i 0) _) ∙ e)))

  pub same_said : (telegram : List ℕ)
      → telegram ≡ resized (length xs) (part (max_length * i) max_length bytes) → get_or lens i 0 ≡ length xs
      → is_same (shown_at lens bytes i) xs ≡ is_same telegram xs
  same_said telegram e l = rw (e, l)

-- stands for an entry past the end
abbrev pub no_entry : Entry
no_entry = record { bytes = []; time = 0; copies = 0 }

module _ (a : Columns) where
  pub entries_none : entries_at a 0 ≡ []
  unfolding entries_at up_from
  entries_none = refl

  pub entries-length : (count : ℕ) → length (entries_at a count) ≡ count
  unfolding entries_at
  entries-length count = length-map (up_from 0 count) (entry_at a) ∙ length-up_from 0 count

  pub entry_get : (count i : ℕ) → i < count → get_or (entries_at a count) i no_entry ≡ entry_at a i
  unfolding entries_at
  entry_get count i h = get_d_up_from (entry_at a) 0 count i no_entry h ∙ ap (entry_at a) (zero-add i)

  entries_at_lem : (i n : ℕ) → entries_at a (i + suc n)
      ≡ entries_at a i ++ (entry_at a i ∷ map (entry_at a) (up_from (suc i) n))
  unfolding entries_at up_from
  entries_at_lem i n = rw (up_from_add 0 i (suc n), zero-add)
      (map-append (entry_at a) (up_from 0 i) (up_from i (suc n)))

  pub entries-more : (i : ℕ) → entries_at a (i + 1) ≡ entries_at a i ++ (entry_at a i ∷ [])
  unfolding up_from
  entries-more i = entries_at_lem i 0

  pub entries-inside : (i count : ℕ) → i < count
      → (rest : List Entry) × (entries_at a count ≡ entries_at a i ++ (entry_at a i ∷ rest))
  entries-inside i count h =
      let e : i + suc (count - (i + 1)) ≡ count = omega arith in
      (map (entry_at a) (up_from (suc i) (count - (i + 1))), rw e at (entries_at_lem i (count - (i + 1))))

  -- whether entry i is a copy: one of another telegram is not, and else the time says it
  module _ (i : ℕ) (r : Reception) where
    pub not_same : is_same (shown_at a.lens a.bytes i) r.bytes ≡ false → is_copy_of (entry_at a i) r ≡ false
    unfolding is_copy_of
    not_same e = rw e

    pub same_echo : is_same (shown_at a.lens a.bytes i) r.bytes ≡ true
        → is_copy_of (entry_at a i) r ≡ is_echo (entry_at a i) r
    unfolding is_copy_of
    same_echo e = rw e

    pub echo_said : (original result : Bool) (from : ℕ)
        → original ≡ eqb (level_of r.bytes) 0 → from ≡ get_or a.times i 0
        → result ≡ (not original || leb (r.time - from) tx_maturity) → is_echo (entry_at a i) r ≡ result
    echo_said original result from e f g = sym (g ∙ rw (e, f))

    -- whether one of the first is
    pub has_more : has_copy (entries_at a i) r ≡ false
        → is_copy_of (entry_at a i) r ≡ false → has_copy (entries_at a (i + 1)) r ≡ false
    unfolding has_copy
    has_more h n = rw (entries-more i) (any_last (λ e. is_copy_of e r) (entries_at a i) (entry_at a i) h n)

  pub has_none : (r : Reception) → has_copy (entries_at a 0) r ≡ false
  unfolding has_copy
  has_none r = rw entries_none

-- there is a copy where the index of the last is that of an entry
pub found-known : (l : List Entry) (n : ℕ) (r : Reception) → length l ≡ n → ltb (last_copy l r) n ≡ has_copy l r
unfolding last_copy has_copy
found-known l n r long =
    by_test (any (λ x. is_copy_of x r) l)
    (λ e. lt-ltb (last_index (λ x. is_copy_of x r) l) n (omega (arith, last_low (λ x. is_copy_of x r) l e)) ∙ sym e)
    (λ e. le-ltb (last_index (λ x. is_copy_of x r) l) n (omega (arith, last_none (λ x. is_copy_of x r) l e)) ∙ sym e)

module _ (a : Columns) where
  -- ---- the entries after the first `gone` of `count`, and the last of them that is a copy

  module _ (gone count : ℕ) where
    abbrev left : List Entry
    left = drop gone (entries_at a count)

    pub left-length : length left ≡ count - gone
    left-length = length-drop gone (entries_at a count) ∙ ap (λ (n : ℕ). n - gone) (entries-length a count)

    left_get : (k : ℕ) → gone + k < count → get_or left k no_entry ≡ entry_at a (gone + k)
    left_get k h = get_or-drop gone (entries_at a count) k no_entry ∙ entry_get a count (gone + k) h

    module _ (r : Reception) where
      last_found : (i : ℕ) → gone ≤ i → i < count → is_copy_of (entry_at a i) r ≡ true
          → ((j : ℕ) → i < j → j < count → is_copy_of (entry_at a j) r ≡ false)
          → i - gone ≡ last_copy left r
      unfolding last_copy
      last_found i g h e later =
          let same : gone + (i - gone) ≡ i = omega arith in
          sym (last_is (λ x. is_copy_of x r) no_entry left (i - gone) (omega (arith, left-length))
          (rw (left_get (i - gone) (omega arith), same) e)
          (λ j k l. let m : gone + j < count = omega (arith, left-length, l) in
          rw (left_get j m) (later (gone + j) (omega arith) m)))

      pub copy_found : (i : ℕ) → gone ≤ i → i < count → is_copy_of (entry_at a i) r ≡ true
          → ((j : ℕ) → i < j → j < count → is_copy_of (entry_at a j) r ≡ false)
          → Some (i - gone) ≡ copy_in left r
      copy_found i g h e later =
          let k = last_found i g h e later in
          let known : has_copy left r ≡ true =
          sym (found-known left (count - gone) r left-length)
          ∙ lt-ltb (last_copy left r) (count - gone) (omega (arith, k)) in
          rw (known, k)

      pub none_found : ((j : ℕ) → gone ≤ j → j < count → is_copy_of (entry_at a j) r ≡ false) → None ≡ copy_in left r
      unfolding has_copy
      none_found each = rw none
        where
          none : has_copy left r ≡ false
          none = none_at (λ x. is_copy_of x r) no_entry left
              (λ j l. let m : gone + j < count = omega (arith, left-length, l) in
              rw (left_get j m) (each (gone + j) (omega arith) m))
