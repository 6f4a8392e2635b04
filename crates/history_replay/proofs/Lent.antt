-- The lists of a burst as the library's call is lent them: bytes one after the other.
--     Laid, laid-start, laid_next, laid_end      segments of one length put one after the other into a buffer
--     moments, frames, frames-count, frame_at    what the records say
--     receptions-lent, places-lent               the receptions and the places that the bytes hold
--     made                                       a burst of them
--     front_length, come-back-length, come-back-front      the front of a list, lent and come back
--     cells, cells_count, cell_at                the places, as they are written
use Prim.Native.Nat.{ℕ, suc, ◌+◌, ◌-◌, ◌*◌, ◌/◌, ◌≤◌, ◌<◌}
use native.Mathlib.Nat.{zero-add, mul-zero}
use native.Mathlib.Omega.{arith}
use mathlib.Core.Path.{◌≡◌, refl, sym, ap, ap₂, subst, ◌∙◌}
use mathlib.Core.Bool.{true}
use mathlib.Core.List.{List, [], ◌∷◌, ◌++◌, map, flatten}
use lib.Dec.{eqb}
use lib.ListN.{length, get_or, take, drop, length-append, length-map, length-take, length-drop, replicate, length-replicate, get_or-replicate}
use lib.Seq.{ext_get_or, take_all, take_at}
use Rattle.base_lists.specs.Lists.{up_from}
use borrow.Author.Tests.{eqb-true, eq-eqb}
use Rattle.base_lists.proofs.Tests.{by_test, get_d_map}
use Rattle.base_lists.proofs.UpFrom.{length-up_from, get_d_up_from, map_same}
use Rattle.radio_erp1.specs.Subtelegram.{max_length}
use Rattle.base_buffers.specs.Buffer.{part, resized}
use Rattle.base_buffers.proofs.Segments.{part_length, Each, flatten-length, flatten-part, Begun, begin, so_far, turn, turned}
use Rattle.block_layout.specs.BigEndian.{be}
use Rattle.collector_model.specs.Answer.{shown_number}
use Rattle.collector_model.specs.View.{Reception}
use Rattle.collector_model.specs.Burst.{burst_of}
use Rattle.collector_model.specs.History.{Burst}
use Rattle.c_layout.specs.Frame.{frame_length}
use Rattle.c_collector.specs.State.{Arrays, state_at}
use Rattle.c_burst.specs.Bytes as c_burst
use Rattle.c_burst.specs.Calls.{Bursts}
use Rattle.history_calls.specs.Answers.{shown_with, replied_in, replies_in_places}
use Rattle.history_calls.specs.Elements.{arrays_after}
use Rattle.history_calls.proofs.Bursts.{none, replies-count, reply_at, bursts_are}
use Rattle.history_calls.proofs.Elements.{bursted}
use Rattle.history_replay_model.specs.Record.{form_of, reply_of}
use Rattle.history_replay.specs.Calls.{call_length, record_at, number_at, record_count, burst_receptions_in, place_in}
use Rattle.history_replay.specs.Private.{frame_in, place_bytes, reply_cell, BurstMade}
use Rattle.history_replay.proofs.Records.{field_lent}

-- ---- the number that a kind and a number say

pub number_in : (kind number : ℕ) → shown_number (shown_with kind number) ≡ number
number_in kind number =
    by_test (eqb number 0)
    (λ z. rw z (by_test (eqb kind 0) (λ a. rw a (sym (eqb-true number 0 z)))
    (λ a. by_test (eqb kind 1) (λ b. rw (a, b) (sym (eqb-true number 0 z)))
    (λ b. rw (a, b) (sym (eqb-true number 0 z))))))
    (λ z. rw z)

-- ---- segments

-- the first i of n segments of length w are put
pub record Laid (segs : List (List ℕ)) (w n : ℕ) (orig xs : List ℕ) (i : ℕ) : Type 0 where
  pub least : i ≤ n
  pub many : length segs ≡ n
  pub room : w * n ≤ length orig
  pub begun : Begun orig (flatten (take i segs)) (w * i) xs

pub laid_start : (segs : List (List ℕ)) (w n : ℕ) (orig : List ℕ)
    → length segs ≡ n → w * n ≤ length orig → Laid segs w n orig orig 0
unfolding flatten
laid_start segs w n orig many room =
    record { least = omega arith; many = many; room = room; begun = rw mul-zero (begin orig) }

module _ (segs : List (List ℕ)) (w n : ℕ) (orig xs : List ℕ) (i : ℕ) (l : Laid segs w n orig xs i) where
  pub laid_next : i < n → w * i + w ≤ length orig → (ys : List ℕ)
      → ys ≡ get_or segs i [] → length ys ≡ length (part (w * i) (w * i + w - w * i) xs)
      → Laid segs w n orig (take (w * i) xs ++ (ys ++ drop (w * i + w - w * i) (drop (w * i) xs))) (i + 1)
  laid_next h fits ys e k = record {
    least = omega arith;
    many = l.many;
    room = l.room;
    begun = turn orig segs w i xs ys l.begun (omega (arith, l.many)) e k fits;
  }

  pub laid_end : n ≤ i → take (w * n) xs ≡ flatten segs
  laid_end h = so_far (turned orig segs w n i xs l.begun (omega (arith, l.least)) l.many)

-- ---- what the records say

module _ (s : List ℕ) (n : ℕ) where
  abbrev pub moments : List ℕ
  moments = map (λ i. number_at 1 (record_at s i)) (up_from 0 n)

  abbrev pub frames : List (List ℕ)
  frames = map (λ i. frame_in (record_at s i)) (up_from 0 n)

  pub frames_count : length frames ≡ n
  frames_count = length-map (up_from 0 n) _ ∙ length-up_from 0 n

  pub frame_at : (i : ℕ) → i < n → get_or frames i [] ≡ frame_in (record_at s i)
  frame_at i h = get_d_up_from (λ i. frame_in (record_at s i)) 0 n i [] h
      ∙ ap (λ i. frame_in (record_at s i)) (zero-add i)

  moment_at : (i : ℕ) → i < n → get_or moments i 0 ≡ number_at 1 (record_at s i)
  moment_at i h =
      get_d_up_from (λ i. number_at 1 (record_at s i)) 0 n i 0 h ∙ ap (λ i. number_at 1 (record_at s i)) (zero-add i)

  pub moments-count : length moments ≡ n
  moments-count = length-map (up_from 0 n) _ ∙ length-up_from 0 n

  module _ (whole : call_length * n ≤ length s) where
    each : Each frame_length frames
    each i h =
        let k : i < n = omega (arith, frames_count) in
        let l : length (record_at s i) ≡ call_length = part_length (call_length * i) call_length s (omega arith) in
        ap length (frame_at i k) ∙ ap suc (part_length 10 max_length (record_at s i) (omega arith))

    pub frames_length : length (flatten frames) ≡ frame_length * n
    frames_length = flatten-length frame_length frames each ∙ ap (λ k. frame_length * k) frames_count

    pub receptions-lent : n ≡ record_count s → c_burst.receptions_in moments (flatten frames) ≡ burst_receptions_in s
    unfolding c_burst.receptions_in burst_receptions_in
    receptions-lent e =
        ap (λ k. map (λ i. c_burst.reception_in (part (frame_length * i) frame_length (flatten frames))
        (get_or moments i 0))
        (up_from 0 k))
        moments-count
        ∙ map_same _ _ 0 n (λ i low h. same i (omega arith))
        ∙ ap (λ k. map (λ i. c_burst.reception_in (frame_in (record_at s i)) (number_at 1 (record_at s i)))
        (up_from 0 k)) e
      where
        same : (i : ℕ) → i < n
            → c_burst.reception_in (part (frame_length * i) frame_length (flatten frames)) (get_or moments i 0)
            ≡ c_burst.reception_in (frame_in (record_at s i)) (number_at 1 (record_at s i))
        same i h =
            ap₂ c_burst.reception_in
            (flatten-part frame_length frames each i (omega (arith, frames_count)) ∙ frame_at i h) (moment_at i h)

-- ---- the places

abbrev pub old : List ℕ → ℕ → List (List ℕ)
old r m = replicate m (place_bytes r)

module _ (r : List ℕ) (m : ℕ) where
  pub old-count : length (old r m) ≡ m
  old-count = length-replicate m (place_bytes r)

  pub old_at : (i : ℕ) → i < m → get_or (old r m) i [] ≡ place_bytes r
  old_at i h = get_or-replicate m i (place_bytes r) [] h

module _ (r : List ℕ) (m : ℕ) (whole : length r ≡ call_length) where
  abbrev bytes : List ℕ
  bytes = flatten (old r m)

  each-old : Each c_burst.reply_length (old r m)
  each-old i h =
      ap length (old_at r m i (omega (arith, old-count r m)))
      ∙ ap (λ k. suc (suc (suc k))) (part_length 27 max_length r (omega arith))

  pub old-length : length (flatten (old r m)) ≡ c_burst.reply_length * m
  old-length = flatten-length c_burst.reply_length (old r m) each-old
      ∙ ap (λ k. c_burst.reply_length * k) (old-count r m)

  pub places_lent : replies_in_places (flatten (old r m)) ≡ replicate m (place_in r)
  places_lent =
      ext_get_or none (replies_in_places bytes) (replicate m (place_in r))
      (count ∙ sym (length-replicate m (place_in r)))
      (λ i h. same i (omega (arith, count)))
    where
      room : length bytes / c_burst.reply_length ≡ m
      room = omega (arith, old-length)

      count : length (replies_in_places bytes) ≡ m
      count = replies-count bytes ∙ room

      same : (i : ℕ) → i < m → get_or (replies_in_places bytes) i none ≡ get_or (replicate m (place_in r)) i none
      same i h =
          reply_at bytes i (omega (arith, room))
          ∙ ap replied_in
          (flatten-part c_burst.reply_length (old r m) each-old i (omega (arith, old-count r m)) ∙ old_at r m i h)
          ∙ sym (get_or-replicate m i (place_in r) none h)

-- ---- a burst of them

-- all from the start
pub front : (n : ℕ) (l : List ℕ) → part 0 (n - 0) l ≡ take n l
front n l =
    let e : n - 0 ≡ n = omega arith in
    rw e

module _ (records : List ℕ) (n : ℕ) (e : n ≡ record_count records) where
  whole_records : call_length * n ≤ length records
  whole_records = omega (arith, e)

  sized : c_burst.is_sized (length (moments records n)) (length (flatten (frames records n))) ≡ true
  sized =
      rw (moments-count records n, frames_length records n whole_records)
      (eq-eqb (frame_length * n) (frame_length * n) refl)

  pub made : {s s' : Arrays} {setting k : ℕ} {old new : List ℕ} (ms fs : List ℕ)
      → take n ms ≡ moments records n → take (frame_length * n) fs ≡ flatten (frames records n)
      → Bursts s setting (part 0 (n - 0) ms) (part 0 (frame_length * n - 0) fs) old k s' new
      → BurstMade s setting (burst_receptions_in records) old k s' new
  made {s} {s'} {setting} {k} {old} {new} ms fs f g b = record {
    result = bursts_are sized is
        ∙ ap (λ (rs : List Reception). burst_of setting (state_at s) rs (replies_in_places old)) said;
    elements = bursted sized is
        ∙ ap (λ (rs : List Reception). arrays_after s (Burst setting rs (replies_in_places old))) said;
  }
    where
      is : Bursts s setting (moments records n) (flatten (frames records n)) old k s' new
      is = subst (λ (l : List ℕ). Bursts s setting l (flatten (frames records n)) old k s' new) (front n ms ∙ f)
          (subst (λ (l : List ℕ). Bursts s setting (part 0 (n - 0) ms) l old k s' new)
          (front (frame_length * n) fs ∙ g) b)

      said : c_burst.receptions_in (moments records n) (flatten (frames records n)) ≡ burst_receptions_in records
      said = receptions-lent records n whole_records e

-- ---- the front of a list, lent and come back

abbrev pub come_back : ℕ → List ℕ → List ℕ → List ℕ
come_back n xs ys = take 0 xs ++ (ys ++ drop (n - 0) (drop 0 xs))

module _ (n : ℕ) (xs ys : List ℕ) (room : n ≤ length xs) (kept : length ys ≡ length (part 0 (n - 0) xs)) where
  pub front_length : length ys ≡ n
  front_length = kept ∙ ap length (front n xs) ∙ length-take n xs ∙ omega arith

  pub come_back-length : length (come_back n xs ys) ≡ length xs
  come_back-length = simp (length-append, length-drop) (omega (arith, front_length))

  pub come_back_front : part 0 (n - 0) (come_back n xs ys) ≡ ys
  come_back_front = front n (come_back n xs ys) ∙ take_at ys (drop (n - 0) xs) n front_length

-- ---- the places, as they are written

abbrev pub cells : List ℕ → List (List ℕ)
cells places = map reply_of (replies_in_places places)

-- one place: its bytes in the record
pub place_cell : (place : List ℕ) → length place ≡ c_burst.reply_length → (form len : ℕ) (bytes : List ℕ)
    → form ≡ form_of (shown_with (get_or place 0 0) (get_or place 1 0))
    → len ≡ get_or place 2 0 → bytes ≡ resized max_length (part 3 max_length place)
    → reply_cell form (get_or place 1 0) (record { len = len; bytes = bytes }) ≡ reply_of (replied_in place)
unfolding reply_of
place_cell place whole form len bytes e f g =
    let l : length (drop 3 place) ≤ max_length = omega (arith, length-drop 3 place) in
    let is : bytes ≡ drop 3 place = g ∙ field_lent place 3 (omega arith) ∙ take_all max_length (drop 3 place) l in
    let n = sym (number_in (get_or place 0 0) (get_or place 1 0)) in
    λ i. (e i ∷ n i ∷ []) ++ be 8 (f i) ++ resized max_length (is i)

module _ (places : List ℕ) (m : ℕ) (whole : length places ≡ c_burst.reply_length * m) where
  room : length places / c_burst.reply_length ≡ m
  room = omega arith

  pub count : length (replies_in_places places) ≡ m
  count = replies-count places ∙ room

  pub cells_count : length (cells places) ≡ m
  cells_count = length-map (replies_in_places places) reply_of ∙ count

  pub cell_at : (i : ℕ) → i < m
      → get_or (cells places) i [] ≡ reply_of (replied_in (part (c_burst.reply_length * i) c_burst.reply_length places))
  cell_at i h =
      get_d_map reply_of (replies_in_places places) i none [] (omega (arith, count))
      ∙ ap reply_of (reply_at places i (omega (arith, room)))
