-- What a record says, in the form in which the code lends and tests it.
--     bytes-lent, number_is, field-lent, window-is      the bytes of a reception; a number; 21 bytes; bytes lent beside the calls
--     call-receive, .., call-look      which call a record says
--     size-lent                        what is written of it has a length that the record alone tells
--     lent-record, record-length       record i
--     calls-more, calls-all            the calls of all records, one more at a time
--     sizes-more, sizes-lent           and how long their record is
use Prim.Native.Nat.{ℕ, ◌+◌, ◌-◌, ◌*◌, ◌/◌, ◌≤◌, ◌<◌, min}
use native.Mathlib.Nat.{zero-add}
use native.Mathlib.Numerals.{add-one}
use native.Mathlib.Decide.{dec_lt}
use native.Mathlib.Omega.{arith}
use mathlib.Core.Path.{◌≡◌, refl, sym, ap, ap₂, ◌∙◌}
use mathlib.Core.List.{List, [], ◌∷◌, ◌++◌, map}
use lib.Dec.{eqb}
use lib.ListN.{length, length-map, get_or, take, drop, length-drop, length-take, drop_of_length-le}
use lib.Seq.{take_all, take-take, take-suc}
use borrow.Author.Tests.{ne_eqb}
use Rattle.base_lists.specs.Lists.{up_from}
use Rattle.base_lists.proofs.Tests.{by_test}
use Rattle.base_lists.proofs.UpFrom.{length-up_from, get_d_up_from}
use Rattle.radio_erp1.specs.Subtelegram.{max_length}
use Rattle.base_buffers.specs.Buffer.{part, resized}
use Rattle.block_layout.specs.BigEndian.{unbe}
use Rattle.base_buffers.proofs.Buffer.{resized_whole}
use Rattle.base_buffers.proofs.Segments.{part_length, part-ends, take_clamped}
use Rattle.collector_model.specs.History.{Receive, Checkpoint, Restore, Cut, Burst, Ask, Look}
use Rattle.history_replay_model.specs.Operation.{receiving, saving, cutting, restoring, delivering, asking}
use Rattle.history_replay_model.specs.Replay.{call_size, size_of_all}
use Rattle.history_replay_model.proofs.Sizes.{size_append}
use Rattle.history_replay.specs.Calls.{call_length, record_at, call_setting, call_reception, output_in, lent_in, burst_receptions_in, places_in, asked_entry, call_in, calls_in}

-- ---- the fields of a record

-- as many bytes as it has
pub bytes-lent : (r : List ℕ) (n m : ℕ) → m ≡ min n 53 → part 10 (10 + m - 10) r ≡ take n (part 10 53 r)
bytes-lent r n m e = part-ends 10 m r ∙ elim (dec_lt n 53) [
  | yes h ↦ (let k : m ≡ n = omega arith in rw k (sym (take-take n 53 (drop 10 r) (omega arith))))
  | no h ↦
      (let k : m ≡ 53 = omega arith in
      rw k (sym (take_all n (part 10 53 r) (omega (arith, length-take 53 (drop 10 r))))))
]

pub number_is : (r : List ℕ) (a : ℕ) → unbe (take 8 (part a (a + 8 - a) r)) ≡ unbe (part a 8 r)
number_is r a = rw (part-ends a 8 r) (ap unbe (take-take 8 8 (drop a r) (omega arith)))

-- 21 bytes, copied into an array of 21
pub field_lent : (r : List ℕ) (a : ℕ) → a + max_length ≤ length r
    → resized max_length (part a max_length r) ≡ part a max_length r
field_lent r a h = resized_whole max_length (part a max_length r) (part_length a max_length r h)

drop_clamped : (a : ℕ) (s : List ℕ) → drop (min a (length s)) s ≡ drop a s
drop_clamped a s = elim (dec_lt a (length s)) [
  | yes h ↦ (let e : min a (length s) ≡ a = omega arith in rw e)
  | no h ↦
      (let e : min a (length s) ≡ length s = omega arith in
      let l : length s ≤ a = omega arith in
      let k : length s ≤ length s = omega arith in
      rw (e, drop_of_length-le s k, drop_of_length-le s l))
]

pub window_is : (s : List ℕ) (a n x y : ℕ) → x ≡ min a (length s) → y ≡ min n (length (take (length s - x) (drop x s)))
    → take (y - 0) (take (length s - x) (drop x s)) ≡ part a n s
window_is s a n x y e f =
    let all : take (length s - x) (drop x s) ≡ drop a s =
    take_all (length s - x) (drop x s) (rw length-drop (omega arith)) ∙ ap (λ (k : ℕ). drop k s) e ∙ drop_clamped a s
    in
    let l : y ≡ min n (length (drop a s)) = rw all at f in
    let g : y - 0 ≡ min n (length (drop a s)) = omega arith in
    rw (all, g) (take_clamped n (drop a s))

-- ---- which call a record says

module _ (lent r : List ℕ) where
  pub call_receive : get_or r 0 0 ≡ receiving → call_in lent r ≡ Receive (call_setting r) (call_reception r)
  unfolding call_in
  call_receive e = rw e

  pub call_checkpoint : get_or r 0 0 ≡ saving → call_in lent r ≡ Checkpoint (output_in r)
  unfolding call_in
  call_checkpoint e = rw e

  pub call_cut : get_or r 0 0 ≡ cutting → call_in lent r ≡ Cut (output_in r)
  unfolding call_in
  call_cut e = rw e

  pub call_restore : get_or r 0 0 ≡ restoring → call_in lent r ≡ Restore (lent_in lent r)
  unfolding call_in
  call_restore e = rw e

  pub call_burst : get_or r 0 0 ≡ delivering
      → call_in lent r ≡ Burst (call_setting r) (burst_receptions_in (lent_in lent r)) (places_in r)
  unfolding call_in
  call_burst e = rw e

  pub call_ask : get_or r 0 0 ≡ asking → call_in lent r ≡ Ask (asked_entry r)
  unfolding call_in
  call_ask e = rw e

  -- byte 0 is none of these
  pub record Other : Type 0 where
    pub receive : get_or r 0 0 ≡ receiving → ⊥
    pub checkpoint : get_or r 0 0 ≡ saving → ⊥
    pub cut : get_or r 0 0 ≡ cutting → ⊥
    pub restore : get_or r 0 0 ≡ restoring → ⊥
    pub burst : get_or r 0 0 ≡ delivering → ⊥
    pub ask : get_or r 0 0 ≡ asking → ⊥

  pub call_look : Other → call_in lent r ≡ Look
  unfolding call_in
  call_look o =
      rw (
        ne_eqb (get_or r 0 0) receiving o.receive,
        ne_eqb (get_or r 0 0) saving o.checkpoint,
        ne_eqb (get_or r 0 0) cutting o.cut,
        ne_eqb (get_or r 0 0) restoring o.restore,
        ne_eqb (get_or r 0 0) delivering o.burst,
        ne_eqb (get_or r 0 0) asking o.ask,
      )

-- what is written of a call has a length that the bytes lent beside it do not change
pub size-lent : (lent r : List ℕ) → call_size (call_in lent r) ≡ call_size (call_in [] r)
unfolding call_in
size-lent lent r =
    by_test (eqb (get_or r 0 0) receiving) (λ a. rw a)
    (λ a. by_test (eqb (get_or r 0 0) saving) (λ b. rw (a, b))
    (λ b. by_test (eqb (get_or r 0 0) cutting) (λ c. rw (a, b, c))
    (λ c. by_test (eqb (get_or r 0 0) restoring) (λ d. rw (a, b, c, d))
    (λ d. by_test (eqb (get_or r 0 0) delivering) (λ e. rw (a, b, c, d, e))
    (λ e. by_test (eqb (get_or r 0 0) asking) (λ f. rw (a, b, c, d, e, f)) (λ f. rw (a, b, c, d, e, f)))))))

-- ---- the calls of all records

-- record i, as it is lent: with both its ends written out
abbrev pub lent_record_lem : List ℕ → ℕ → List ℕ
lent_record_lem calls i = part (call_length * i) (call_length * i + call_length - call_length * i) calls

pub lent_record : (calls : List ℕ) (i : ℕ) → lent_record_lem calls i ≡ record_at calls i
lent_record calls i = part-ends (call_length * i) call_length calls

pub record_length : (calls : List ℕ) (i : ℕ) → call_length * i + call_length ≤ length calls
    → length (lent_record_lem calls i) ≡ call_length
record_length calls i h = ap length (lent_record calls i) ∙ part_length (call_length * i) call_length calls h

module _ (lent calls : List ℕ) where
  abbrev pub count : ℕ
  count = length calls / call_length

  calls_length : length (calls_in lent calls) ≡ count
  unfolding calls_in
  calls_length = length-map (up_from 0 count) _ ∙ length-up_from 0 count

  call_is : (i : ℕ) → i < count → get_or (calls_in lent calls) i Look ≡ call_in lent (record_at calls i)
  unfolding calls_in
  call_is i h =
      get_d_up_from (λ (j : ℕ). call_in lent (record_at calls j)) 0 count i Look h
      ∙ ap (λ (j : ℕ). call_in lent (record_at calls j)) (zero-add i)

  pub calls_more : (i : ℕ) → i < count
      → take (i + 1) (calls_in lent calls) ≡ take i (calls_in lent calls) ++ (call_in lent (record_at calls i) ∷ [])
  calls_more i h =
      let l : i < length (calls_in lent calls) = rw calls_length h in
      rw (add-one, take-suc (calls_in lent calls) i Look l, call_is i h)

  pub calls_all : (i : ℕ) → i ≡ count → take i (calls_in lent calls) ≡ calls_in lent calls
  calls_all i e = take_all i (calls_in lent calls) (omega (arith, calls_length))

-- how long the record of the first i + 1 calls is
pub sizes_more : (calls : List ℕ) (i size : ℕ) → i < length calls / call_length
    → size ≡ call_size (call_in [] (lent_record_lem calls i))
    → size_of_all (take (i + 1) (calls_in [] calls)) ≡ size_of_all (take i (calls_in [] calls)) + size
sizes_more calls i size h e =
    let k = call_in [] (record_at calls i) in
    ap size_of_all (calls_more [] calls i h) ∙ size_append (take i (calls_in [] calls)) (k ∷ [])
    ∙ rw (e, lent_record calls i) (omega arith)

sizes_same : (lent calls xs : List ℕ)
    → size_of_all (map (λ (i : ℕ). call_in lent (record_at calls i)) xs) ≡ size_of_all (map (λ (i : ℕ). call_in []
    (record_at calls i)) xs)
sizes_same lent calls [] = refl
sizes_same lent calls (i ∷ xs) = ap₂ ◌+◌ (size-lent lent (record_at calls i)) (sizes_same lent calls xs)

pub sizes_lent : (lent calls : List ℕ) → size_of_all (calls_in lent calls) ≡ size_of_all (calls_in [] calls)
unfolding calls_in
sizes_lent lent calls = sizes_same lent calls (up_from 0 (length calls / call_length))
