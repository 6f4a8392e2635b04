use Rattle.std.specs.Prelude.{Ok, Err}
-- The calls one after the other.
--     both_loans                  the same arrays are lent after one call and another
--     Made, none_made, turn       the record of the first i calls is written, and the arrays are those after them: at the start, and a call more
--     enough                      there is room for a call more
--     ran, refused                all of them, and none of them
--     replays                     from a fresh collector: by the whole-history theorem
use Prim.Native.Nat.{ℕ, ◌+◌, ◌-◌, ◌/◌, ◌≤◌, ◌<◌}
use native.Mathlib.Omega.{arith}
use mathlib.Core.Path.{◌≡◌, refl, sym, ap, subst, ◌∙◌}
use mathlib.Core.List.{List, [], ◌∷◌, ◌++◌, flatten}
use lib.ListN.{length, take, drop}
use borrow.Author.Tests.{lt-ltb, le-ltb}
use Rattle.base_refusal.specs.declared.Refusal.TheVariants.{ShortOutput}
use Rattle.base_buffers.specs.Buffer.{part}
use Rattle.base_buffers.proofs.Segments.{Begun, begin, lend, named}
use Rattle.collector_model.specs.View.{View, fresh}
use Rattle.collector_model.specs.History.{Call, run, common}
use Rattle.collector_model.proofs.Theorem.{whole_history}
use Rattle.c_collector.specs.declared.Lent.{Lent}
use Rattle.c_collector.specs.State.{Arrays, SameLoans, state_at}
use Rattle.history_calls.specs.Elements.{fresh_arrays, arrays_after, arrays_after_all}
use Rattle.history_replay_model.specs.Record.{record_of}
use Rattle.history_replay_model.specs.Replay.{after_call, after_calls, call_size, size_of_all, put_record}
use Rattle.history_replay_model.proofs.Parts.{after_append, in_parts}
use Rattle.history_replay_model.proofs.Sizes.{sized, size_append, size-part}
use Rattle.history_replay.specs.declared.Replayed.{Replayed}
use Rattle.history_replay.specs.Calls.{call_length, call_in, calls_in, record_at}
use Rattle.history_replay.specs.Replay.{replayed_of, Resumes, Replays}
use Rattle.history_replay.specs.Private.{Called}
use Rattle.history_replay.proofs.Records.{lent_record_lem, lent_record, calls_more, size-lent, sizes_lent}

-- ---- the arrays that are lent

pub both_loans : {a b c : Lent} → SameLoans a b → SameLoans b c → SameLoans a c
both_loans h k = record {
  times = k.times ∙ h.times;
  lengths = k.lengths ∙ h.lengths;
  bytes = k.bytes ∙ h.bytes;
  copies = k.copies ∙ h.copies;
  numbers = k.numbers ∙ h.numbers;
}

-- ---- one call more

-- the record of these calls is written, and the arrays are those after them
pub record Made (s : Arrays) (h : List Call) (entry xs : List ℕ) (at : ℕ) (s' : Arrays) : Type 0 where
  pub begun : Begun entry (record_of (run (state_at s) h)) at xs
  pub state : state_at s' ≡ after_calls (state_at s) h
  pub elements : s' ≡ arrays_after_all s h

-- at a turn of the loop over the calls
pub record Calling (calls lent : List ℕ) (s : Arrays) (i i-end : ℕ)
    (entry out : List ℕ) (at : ℕ) (s' : Arrays) : Type 0 where
  pub bounded : i ≤ i-end
  pub end : i-end ≡ length calls / call_length
  pub made : Made s (take i (calls_in lent calls)) entry out at s'

pub none_made : (s : Arrays) (entry : List ℕ) → Made s [] entry entry 0 s
unfolding record_of flatten
none_made s entry = record { begun = begin entry; state = refl; elements = refl }

arrays_append : (s : Arrays) (h g : List Call) → arrays_after_all s (h ++ g) ≡ arrays_after_all (arrays_after_all s h) g
arrays_append s [] g = refl
arrays_append s (k ∷ h) g = arrays_append (arrays_after s k) h g

module _ {s : Arrays} {h : List Call} {entry xs : List ℕ} {at : ℕ} {c : Arrays} (b : Made s h entry xs at c)
    (k : Call) (ys : List ℕ) (d : Arrays) (q : Called c k ys d) where
  abbrev v : View
  v = state_at s

  both_are : record_of (run v h) ++ record_of (run (state_at c) (k ∷ [])) ≡ record_of (run v (h ++ (k ∷ [])))
  both_are = ap (λ (w : View). record_of (run v h) ++ record_of (run w (k ∷ []))) b.state ∙ sym (in_parts v h (k ∷ []))

  one_more : (m : ℕ) → length ys ≡ length (part at (at + m - at) xs) → at + m ≤ length entry
      → Made s (h ++ (k ∷ [])) entry (take at xs ++ (ys ++ drop (at + m - at) (drop at xs))) (at + m) d
  one_more m l room = record {
    begun = named (lend b.begun ys _ (at + m) q.bytes l (omega arith) room) _ both_are;
    state = q.state ∙ ap (λ (w : View). after_call w k) b.state ∙ sym (after_append v h (k ∷ []));
    elements = q.elements ∙ ap (λ (x : Arrays). arrays_after x k) b.elements ∙ sym (arrays_append s h (k ∷ []));
  }

module _ (lent calls : List ℕ) where
  -- one turn: the record of call i is lent
  pub turn : {s : Arrays} {entry xs : List ℕ} {at : ℕ} {c : Arrays} (i : ℕ) → i < length calls / call_length
      → Made s (take i (calls_in lent calls)) entry xs at c
      → (ys : List ℕ) (d : Arrays) → Called c (call_in lent (lent_record_lem calls i)) ys d
      → (m : ℕ) → length ys ≡ length (part at (at + m - at) xs) → at + m ≤ length entry
      → Made s (take (i + 1) (calls_in lent calls)) entry
      (take at xs ++ (ys ++ drop (at + m - at) (drop at xs))) (at + m) d
  turn i h b ys d q m l room =
      rw (calls_more lent calls i h)
      (one_more b (call_in lent (record_at calls i)) ys d (rw (lent_record calls i) at q) m l room)

  -- and there is room for it where there is for all
  pub enough : {s : Arrays} {entry xs : List ℕ} {at : ℕ} {c : Arrays} (i size : ℕ) → i < length calls / call_length
      → Made s (take i (calls_in lent calls)) entry xs at c → size ≡ call_size (call_in [] (lent_record_lem calls i))
      → size_of_all (calls_in [] calls) ≤ length entry → at + size ≤ length entry
  enough {s} i size h b e room =
      let l = calls_in lent calls in
      let k = call_in lent (record_at calls i) in
      let is : size ≡ call_size k =
      e ∙ ap (λ (r : List ℕ). call_size (call_in [] r)) (lent_record calls i)
      ∙ sym (size-lent lent (record_at calls i)) in
      let one : size_of_all (take (i + 1) l) ≡ size_of_all (take i l) + (call_size k + 0) =
      ap size_of_all (calls_more lent calls i h)
      ∙ size_append (take i l) (k ∷ []) in
      omega (arith, b.begun.long, sized (state_at s) (take i l), size-part (i + 1) l, sizes_lent lent calls)

-- ---- the end

module _ {s : Arrays} {h : List Call} {entry exit : List ℕ} where
  pub ran : {at : ℕ} {c : Arrays} → Made s h entry exit at c
      → Resumes s h entry exit (record { written = at; answer = (Ok tt) }) c
  unfolding put_record
  ran {at} {c} b = record {
    result =
        let bytes = record_of (run (state_at s) h) in
        let fits : length bytes ≤ length entry = omega (arith, b.begun.long, b.begun.bound) in
        rw (le-ltb (length entry) (length bytes) fits, b.begun.long, b.begun.is);
    state = b.state;
    elements = b.elements;
  }

  pub refused : length entry < size_of_all h → exit ≡ entry
      → Resumes s h entry exit (record { written = 0; answer = Err ShortOutput }) s
  unfolding put_record
  refused short same = record {
    result =
        let bytes = record_of (run (state_at s) h) in
        let over : length entry < length bytes = omega (arith, sized (state_at s) h) in
        rw (lt-ltb (length entry) (length bytes) over, same);
    state = refl;
    elements = refl;
  }

pub replays : {h : List Call} {entry exit : List ℕ} (s s' : Arrays) (r : Replayed)
    → s ≡ fresh_arrays → state_at s ≡ fresh → Resumes s h entry exit r s'
    → Replays h entry exit r s'
replays {h} {entry} {exit} s s' r zero e b =
    let m : replayed_of r exit ≡ put_record (record_of (run fresh h)) entry =
    b.result ∙ ap (λ (v : View). put_record (record_of (run v h)) entry) e in
    record {
      shown = subst (λ (x : Arrays). Resumes x h entry exit r s') zero b;
      reference = λ ok. m ∙ ap (λ (l : List _). put_record (record_of l) entry) (whole_history h ok).reference;
      uncut_run = λ g ok is.
          let w = whole_history g ok in
          m
          ∙ ap (λ (l : List _). put_record (record_of l) entry)
          (ap (run fresh) is ∙ sym w.uncut_run ∙ ap common w.reference);
    }
