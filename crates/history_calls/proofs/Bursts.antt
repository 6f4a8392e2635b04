-- What a burst leaves in the bytes of its second list is the second list of the model's burst.
--     replies-count, reply-at     how many places bytes hold, and each of them
--     replies-over                the bytes of replies, written over the first places
--     bursts-are                  a burst
use Prim.Native.Nat.{ℕ, zero, suc, ◌+◌, ◌-◌, ◌*◌, ◌/◌, ◌≤◌, ◌<◌}
use native.Mathlib.Nat.{zero-add}
use native.Mathlib.Omega.{arith}
use native.Mathlib.Decide.{dec_lt}
use mathlib.Core.Path.{◌≡◌, refl, sym, ap, ◌∙◌}
use mathlib.Core.Bool.{true, false, not, ◌&&◌}
use mathlib.Core.List.{List, [], ◌∷◌, ◌++◌, map, flatten}
use lib.Dec.{eqb}
use lib.ListN.{length, get_or, take, drop, replicate, length-append, length-drop, length-map, length-replicate, get_or-append}
use lib.Seq.{take_at, drop-drop, ext_get_or, get_or-drop, get_or-append-add}
use borrow.Author.Tests.{eqb-true}
use Rattle.base_lists.specs.Lists.{up_from}
use Rattle.base_lists.proofs.Choice.{cond_no}
use Rattle.base_lists.proofs.Tests.{by_test, get_d_map}
use Rattle.base_lists.proofs.UpFrom.{length-up_from, get_d_up_from}
use Rattle.base_buffers.specs.Buffer.{part}
use Rattle.base_buffers.proofs.Buffer.{resized-length}
use Rattle.base_buffers.proofs.Segments.{Each, flatten-length, flatten-part, left, right}
use Rattle.base_refusal.specs.declared.Refusal.TheVariants.{NotAccepted}
use Rattle.base_refusal.proofs.Numbers.{refused-number}
use Rattle.collector_model.specs.Answer.{Kept}
use Rattle.collector_model.specs.View.{Reception, View}
use Rattle.collector_model.specs.Acceptable.{acceptable}
use Rattle.collector_model.specs.Step.{step}
use Rattle.collector_model.specs.Burst.{Replied, replies_to, burst_number, taken, after_all, BurstResult, burst_of}
use Rattle.collector_model.proofs.Returns.{replies_to-length}
use Rattle.c_layout.specs.Frame.{frame_bytes}
use Rattle.c_collector.specs.State.{Arrays, state_at}
use Rattle.c_burst.specs.Bytes.{receptions_in, reply_length, reply_bytes, is_sized}
use Rattle.c_burst.specs.Calls.{BurstCall, any_place, replies_with, burst_call, Bursts}
use Rattle.collector_burst.proofs.Planning.{called}
use Rattle.history_calls.specs.Answers.{replied_in, replies_in_places}
use Rattle.history_calls.proofs.Answers.{ProperReply, proper_reply, reply-back}

-- ---- places

-- stands for a place past the end
abbrev pub none : Replied
none = record { answer = Kept; sent = record { len = 0; bytes = [] } }

module _ (bytes : List ℕ) where
  abbrev at : ℕ → Replied
  at i = replied_in (part (reply_length * i) reply_length bytes)

  pub replies-count : length (replies_in_places bytes) ≡ length bytes / reply_length
  unfolding replies_in_places
  replies-count = length-map (up_from 0 (length bytes / reply_length)) at
      ∙ length-up_from 0 (length bytes / reply_length)

  pub reply_at : (i : ℕ) → i < length bytes / reply_length
      → get_or (replies_in_places bytes) i none ≡ replied_in (part (reply_length * i) reply_length bytes)
  unfolding replies_in_places
  reply_at i h = get_d_up_from at 0 (length bytes / reply_length) i none h ∙ ap at (zero-add i)

reply-length : (p : Replied) → length (reply_bytes p) ≡ reply_length
unfolding reply_bytes frame_bytes
reply-length p = simp resized-length

module _ (ps : List Replied) (proper : (i : ℕ) → i < length ps → ProperReply (get_or ps i none))
    (old : List ℕ) (few : length ps ≤ length old / reply_length) where
  abbrev cells : List (List ℕ)
  cells = map reply_bytes ps

  abbrev new : List ℕ
  new = flatten cells ++ drop (reply_length * length ps) old

  each : Each reply_length cells
  each i h =
      let k : i < length ps = rw (length-map ps reply_bytes) at h in
      ap length (get_d_map reply_bytes ps i none [] k) ∙ reply-length (get_or ps i none)

  front_length : length (flatten cells) ≡ reply_length * length ps
  front_length = flatten-length reply_length cells each ∙ ap (λ n. reply_length * n) (length-map ps reply_bytes)

  new-length : length new ≡ length old
  new-length = length-append (flatten cells) _ ∙ rw (front_length, length-drop) (omega arith)

  in_front : (i : ℕ) → i < length ps → replied_in (part (reply_length * i) reply_length new) ≡ get_or ps i none
  in_front i h =
      let k : i < length cells = rw length-map h in
      ap replied_in
      (left (flatten cells) _ (reply_length * length ps) (reply_length * i) reply_length front_length (omega arith)
      ∙ flatten-part reply_length cells each i k ∙ get_d_map reply_bytes ps i none [] h)
      ∙ reply-back (get_or ps i none) (proper i h)

  behind : (j : ℕ)
      → part (reply_length * (length ps + j)) reply_length new ≡ part (reply_length * (length ps + j)) reply_length old
  behind j =
      let e : reply_length * (length ps + j) ≡ reply_length * length ps + reply_length * j = omega arith in
      let f : reply_length * j + reply_length * length ps ≡ reply_length * (length ps + j) = omega arith in
      rw (
        e,
        right (flatten cells) (drop (reply_length * length ps) old)
            (reply_length * length ps) (reply_length * j) reply_length front_length,
      )
      (ap (take reply_length) (drop-drop (reply_length * j) (reply_length * length ps) old))

  pub replies_over : replies_in_places new ≡ ps ++ drop (length ps) (replies_in_places old)
  replies_over =
      ext_get_or none (replies_in_places new) (ps ++ drop (length ps) (replies_in_places old)) same_length
      (λ i h. each_same i (rw (replies-count new, new-length) at h))
    where
      same_length : length (replies_in_places new) ≡ length (ps ++ drop (length ps) (replies_in_places old))
      same_length =
          replies-count new ∙ ap (λ n. n / reply_length) new-length
          ∙ sym (length-append ps _ ∙ rw (length-drop, replies-count old) (omega arith))

      each_same : (i : ℕ) → i < length old / reply_length
          → get_or (replies_in_places new) i none ≡ get_or (ps ++ drop (length ps) (replies_in_places old)) i none
      each_same i h = reply_at new i (rw new-length h) ∙ elim (dec_lt i (length ps)) [
        | yes k ↦ in_front i k ∙ sym (get_or-append ps (drop (length ps) (replies_in_places old)) none i k)
        | no k ↦
            (let e : length ps + (i - length ps) ≡ i = omega arith in
            rw (← e)
            (ap replied_in (behind (i - length ps))
            ∙ sym (get_or-append-add ps _ (i - length ps) none
            ∙ get_or-drop (length ps) (replies_in_places old) (i - length ps) none
            ∙ reply_at old (length ps + (i - length ps)) (rw e h))))
      ]

-- ---- the replies of a burst

proper_all : (setting : ℕ) (v : View) (rs : List Reception) (i : ℕ)
    → i < length (replies_to setting v rs) → ProperReply (get_or (replies_to setting v rs) i none)
unfolding replies_to
proper_all setting v [] i h = absurd (omega arith)
proper_all setting v (r ∷ rs) zero h = proper_reply setting v r
proper_all setting v (r ∷ rs) (suc i) h = proper_all setting (step v r).next rs i (omega arith)

-- ---- a burst

module _ (setting : ℕ) (v : View) (rs : List Reception) (old : List ℕ) where
  abbrev room : ℕ
  room = length old / reply_length

  -- the second list of which `burst_call` speaks
  abbrev places : List Replied
  places = replicate room any_place

  abbrev number : ℕ
  number = burst_number setting v (length rs) (length places)

  same_number : number ≡ burst_number setting v (length rs) (length (replies_in_places old))
  same_number = ap (burst_number setting v (length rs)) (length-replicate room any_place ∙ sym (replies-count old))

  -- all that is taken has a place
  taken_few : length (taken number rs) ≤ room
  unfolding burst_number
  taken_few =
      by_test (eqb number 0)
      (λ z.
      let done = cond_no (not (acceptable v)) (refused-number NotAccepted) (eqb-true number 0 z) in
      let k = (called setting (length rs) (length places) done.1).0 in
      rw z (omega (arith, length-replicate room any_place)))
      (λ z. rw z (omega arith))

  -- what a burst with a number shows
  abbrev with_number : ℕ → BurstResult
  with_number n =
      let t = taken n rs in
      record {
        number = n;
        replies = replies_to setting v t
            ++ drop (length t) (replies_in_places old);
        next = after_all v t;
      }

  abbrev t : List Reception
  t = taken number rs

  second-list : replies_in_places (replies_with (length t) (replies_to setting v t ++ drop (length t) places) old)
      ≡ replies_to setting v t ++ drop (length t) (replies_in_places old)
  second-list =
      let long = replies_to-length setting v t in
      let few : length (replies_to setting v t) ≤ room = rw long taken_few in
      ap (λ (l : List Replied). replies_in_places (flatten (map reply_bytes l) ++ drop (reply_length * length t) old))
      (take_at (replies_to setting v t) (drop (length t) places) (length t) long)
      ∙ rw long at (replies_over (replies_to setting v t) (proper_all setting v t) old few)

  abbrev decoded : BurstCall → BurstResult
  decoded c = record { number = c.number; replies = replies_in_places c.replies; next = c.next }

  module _ (moments records : List ℕ) (are : receptions_in moments records ≡ rs)
      (sized : is_sized (length moments) (length records) ≡ true) where
    pub call_is : decoded (burst_call setting v moments records old) ≡ burst_of setting v rs (replies_in_places old)
    unfolding burst_call
    call_is =
        let fair : acceptable v && not (is_sized (length moments) (length records)) ≡ false =
        by_test (acceptable v) (λ ok. rw (ok, sized)) (λ bad. rw bad)
        in
        rw (fair, are)
        ((λ i. record { number = number; replies = second-list i; next = after_all v t })
        ∙ ap with_number same_number)

pub bursts_are : {s s' : Arrays} {setting n : ℕ} {moments records old new : List ℕ}
    → is_sized (length moments) (length records) ≡ true
    → Bursts s setting moments records old n s' new
    → record { number = n; replies = replies_in_places new; next = state_at s' }
    ≡ burst_of setting (state_at s) (receptions_in moments records) (replies_in_places old)
bursts_are {s} {s'} {setting} {n} {moments} {records} {old} sized b =
    ap (λ (c : BurstCall). record { number = c.number; replies = replies_in_places c.replies; next = c.next })
    b.result
    ∙ call_is setting (state_at s) (receptions_in moments records) old moments records refl sized
