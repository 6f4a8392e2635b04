-- One noisy transmitter does not touch another's answers: a copy has its telegram's TXID, so striking out other receptions takes away no telegram
-- that a reception is a copy of, nor a copy that is counted for one; with no answer LOOSE it makes no room either.
--     kept_of            the telegrams opened by X, with their numbers
--     same_answer        a reception of X is answered alike
--     answers-isolated, entries-isolated     the claims
use Prim.Native.Nat.{ℕ, suc, ◌+◌, ◌≤◌, ◌<◌, zero-le, max}
use native.Mathlib.Omega.{arith}
use native.Mathlib.Nat.{max-eq_left}
use mathlib.Core.Path.{◌≡◌, refl, sym, ◌∙◌, ap, ap₂}
use mathlib.Core.Bool.{Bool, true, false, cond, not, ◌&&◌, ◌||◌, false≢true}
use mathlib.Core.List.{List, [], ◌∷◌, map, append-nil}
use lib.ListN.{length}
use lib.Dec.{leb, ltb}
use borrow.Author.Tests.{le-leb, lt-leb, leb-true, le-ltb, not-true, not-false}
use Rattle.base_lists.specs.Lists.{keep, any, all, pairwise, equal}
use Rattle.base_lists.proofs.Choice.{both}
use Rattle.base_lists.proofs.Keep.{keep_append, keep-map}
use Rattle.base_lists.proofs.Tests.{branch, length-keep, all_keep, all_last, keep_last, keep_swap, any_keep, count-length}
use Rattle.radio_erp1.specs.Subtelegram.{is_valid}
use Rattle.radio_erp1.specs.Same.{is_same}
use Rattle.radio_telegram.specs.Fields.{fields_of}
use Rattle.radio_sameness.proofs.ByFields.{same_by_fields, same_txid}
use Rattle.collector_model.specs.Answer.{Shown, Kept, Copy, Loose, Refused, is_loose, is_accepted, is_received}
use Rattle.collector_model.specs.View.{Reception, Entry, opened, recount, capacity, capped, is_open}
use Rattle.collector_model.specs.Acceptable.{is_echo, is_copy_of}
use Rattle.collector_model.specs.Step.{max_count}
use Rattle.collector_model.specs.Reference.{Logged, answers, is_open_copy, kept_after, kept_of, open_at, is_behind, latest_of, answer_to, log_of, model_view}
use Rattle.collector_model.specs.Isolation.{is_of, is_entry_of, Quiet, AnswersIsolated, EntriesIsolated}
use Rattle.collector_model.proofs.Copies.{all_credit, keep-credit, keep-other}

-- the log's entries of X
abbrev logged_of : List ℕ → List Reception → List Logged
logged_of x past = keep (λ e. is_of x e.reception) (log_of past)

-- ---- what the answers tell

no_loose : (k l l' : Bool) → is_loose (cond k Copy (cond l Loose Kept)) ≡ false → (l' ≡ true → l ≡ true)
    → cond k Copy (cond l Loose Kept) ≡ cond k Copy (cond l' Loose Kept)
no_loose true l l' e f = refl
no_loose false true l' e f = absurd (false≢true (sym e))
no_loose false false true e f = absurd (false≢true (f refl))
no_loose false false false e f = refl

pub length_log : (past : List Reception) → length (log_of past) ≡ length past
length_log [] = refl
length_log (r ∷ past) = ap suc (length_log past)

-- where times never go back nothing is late
not_late : (t : ℕ) (past : List Reception) → all (λ r. leb r.time t) past ≡ true → is_behind t (log_of past) ≡ false
not_late t [] h = refl
not_late t (r ∷ past) h =
    let w = both (leb r.time t) (all (λ e. leb e.time t) past) h in
    go (is_accepted (answer_to (log_of past) r)) w.0 (not_late t past w.1)
  where
    go : (b : Bool) → leb r.time t ≡ true → is_behind t (log_of past) ≡ false
        → ((b && ltb t r.time) || is_behind t (log_of past)) ≡ false
    go true p ih = rw (le-ltb t r.time (leb-true r.time t p), ih)
    go false p ih = ih

-- the rules that are left where few are received and nothing is late
quiet-answer : (past : List Reception) (r : Reception) → length past < max_count → is_valid r.bytes ≡ true
    → all (λ e. leb e.time r.time) past ≡ true
    → answer_to (log_of past) r
    ≡ cond (any (λ e. is_copy_of e r) (open_at r.time (log_of past))) Copy
    (cond (leb capacity (length (open_at r.time (log_of past)))) Loose Kept)
unfolding answer_to
quiet-answer past r few w h =
    let low : answers is_received (log_of past) < max_count =
    omega (arith, count-length (λ e. is_received e.answer) (log_of past), length_log past) in
    rw (lt-leb max_count (answers is_received (log_of past)) low, w, not_late r.time past h)

-- what is accepted is valid, and so is every telegram that is opened
accepted-valid : (log : List Logged) (r : Reception) → is_accepted (answer_to log r) ≡ true → is_valid r.bytes ≡ true
unfolding answer_to
accepted-valid log r =
    let P : Shown → Type 0 = λ a. is_accepted a ≡ true → is_valid r.bytes ≡ true in
    branch P (leb max_count (answers is_received log)) (λ _ e. absurd (false≢true e))
    λ _. branch P (not (is_valid r.bytes)) (λ _ e. absurd (false≢true e))
    λ w e. not-false (is_valid r.bytes) w

all_valid : (past : List Reception) → all (λ e. is_valid e.bytes) (kept_of (log_of past)) ≡ true
all_valid [] = refl
all_valid (r ∷ past) = go (answer_to (log_of past) r) (accepted-valid (log_of past) r) (all_valid past)
  where
    go : (a : Shown) → (is_accepted a ≡ true → is_valid r.bytes ≡ true)
        → all (λ e. is_valid e.bytes) (kept_of (log_of past)) ≡ true
        → all (λ e. is_valid e.bytes) (kept_after (kept_of (log_of past)) r a) ≡ true
    go Kept h ih = all_last (λ e. is_valid e.bytes) (kept_of (log_of past)) (opened r) ih (h refl)
    go Copy h ih =
        all_credit (λ n. n + 1) (is_open_copy r) (λ e. is_valid e.bytes) (λ e v. v) (kept_of (log_of past)) ih
    go Loose h ih = ih
    go (Refused n) h ih = ih

-- a copy has its telegram's TXID
copy-txid : (e : Entry) (r : Reception) → is_valid e.bytes ≡ true → is_valid r.bytes ≡ true → is_copy_of e r ≡ true
    → (fields_of e.bytes).txid ≡ (fields_of r.bytes).txid
unfolding is_copy_of
copy-txid e r ve vr c =
    same_txid (fields_of e.bytes) (fields_of r.bytes)
    (sym (same_by_fields e.bytes r.bytes ve vr) ∙ (both (is_same e.bytes r.bytes) (is_echo e r) c).0)

module _ (x : List ℕ) where
  -- so it is x's just where its telegram is
  copy_owner : (e : Entry) (r : Reception) → is_valid e.bytes ≡ true
      → is_valid r.bytes ≡ true → is_copy_of e r ≡ true → is_entry_of x e ≡ is_of x r
  copy_owner e r ve vr c = rw (ve, vr) (ap (λ (t : List ℕ). equal t x) (copy-txid e r ve vr c))

  -- ---- the telegrams opened by x

  module _ (r : Reception) (l : List Entry) (valid : all (λ e. is_valid e.bytes) l ≡ true) where
    -- a telegram that is found has the owner of the reception
    owner : is_valid r.bytes ≡ true → (b : Bool) → is_of x r ≡ b
        → (e : Entry) → is_valid e.bytes ≡ true → is_open_copy r e ≡ true → is_entry_of x e ≡ b
    owner vr b is e ve f = copy_owner e r ve vr (both (is_open r.time e) (is_copy_of e r) f).1 ∙ is

    kept_mine : (a : Shown) → (is_accepted a ≡ true → is_valid r.bytes ≡ true) → is_of x r ≡ true
        → keep (is_entry_of x) (kept_after l r a) ≡ kept_after (keep (is_entry_of x) l) r a
    kept_mine Kept h is = keep_last (is_entry_of x) l (opened r) is
    kept_mine Copy h is =
        keep-credit (λ n. n + 1) (is_open_copy r) (is_entry_of x) (λ e. refl)
        (λ e. is_valid e.bytes) (owner (h refl) true is) l valid
    kept_mine Loose h is = refl
    kept_mine (Refused n) h is = refl

    kept-other : (a : Shown) → (is_accepted a ≡ true → is_valid r.bytes ≡ true) → is_of x r ≡ false
        → keep (is_entry_of x) (kept_after l r a) ≡ keep (is_entry_of x) l
    kept-other Kept h is = rw (keep_append (is_entry_of x) l (opened r ∷ []), is) (append-nil (keep (is_entry_of x) l))
    kept-other Copy h is =
        keep-other (λ n. n + 1) (is_open_copy r) (is_entry_of x) (λ e. refl)
        (λ e. is_valid e.bytes) (owner (h refl) false is) l valid
    kept-other Loose h is = refl
    kept-other (Refused n) h is = refl

  kept_of_lem : (past : List Reception) → kept_of (logged_of x past) ≡ keep (is_entry_of x) (kept_of (log_of past))
  kept_of_lem [] = refl
  kept_of_lem (r ∷ past) = go (is_of x r) refl (kept_of_lem past)
    where
      go : (b : Bool) → is_of x r ≡ b → kept_of (logged_of x past) ≡ keep (is_entry_of x) (kept_of (log_of past))
          → kept_of (cond b (record { reception = r; answer = answer_to (log_of past) r } ∷ logged_of x past)
          (logged_of x past))
          ≡ keep (is_entry_of x) (kept_after (kept_of (log_of past)) r (answer_to (log_of past) r))
      go true is ih =
          ap (λ (l : List Entry). kept_after l r (answer_to (log_of past) r)) ih
          ∙ sym (kept_mine r (kept_of (log_of past)) (all_valid past)
          (answer_to (log_of past) r) (accepted-valid (log_of past) r) is)
      go false is ih =
          ih
          ∙ sym (kept-other r (kept_of (log_of past)) (all_valid past)
          (answer_to (log_of past) r) (accepted-valid (log_of past) r) is)

  -- ---- a reception of x, after the receptions of all and after those of x alone

  valid_of : (r : Reception) → is_of x r ≡ true → is_valid r.bytes ≡ true
  valid_of r mine = (both (is_valid r.bytes) (equal (fields_of r.bytes).txid x) mine).0

  earlier : (r : Reception) (past : List Reception) → Quiet (r ∷ past) → all (λ e. leb e.time r.time) past ≡ true
  earlier r past h =
      (both (all (λ e. leb e.time r.time) past) (pairwise (λ s e. leb e.time s.time) past) h.order).0

  earlier_mine : (r : Reception) (past : List Reception) → Quiet (r ∷ past)
      → all (λ e. leb e.time r.time) (keep (is_of x) past) ≡ true
  earlier_mine r past h =
      all_keep (λ e. leb e.time r.time) (is_of x)
      (λ e. leb e.time r.time) (λ e p q. p) past (earlier r past h)

  module _ (r : Reception) (past : List Reception) (h : Quiet (r ∷ past)) (mine : is_of x r ≡ true)
      (ih : logged_of x past ≡ log_of (keep (is_of x) past)) where
    abbrev opens : List Entry
    opens = open_at r.time (log_of past)

    opens_of : open_at r.time (log_of (keep (is_of x) past)) ≡ keep (is_entry_of x) opens
    opens_of = rw (← ih, kept_of_lem past) (keep_swap (is_open r.time) (is_entry_of x) (kept_of (log_of past)))

    same_copy : any (λ e. is_copy_of e r) (keep (is_entry_of x) opens) ≡ any (λ e. is_copy_of e r) opens
    same_copy =
        any_keep (λ e. is_copy_of e r) (is_entry_of x) (λ e. is_valid e.bytes)
        (λ e w c. copy_owner e r w (valid_of r mine) c ∙ mine) opens
        (all_keep (λ e. is_valid e.bytes) (is_open r.time) (λ e. is_valid e.bytes)
        (λ e p q. p) (kept_of (log_of past)) (all_valid past))

    crowded : leb capacity (length (keep (is_entry_of x) opens)) ≡ true → leb capacity (length opens) ≡ true
    crowded e =
        le-leb capacity (length opens)
        (omega (arith, leb-true capacity (length (keep (is_entry_of x) opens)) e, length-keep (is_entry_of x) opens))

    same_answer : answer_to (log_of past) r ≡ answer_to (log_of (keep (is_of x) past)) r
    same_answer =
        let All-past = quiet-answer past r (omega (arith, h.few)) (valid_of r mine) (earlier r past h) in
        let few : length (keep (is_of x) past) < max_count = omega (arith, h.few, length-keep (is_of x) past) in
        let x-past = quiet-answer (keep (is_of x) past) r few (valid_of r mine) (earlier_mine r past h) in
        let loose = is_loose (answer_to (log_of past) r) in
        let quiet : loose ≡ false =
        not-true loose (both (not loose) (all (λ e. not (is_loose e.answer)) (log_of past)) h.room).0 in
        rw (All-past, x-past, opens_of, same_copy)
        (no_loose (any (λ e. is_copy_of e r) opens) (leb capacity (length opens))
        (leb capacity (length (keep (is_entry_of x) opens)))
        (rw All-past at quiet) crowded)

-- ---- the whole history

pub quiet_tail : (r : Reception) (past : List Reception) → Quiet (r ∷ past) → Quiet past
quiet_tail r past h = record {
  few = omega (arith, h.few);
  order = (both (all (λ e. leb e.time r.time) past) (pairwise (λ s e. leb e.time s.time) past) h.order).1;
  room =
      (both (not (is_loose (answer_to (log_of past) r))) (all (λ e. not (is_loose e.answer)) (log_of past)) h.room).1;
}

pub answers_isolated : AnswersIsolated
answers_isolated x [] h = refl
answers_isolated x (r ∷ past) h = go (is_of x r) refl (answers_isolated x past (quiet_tail r past h))
  where
    go : (b : Bool) → is_of x r ≡ b → logged_of x past ≡ log_of (keep (is_of x) past)
        → cond b (record { reception = r; answer = answer_to (log_of past) r } ∷ logged_of x past) (logged_of x past)
        ≡ log_of (cond b (r ∷ keep (is_of x) past) (keep (is_of x) past))
    go true mine ih = ap₂ (λ a l. record { reception = r; answer = a } ∷ l) (same_answer x r past h mine ih) ih
    go false e ih = ih

-- one reception of x is answered alike
pub answer_isolated : (x : List ℕ) (r : Reception) (past : List Reception) → Quiet (r ∷ past) → is_of x r ≡ true
    → answer_to (log_of past) r ≡ answer_to (log_of (keep (is_of x) past)) r
answer_isolated x r past h mine = same_answer x r past h mine (answers_isolated x past (quiet_tail r past h))

-- ---- the open telegrams

latest-low : (t : ℕ) (past : List Reception) → all (λ r. leb r.time t) past ≡ true → latest_of (log_of past) ≤ t
latest-low t [] h = zero-le
latest-low t (r ∷ past) h =
    let w = both (leb r.time t) (all (λ e. leb e.time t) past) h in
    go (is_accepted (answer_to (log_of past) r)) (leb-true r.time t w.0) (latest-low t past w.1)
  where
    go : (b : Bool) → r.time ≤ t → latest_of (log_of past) ≤ t
        → cond b (max r.time (latest_of (log_of past))) (latest_of (log_of past)) ≤ t
    go true p ih = omega arith
    go false p ih = ih

-- a valid reception where times never go back is accepted, and is the latest
latest_now : (past : List Reception) (r : Reception) → length past < max_count → is_valid r.bytes ≡ true
    → all (λ e. leb e.time r.time) past ≡ true → latest_of (log_of (r ∷ past)) ≡ r.time
latest_now past r few w h =
    let opens = open_at r.time (log_of past) in
    rw (quiet-answer past r few w h, accepted (any (λ e. is_copy_of e r) opens) (leb capacity (length opens)))
    (max-eq_left (latest-low r.time past h))
  where
    accepted : (k l : Bool) → is_accepted (cond k Copy (cond l Loose Kept)) ≡ true
    accepted true l = refl
    accepted false true = refl
    accepted false false = refl

pub entries_isolated : EntriesIsolated
unfolding model_view
entries_isolated x r past h mine =
    let whole = latest_now past r (omega (arith, h.few)) (valid_of x r mine) (earlier x r past h) in
    let alone : latest_of (log_of (r ∷ keep (is_of x) past)) ≡ r.time =
    latest_now (keep (is_of x) past) r (omega (arith, h.few, length-keep (is_of x) past))
    (valid_of x r mine) (earlier_mine x r past h) in
    let struck : keep (is_of x) (r ∷ past) ≡ r ∷ keep (is_of x) past = rw mine in
    let cap : List Entry → List Entry = map (recount capped) in
    keep-map (is_entry_of x) (recount capped) (open_at (latest_of (log_of (r ∷ past))) (log_of (r ∷ past)))
    ∙ ap (λ (t : ℕ). cap (keep (is_entry_of x) (open_at t (log_of (r ∷ past))))) whole
    ∙ ap cap (keep_swap (is_entry_of x) (is_open r.time) (kept_of (log_of (r ∷ past))))
    ∙ ap (λ (l : List Entry). cap (keep (is_open r.time) l)) (sym (kept_of_lem x (r ∷ past)))
    ∙ ap (λ (l : List Logged). cap (open_at r.time l)) (answers_isolated x (r ∷ past) h ∙ ap log_of struck)
    ∙ sym (ap (λ (t : ℕ). cap (open_at t (log_of (r ∷ keep (is_of x) past)))) alone)
    ∙ ap (λ (l : List Reception). cap (open_at (latest_of (log_of l)) (log_of l))) (sym struck)
