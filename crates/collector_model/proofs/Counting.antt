-- What the numbers of copies say: of each telegram ever opened the number is that of its Copy answers, since each Copy answer is given where an open
-- telegram passes, and the last of these is credited.
use Prim.Native.Nat.{ℕ, suc, ◌+◌, ◌-◌, ◌≤◌, ◌<◌}
use native.Mathlib.Nat.{zero-add}
use native.Mathlib.Decide.{dec_lt}
use native.Mathlib.Omega.{arith}
use mathlib.Core.Path.{◌≡◌, refl, sym, ◌∙◌, ap}
use mathlib.Core.Bool.{Bool, true, false, cond, not, ◌||◌, false≢true}
use mathlib.Core.List.{List, [], ◌∷◌, ◌++◌, map, map-append}
use lib.Dec.{leb, eqb}
use lib.ListN.{length, drop, get_or, length-append, length-map, get_or-append}
use lib.Seq.{ext_get_or, get_or_at, get_or-drop}
use borrow.Author.Tests.{le-leb, leb-true, lt-ltb, ne_eqb}
use Rattle.base_lists.specs.Lists.{keep, any, all, pairwise, up_from, last_index}
use Rattle.base_lists.proofs.Choice.{both, cond-ap}
use Rattle.base_lists.proofs.Last.{last_low}
use Rattle.base_lists.proofs.Tests.{branch, by_test, length-keep, all_both, any_and, all_map, pairwise_mapped, get_d_map}
use Rattle.base_lists.proofs.UpFrom.{length-up_from, get_d_up_from}
use Rattle.radio_erp1.specs.Subtelegram.{sum_of, is_valid}
use Rattle.collector_model.specs.Answer.{Shown, Kept, Copy, Loose, Refused, is_copy, is_received}
use Rattle.collector_model.specs.View.{Reception, Entry, opened, opened_by, recount, maturity, capacity, is_open}
use Rattle.collector_model.specs.Acceptable.{is_copy_of, is_entry, may_follow, acceptable}
use Rattle.collector_model.specs.Step.{max_count, credit}
use Rattle.collector_model.specs.Heard.{copies_in}
use Rattle.collector_model.specs.Reference.{Logged, answers, totals_of, is_open_copy, kept_of, open_at, is_behind, latest_of, answer_to, log_of, model_view, heard_by}
use Rattle.collector_model.specs.Copies.{copy_answers, NumbersAreAnswers, EachCountedOnce, closed_count, HeardIsAnswers, BelowCeiling, AnyNumber}
use Rattle.collector_model.proofs.Copies.{no_entry, length-credit, credit_at, cap_small}
use Rattle.collector_model.proofs.Latest.{ordered}
use Rattle.collector_model.specs.Several.{in_time}

-- ---- a credit

abbrev one_more : ℕ → ℕ
one_more n = n + 1

-- the count at each index
count_at : (l : List Entry) (n : ℕ) → n < length l → get_or (copies_in l) n 0 ≡ (get_or l n no_entry).copies
count_at l n h = get_d_map (λ e. e.copies) l n no_entry 0 h

credited_at : (q : Entry → Bool) (l : List Entry) (n : ℕ) → n < length l
    → get_or (copies_in (credit one_more q l)) n 0
    ≡ cond (eqb n (last_index q l)) (get_or (copies_in l) n 0 + 1) (get_or (copies_in l) n 0)
credited_at q l n h =
    let k : n < length (credit one_more q l) = omega (arith, length-credit one_more q l) in
    let e = get_or l n no_entry in
    rw (count_at (credit one_more q l) n k, count_at l n h, credit_at one_more q no_entry l n h)
    (cond-ap (λ (x : Entry). x.copies) (eqb n (last_index q l)) (recount one_more e) e)

sum_credit : (q : Entry → Bool) (l : List Entry) → any q l ≡ true
    → sum_of (copies_in (credit one_more q l)) ≡ sum_of (copies_in l) + 1
sum_credit q [] e = absurd (false≢true e)
sum_credit q (x ∷ l) e = go (q x) (any q l) e (sum_credit q l)
  where
    go : (b c : Bool) → (b || c) ≡ true →
        (c ≡ true → sum_of (copies_in (credit one_more q l)) ≡ sum_of (copies_in l) + 1)
        → sum_of (copies_in (cond c (x ∷ credit one_more q l) (cond b (recount one_more x ∷ l) (x ∷ l))))
        ≡ x.copies + sum_of (copies_in l) + 1
    go b true h ih = omega (arith, ih refl)
    go true false h ih = omega arith
    go false false h ih = absurd (false≢true h)

sum_opened : (l : List Entry) (r : Reception) → sum_of (copies_in (l ++ (opened r ∷ []))) ≡ sum_of (copies_in l)
sum_opened [] r = refl
sum_opened (x ∷ l) r = ap (λ (n : ℕ). x.copies + n) (sum_opened l r)

-- ---- the log

-- a Copy answer is given where an open telegram passes
copy-found : (log : List Logged) (r : Reception)
    → is_copy (answer_to log r) ≡ true → any (is_open_copy r) (kept_of log) ≡ true
unfolding answer_to
copy-found log r h =
    let P : Shown → Type 0 = λ a. is_copy a ≡ true → any (λ e. is_copy_of e r) (open_at r.time log) ≡ true in
    any_and (is_open r.time) (λ e. is_copy_of e r) (kept_of log)
    ∙ (branch P (leb max_count (answers is_received log)) (λ _ e. absurd (false≢true e))
    (λ _. branch P (not (is_valid r.bytes)) (λ _ e. absurd (false≢true e))
    (λ _. branch P (is_behind r.time log) (λ _ e. absurd (false≢true e))
    (λ _. branch P (any (λ e. is_copy_of e r) (open_at r.time log)) (λ e _. e)
    (λ _. branch P (leb capacity (length (open_at r.time log)))
    (λ _ e. absurd (false≢true e)) (λ _ e. absurd (false≢true e)))))))
    h

record Counted (log : List Logged) : Type 0 where
  numbers : (n : ℕ) → n < length (kept_of log) → get_or (copies_in (kept_of log)) n 0 ≡ copy_answers n log
  past : (n : ℕ) → length (kept_of log) ≤ n → copy_answers n log ≡ 0
  sum : sum_of (copies_in (kept_of log)) ≡ answers is_copy log

counted-more : (log : List Logged) (r : Reception) (a : Shown)
    → (is_copy a ≡ true → any (is_open_copy r) (kept_of log) ≡ true)
    → Counted log → Counted (record { reception = r; answer = a } ∷ log)
counted-more log r Kept h o =
    let l = kept_of log in
    let long : length (copies_in l) ≡ length l = length-map l (λ e. e.copies) in
    record {
      numbers = λ n k.
          elim (dec_lt n (length l)) [
            | yes low ↦ ap (λ (m : List ℕ). get_or m n 0) (map-append (λ e. e.copies) l (opened r ∷ []))
                ∙ get_or-append (copies_in l) (0 ∷ []) 0 n (omega (arith, long)) ∙ o.numbers n low
            | no high ↦ let at : n ≡ length (copies_in l) = omega (arith, long, length-append l (opened r ∷ [])) in
                ap (λ (m : List ℕ). get_or m n 0) (map-append (λ e. e.copies) l (opened r ∷ []))
                ∙ get_or_at (copies_in l) 0 [] 0 n (sym at) ∙ sym (o.past n (omega arith))
          ];
      past = λ n k. o.past n (omega (arith, length-append l (opened r ∷ [])));
      sum = sum_opened l r ∙ o.sum;
    }
counted-more log r Copy h o =
    let l = kept_of log in
    let q = is_open_copy r in
    let found : any q l ≡ true = h refl in
    record {
      numbers = λ n k.
          let low : n < length l = omega (arith, length-credit one_more q l) in
          credited_at q l n low ∙ ap (λ (c : ℕ). cond (eqb n (last_index q l)) (c + 1) c) (o.numbers n low);
      past = λ n k.
          let other : n ≡ last_index q l → ⊥ =
          λ e. absurd (omega (arith, last_low q l found, length-credit one_more q l)) in
          rw (ne_eqb n (last_index q l) other) (o.past n (omega (arith, length-credit one_more q l)));
      sum = sum_credit q l found ∙ ap one_more o.sum;
    }
counted-more log r Loose h o = record { numbers = o.numbers; past = o.past; sum = o.sum }
counted-more log r (Refused n) h o = record { numbers = o.numbers; past = o.past; sum = o.sum }

counted : (past : List Reception) → Counted (log_of past)
counted [] = record { numbers = λ n h. refl; past = λ n h. refl; sum = refl }
counted (r ∷ past) = counted-more (log_of past) r (answer_to (log_of past) r) (copy-found (log_of past) r)
    (counted past)

-- ---- the claims

pub numbers_are-answers : NumbersAreAnswers
numbers_are-answers past =
    let log = log_of past in
    let n = length (kept_of log) in
    let f : ℕ → ℕ = λ k. copy_answers k log in
    let long : length (copies_in (kept_of log)) ≡ n = length-map (kept_of log) (λ e. e.copies) in
    ext_get_or 0 (copies_in (kept_of log)) (map f (up_from 0 n))
    (long ∙ sym (length-map (up_from 0 n) f ∙ length-up_from 0 n))
    (λ k h.
    let low : k < n = omega (arith, long) in
    (counted past).numbers k low ∙ sym (get_d_up_from f 0 n k 0 low ∙ ap f (zero-add k)))

-- ---- those that are open are the last

-- of a list in order, a test that passes on to later ones keeps an end of it
keep_end : (p : Entry → Bool) → ((e later : Entry) → in_time e later ≡ true → p e ≡ true → p later ≡ true)
    → (l : List Entry) → pairwise in_time l ≡ true → keep p l ≡ drop (length l - length (keep p l)) l
keep_end p up [] s = refl
keep_end p up (x ∷ l) s =
    let w = both (all (in_time x) l) (pairwise in_time l) s in
    by_test (p x)
    (λ e.
    let rest : keep p l ≡ l = all_kept l (all_both (in_time x) (in_time x) p (λ y t _. up x y t e) l w.0 w.0) in
    let none_left : suc (length l) - suc (length l) ≡ 0 = omega arith in
    rw (e, rest, none_left))
    (λ e.
    let more : suc (length l) - length (keep p l) ≡ suc (length l - length (keep p l)) =
    omega (arith, length-keep p l) in
    rw (e, more) (keep_end p up l w.1))
  where
    all_kept : (l : List Entry) → all p l ≡ true → keep p l ≡ l
    all_kept [] e = refl
    all_kept (y ∷ l) e = let w = both (p y) (all p l) e in
        rw w.0 (ap (λ (m : List Entry). y ∷ m) (all_kept l w.1))

pub open_later : (t : ℕ) (e later : Entry) → in_time e later ≡ true → is_open t e ≡ true → is_open t later ≡ true
open_later t e later h o =
    le-leb (t - later.time) maturity
    (omega (arith, leb-true (t - e.time) maturity o, leb-true e.time later.time h))

pub heard_is_answers : HeardIsAnswers
unfolding heard_by
heard_is_answers past k h =
    let log = log_of past in
    let l = kept_of log in
    let opens = open_at (latest_of log) log in
    let long : length (copies_in opens) ≡ length opens = length-map opens (λ e. e.copies) in
    let end : opens ≡ drop (closed_count log) l =
    keep_end (is_open (latest_of log)) (open_later (latest_of log)) l (ordered past).order in
    let few : length opens ≤ length l = length-keep (is_open (latest_of log)) l in
    let counts : get_or (copies_in opens) k 0 ≡ copy_answers (closed_count log + k) log =
    count_at opens k h ∙ ap (λ (m : List Entry). (get_or m k no_entry).copies) end
    ∙ ap (λ (e : Entry). e.copies) (get_or-drop (closed_count log) l k no_entry)
    ∙ sym (count_at l (closed_count log + k) (omega arith))
    ∙ (counted past).numbers (closed_count log + k) (omega arith)
    in
    rw (lt-ltb k (length (copies_in opens)) (omega (arith, long)), counts)

pub each-counted_once : EachCountedOnce
unfolding totals_of
each-counted_once past = (counted past).sum

pub below-ceiling : BelowCeiling
unfolding model_view
below-ceiling past e = cap_small (open_at (latest_of (log_of past)) (log_of past)) e

-- ---- any number of copies

module _ (l m : List Entry) (e : map opened_by l ≡ map opened_by m) where
  same_length : length l ≡ length m
  same_length = sym (length-map l opened_by) ∙ ap length e ∙ length-map m opened_by

  same_entries : (latest : ℕ) → all (is_entry latest) l ≡ all (is_entry latest) m
  same_entries latest =
      let p : Reception → Bool = λ r. is_entry latest (opened r) in
      sym (all_map opened_by p l) ∙ ap (all p) e ∙ all_map opened_by p m

  same_order : pairwise may_follow l ≡ pairwise may_follow m
  unfolding is_copy_of
  same_order =
      let p : Reception → Reception → Bool = λ r later. may_follow (opened r) (opened later) in
      sym (pairwise_mapped opened_by p l) ∙ ap (pairwise p) e ∙ pairwise_mapped opened_by p m

pub any_number : AnyNumber
unfolding acceptable
any_number v l e =
    rw (same_length l v.entries e, same_entries l v.entries e v.latest, same_order l v.entries e)
