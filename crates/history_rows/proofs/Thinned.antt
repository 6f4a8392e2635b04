-- Two runs of the reference model, one of which was handed fewer receptions: the same telegrams are opened, the latest time is not later, and no more
-- are counted.
--     thinned-answer, thinned-row     a reception that is a row of the first is answered the same in the second
--     thinned-other                   any other may be struck out
use Prim.Native.Nat.{ℕ, ◌+◌, ◌≤◌, ◌<◌, max}
use native.Mathlib.Omega.{arith}
use native.Mathlib.Nat.{max-eq_left}
use mathlib.Core.Path.{◌≡◌, refl, sym, ◌∙◌, ap}
use mathlib.Core.Bool.{Bool, true, false, cond, not, false≢true}
use mathlib.Core.List.{List, [], ◌∷◌, ◌++◌, map, map-append}
use lib.Dec.{leb}
use lib.ListN.{length, length-map}
use borrow.Author.Tests.{leb-false, lt-leb, ltb-false, le-ltb, not-false}
use Rattle.base_lists.specs.Lists.{keep, any}
use Rattle.base_lists.proofs.Keep.{keep-map}
use Rattle.base_lists.proofs.Tests.{branch, any_map}
use Rattle.radio_erp1.specs.Subtelegram.{is_valid}
use Rattle.collector_model.specs.Answer.{Shown, Kept, Copy, Loose, Refused, is_accepted, is_received}
use Rattle.collector_model.specs.View.{Reception, Entry, opened, opened_by, recount, capacity, capped, is_open}
use Rattle.collector_model.specs.Acceptable.{is_copy_of}
use Rattle.collector_model.specs.Step.{max_count, credit}
use Rattle.collector_model.specs.Reference.{Logged, answers, is_open_copy, kept_after, kept_of, open_at, is_behind, latest_of, answer_to}
use Rattle.collector_model.proofs.Simulation.{behind_latest}
use Rattle.history_rows.specs.Rows.{is_row_answer}

-- ---- openings

-- a copy that is counted opens nothing
pub opened-credit : (more : ℕ → ℕ) (q : Entry → Bool) (l : List Entry)
    → map opened_by (credit more q l) ≡ map opened_by l
opened-credit more q [] = refl
opened-credit more q (x ∷ l) = go (any q l) (q x) (opened-credit more q l)
  where
    go : (c b : Bool) → map opened_by (credit more q l) ≡ map opened_by l
        → map opened_by (cond c (x ∷ credit more q l) (cond b (recount more x ∷ l) (x ∷ l)))
        ≡ opened_by x ∷ map opened_by l
    go true b ih = ap (λ (m : List Reception). opened_by x ∷ m) ih
    go false true ih = refl
    go false false ih = refl

-- nor does the ceiling matter
pub capped-openings : (l : List Entry) → map opened_by (map (recount capped) l) ≡ map opened_by l
capped-openings [] = refl
capped-openings (x ∷ l) = ap (λ (m : List Reception). opened_by x ∷ m) (capped-openings l)

-- what is open, and what a reception is a copy of, is told by the openings
abbrev pub opens_at : ℕ → Reception → Bool
opens_at t r = is_open t (opened r)

pub open_openings : (t : ℕ) (l : List Entry) → map opened_by (keep (is_open t) l) ≡ keep (opens_at t) (map opened_by l)
open_openings t l = sym (keep-map (opens_at t) opened_by l)

copy_of_opening : (r : Reception) (e : Entry) → is_copy_of (opened (opened_by e)) r ≡ is_copy_of e r
unfolding is_copy_of
copy_of_opening r e = refl

any_openings : (r : Reception) (l : List Entry)
    → any (λ e. is_copy_of e r) l ≡ any (λ s. is_copy_of (opened s) r) (map opened_by l)
any_openings r l = sym (any_map opened_by (λ s. is_copy_of (opened s) r) l ∙ (λ i. any (λ e. copy_of_opening r e i) l))

-- ---- two lists of telegrams with the same openings

module _ (l m : List Entry) (e : map opened_by l ≡ map opened_by m) where
  pub same_open : (t : ℕ) → map opened_by (keep (is_open t) l) ≡ map opened_by (keep (is_open t) m)
  same_open t = open_openings t l ∙ ap (keep (opens_at t)) e ∙ sym (open_openings t m)

  pub same_any : (r : Reception) → any (λ x. is_copy_of x r) l ≡ any (λ x. is_copy_of x r) m
  same_any r = any_openings r l ∙ ap (any (λ s. is_copy_of (opened s) r)) e ∙ sym (any_openings r m)

  pub same_length : length l ≡ length m
  same_length = sym (length-map l opened_by) ∙ ap length e ∙ length-map m opened_by

  -- an answer adds the same opening to both
  pub same_after : (r : Reception) (a : Shown) → map opened_by (kept_after l r a) ≡ map opened_by (kept_after m r a)
  same_after r Kept =
      map-append opened_by l (opened r ∷ []) ∙ ap (λ (k : List Reception). k ++ (r ∷ [])) e
      ∙ sym (map-append opened_by m (opened r ∷ []))
  same_after r Copy =
      opened-credit (λ n. n + 1) (is_open_copy r) l ∙ e ∙ sym (opened-credit (λ n. n + 1) (is_open_copy r) m)
  same_after r Loose = e
  same_after r (Refused n) = e

-- ---- what a row tells

record RowFacts (log : List Logged) (r : Reception) : Type 0 where
  room : answers is_received log < max_count
  valid : is_valid r.bytes ≡ true
  in_time : latest_of log ≤ r.time
  fresh : any (λ e. is_copy_of e r) (open_at r.time log) ≡ false

row_facts : (log : List Logged) (r : Reception) → is_row_answer (answer_to log r) ≡ true → RowFacts log r
unfolding answer_to
row_facts log r =
    let P : Shown → Type 0 = λ a. is_row_answer a ≡ true → RowFacts log r in
    branch P (leb max_count (answers is_received log)) (λ _ e. absurd (false≢true e))
    λ m. branch P (not (is_valid r.bytes)) (λ _ e. absurd (false≢true e))
    λ w. branch P (is_behind r.time log) (λ _ e. absurd (false≢true e))
    λ b. branch P (any (λ e. is_copy_of e r) (open_at r.time log)) (λ _ e. absurd (false≢true e))
    λ c _. record {
      room = leb-false max_count (answers is_received log) m;
      valid = not-false (is_valid r.bytes) w;
      in_time = ltb-false r.time (latest_of log) (sym (behind_latest r.time log) ∙ b);
      fresh = c;
    }

row-answer : (log : List Logged) (r : Reception) → RowFacts log r
    → answer_to log r ≡ cond (leb capacity (length (open_at r.time log))) Loose Kept
unfolding answer_to
row-answer log r f =
    rw (
      lt-leb max_count (answers is_received log) f.room,
      f.valid,
      behind_latest r.time log,
      le-ltb r.time (latest_of log) f.in_time,
      f.fresh,
    )

row-accepted : (a : Shown) → is_row_answer a ≡ true → is_accepted a ≡ true
row-accepted Kept e = refl
row-accepted Copy e = absurd (false≢true e)
row-accepted Loose e = refl
row-accepted (Refused n) e = absurd (false≢true e)

-- it is the latest
pub row-latest : (log : List Logged) (r : Reception) → is_row_answer (answer_to log r) ≡ true
    → latest_of (record { reception = r; answer = answer_to log r } ∷ log) ≡ r.time
row-latest log r e = rw (row-accepted (answer_to log r) e) (max-eq_left (row_facts log r e).in_time)

-- ---- two runs

pub record Thinned (whole thin : List Logged) : Type 0 where
  pub openings : map opened_by (kept_of whole) ≡ map opened_by (kept_of thin)
  pub latest : latest_of thin ≤ latest_of whole
  pub received : answers is_received thin ≤ answers is_received whole

pub thinned_same : (log : List Logged) → Thinned log log
thinned_same log = record { openings = refl; latest = omega arith; received = omega arith }

module _ (whole thin : List Logged) (h : Thinned whole thin) where
  -- the same openings are open
  pub thinned_open : (t : ℕ) → map opened_by (open_at t whole) ≡ map opened_by (open_at t thin)
  thinned_open = same_open (kept_of whole) (kept_of thin) h.openings

  module _ (r : Reception) where
    same_facts : RowFacts whole r → RowFacts thin r
    same_facts f = record {
      room = omega (arith, h.received, f.room);
      valid = f.valid;
      in_time = omega (arith, h.latest, f.in_time);
      fresh = sym (same_any (open_at r.time whole) (open_at r.time thin) (thinned_open r.time) r) ∙ f.fresh;
    }

    -- a row of the first run is answered the same in the second
    pub thinned_answer : is_row_answer (answer_to whole r) ≡ true → answer_to whole r ≡ answer_to thin r
    thinned_answer e =
        let f = row_facts whole r e in
        row-answer whole r f
        ∙ ap (λ (n : ℕ). cond (leb capacity n) Loose Kept)
        (same_length (open_at r.time whole) (open_at r.time thin) (thinned_open r.time))
        ∙ sym (row-answer thin r (same_facts f))

    latest-more : (a : Shown)
        → latest_of (record { reception = r; answer = a } ∷ thin)
        ≤ latest_of (record { reception = r; answer = a } ∷ whole)
    latest-more a = go (is_accepted a)
      where
        go : (b : Bool)
            → cond b (max r.time (latest_of thin)) (latest_of thin)
            ≤ cond b (max r.time (latest_of whole)) (latest_of whole)
        go true = omega (arith, h.latest)
        go false = h.latest

    received_more : (a : Shown)
        → answers is_received (record { reception = r; answer = a } ∷ thin)
        ≤ answers is_received (record { reception = r; answer = a } ∷ whole)
    received_more a = go (is_received a)
      where
        go : (b : Bool)
            → cond b (answers is_received thin + 1) (answers is_received thin)
            ≤ cond b (answers is_received whole + 1) (answers is_received whole)
        go true = omega (arith, h.received)
        go false = h.received

    thinned_both : (a : Shown)
        → Thinned (record { reception = r; answer = a } ∷ whole) (record { reception = r; answer = a } ∷ thin)
    thinned_both a = record {
      openings = same_after (kept_of whole) (kept_of thin) h.openings r a;
      latest = latest-more a;
      received = received_more a;
    }

    pub thinned_row : is_row_answer (answer_to whole r) ≡ true
        → Thinned (record { reception = r; answer = answer_to whole r } ∷ whole)
        (record { reception = r; answer = answer_to thin r } ∷ thin)
    thinned_row e = rw (← thinned_answer e) (thinned_both (answer_to whole r))

    -- what is no row opens nothing
    no_opening : (a : Shown) → is_row_answer a ≡ false
        → map opened_by (kept_after (kept_of whole) r a) ≡ map opened_by (kept_of thin)
    no_opening Kept e = absurd (false≢true (sym e))
    no_opening Copy e = opened-credit (λ n. n + 1) (is_open_copy r) (kept_of whole) ∙ h.openings
    no_opening Loose e = h.openings
    no_opening (Refused n) e = h.openings

    latest-only : (a : Shown) → latest_of thin ≤ latest_of (record { reception = r; answer = a } ∷ whole)
    latest-only a = go (is_accepted a)
      where
        go : (b : Bool) → latest_of thin ≤ cond b (max r.time (latest_of whole)) (latest_of whole)
        go true = omega (arith, h.latest)
        go false = h.latest

    received-only : (a : Shown)
        → answers is_received thin ≤ answers is_received (record { reception = r; answer = a } ∷ whole)
    received-only a = go (is_received a)
      where
        go : (b : Bool) → answers is_received thin ≤ cond b (answers is_received whole + 1) (answers is_received whole)
        go true = omega (arith, h.received)
        go false = h.received

    pub thinned_other : (a : Shown) → is_row_answer a ≡ false
        → Thinned (record { reception = r; answer = a } ∷ whole) thin
    thinned_other a e = record { openings = no_opening a e; latest = latest-only a; received = received-only a }
