-- One reception at any state whose entries and totals can be counted on, from what the code's steps tell: the answer, that there is room where it is
-- kept, and the next state.
use Rattle.std.specs.Prelude.{Option, Some, None, IfSome}
use Prim.Native.Nat.{ℕ, ◌-◌, ◌≤◌, ◌<◌}
use native.Mathlib.Omega.{arith}
use mathlib.Core.Path.{◌≡◌, refl, sym, ◌∙◌, ap}
use mathlib.Core.Bool.{Bool, true, false, cond, not, ◌&&◌, false≢true}
use mathlib.Core.List.{List}
use lib.Dec.{leb, ltb, eqb}
use lib.ListN.{length, drop}
use borrow.Author.Tests.{le-leb, lt-leb, leb-true, leb-false, ltb-true, eqb-true, ne_eqb}
use Rattle.base_lists.proofs.Choice.{both}
use Rattle.base_lists.proofs.Tests.{by_test}
use Rattle.base_refusal.specs.Number.{number_of}
use Rattle.base_refusal.specs.declared.Refusal.{Refusal}
use Rattle.base_refusal.specs.declared.Refusal.TheVariants as refusal
use Rattle.base_refusal.specs.declared.Refusal.TheVariants.{Full, NotAccepted}
use Rattle.base_refusal.proofs.Numbers.{refused-number}
use Rattle.radio_erp1.specs.Subtelegram.{min_length, max_length, check_of, is_valid}
use Rattle.radio_erp1.proofs.Checks.{check_facts}
use Rattle.collector_model.specs.declared.Answer.{Answer}
use Rattle.collector_model.specs.declared.Answer.TheVariants as answer
use Rattle.collector_model.specs.declared.Totals.{Totals}
use Rattle.collector_model.specs.Answer.{Shown, Kept, Copy, Loose, Refused, is_kept, is_copy, is_accepted, is_received, shown_of}
use Rattle.collector_model.specs.View.{Reception, Entry, View, opened, capacity}
use Rattle.collector_model.specs.Acceptable.{is_summed}
use Rattle.collector_model.specs.Step.{StepOutcome, max_count, tally, plus_if}
use Rattle.collector_model.proofs.Check.{Failed, length_wrong, sum_wrong, crc_wrong, nested, check_failed}
use Rattle.collector_state.specs.declared.Summary.{Summary}
use Rattle.collector_state.specs.Collector.{Columns, columns, entries_at, view_in, moved, set_if, more_if, last_copy, columns_with}
use Rattle.collector_state.specs.Admission.{has_copy, reception_check, answer_for, admitted_of, is_safe, number_on, latest_after, open_from, left_after, answer_on, entries_with, admitted, not_admitted, admission, columns_admitted, Admitted, Admits}
use Rattle.collector_state.specs.Private.{JudgedBy, Expired, counted_only, Changes}
use Rattle.collector_state.proofs.Decided.{Decision, changed, Whole, Decides}
use Rattle.collector_state.proofs.Arrays.{entries-length, left-length, found-known}
use Rattle.collector_state.proofs.Moving.{credit_if, add_if, credited-is, changed-entries, expired_open}

-- ---- any view

-- what passes the tests is valid
pub passed-valid : (v : View) (r : Reception) → number_on v r ≡ 0 → is_valid r.bytes ≡ true
unfolding reception_check
passed-valid v r = go (is_valid r.bytes) refl
  where
    go : (b : Bool) → is_valid r.bytes ≡ b
        → cond (not b) (check_of r.bytes) (cond (ltb r.time v.latest) (number_of refusal.Late) 0) ≡ 0
        → is_valid r.bytes ≡ true
    go true h z = h
    go false h z = rw z

-- and fits an entry
pub valid-fits : (s : List ℕ) → is_valid s ≡ true → (min_length ≤ length s) × (length s ≤ max_length)
valid-fits s e = let f = check_facts s (eqb-true _ 0 e) in (f.low, f.high)

-- only what passes them all, with room left, is kept
pub kept-room : (v : View) (r : Reception) → is_kept (answer_on v r) ≡ true
    → (length (left_after v r) < capacity) × (is_valid r.bytes ≡ true)
unfolding answer_for
kept-room v r = go (eqb (number_on v r) 0) (has_copy (left_after v r) r)
    (leb capacity (length (left_after v r))) refl refl
  where
    go : (b k c : Bool) → eqb (number_on v r) 0 ≡ b → leb capacity (length (left_after v r)) ≡ c
        → is_kept (cond b (cond k Copy (cond c Loose Kept)) (Refused (number_on v r))) ≡ true
        → (length (left_after v r) < capacity) × (is_valid r.bytes ≡ true)
    go true true c p q h = absurd (false≢true h)
    go true false true p q h = absurd (false≢true h)
    go true false false p q h = (leb-false _ _ q, passed-valid v r (eqb-true (number_on v r) 0 p))
    go false k c p q h = absurd (false≢true h)

-- only a copy of an open telegram is answered Copy
pub copy-known : (number : ℕ) (known crowded : Bool) → is_copy (answer_for number known crowded) ≡ true → known ≡ true
unfolding answer_for
copy-known number known crowded = go (eqb number 0) known crowded
  where
    go : (b k c : Bool) → is_copy (cond b (cond k Copy (cond c Loose Kept)) (Refused number)) ≡ true → k ≡ true
    go true true c h = refl
    go true false true h = absurd (false≢true h)
    go true false false h = absurd (false≢true h)
    go false k c h = absurd (false≢true h)

-- whatever passed 8 and 11 is received
number-received : (v : View) (r : Reception) → is_received (Refused (number_on v r)) ≡ true
unfolding reception_check
number-received v r =
    by_test (is_valid r.bytes) (λ e. rw e (valid (ltb r.time v.latest)))
    (λ e. rw e (failed (check_failed r.bytes e)))
  where
    valid : (late : Bool) → is_received (Refused (cond late (number_of refusal.Late) 0)) ≡ true
    valid true = refl
    valid false = refl

    failed : {n : ℕ} → Failed n → is_received (Refused n) ≡ true
    failed length_wrong = refl
    failed sum_wrong = refl
    failed crc_wrong = refl
    failed nested = refl

-- and what passed those tests is KEPT, COPY or LOOSE
is_accepted_lem : (v : View) (r : Reception) → number_on v r ≡ 0
    → (is_accepted (answer_on v r) ≡ true) × (is_received (answer_on v r) ≡ true)
unfolding answer_for
is_accepted_lem v r z =
    rw z (go (has_copy (open_from r.time v.entries) r) (leb capacity (length (open_from r.time v.entries))))
  where
    go : (k c : Bool)
        → (is_accepted (cond k Copy (cond c Loose Kept)) ≡ true)
        × (is_received (cond k Copy (cond c Loose Kept)) ≡ true)
    go true c = (refl, refl)
    go false true = (refl, refl)
    go false false = (refl, refl)

-- the entries after an answer, by what it says
by_answer : (shown : Shown) (r : Reception) (l : List Entry)
    → add_if (is_kept shown) (opened r) (credit_if (is_copy shown) r l) ≡ entries_with shown r l
by_answer Kept r l = refl
by_answer Copy r l = refl
by_answer Loose r l = refl
by_answer (Refused n) r l = refl

-- ---- the columns

-- what the test of a state that may be taken says of its fields
pub record Fit (fit : Bool) (s : Summary) : Type 0 where
  pub found : fit ≡ true
  pub few : s.count ≤ capacity
  pub summed : is_summed s.totals ≡ true

module _ (fit : Bool) (a : Columns) (s : Summary) (r : Reception) where
  safe_by : is_safe (view_in a s) ≡ (leb s.count capacity && is_summed s.totals)
  safe_by = rw (entries-length a s.count)

  pub fit-says : fit && (leb s.count capacity && is_summed s.totals) ≡ true → Fit fit s
  fit-says e =
      let w = both fit (leb s.count capacity && is_summed s.totals) e in
      let u = both (leb s.count capacity) (is_summed s.totals) w.1 in
      record { found = w.0; few = leb-true _ _ u.0; summed = u.1 }

  -- the columns by whether the reception was accepted
  stay-put : (o : StepOutcome) → o ≡ admission fit (view_in a s) r
      → is_accepted o.answer ≡ false → a ≡ columns_admitted fit (view_in a s) r a
  unfolding columns_admitted
  stay-put o e n = rw (← e, n)

  are_changed : (o : StepOutcome) → o ≡ admission fit (view_in a s) r → is_accepted o.answer ≡ true
      → columns_with (answer_on (view_in a s) r) r (length (view_in a s).entries) (left_after (view_in a s) r) a
      ≡ columns_admitted fit (view_in a s) r a
  unfolding columns_admitted
  are_changed o e n = rw (← e, n)

  -- at 8 and 11 nothing is changed
  pub admits-nothing : (why : Refusal) → not_admitted why (view_in a s) ≡ admission fit (view_in a s) r
      → Admits fit a s r a (record { summary = s; answer = answer.Refused why })
  admits-nothing why e =
      record { outcome = e; elements = stay-put _ e refl; refused = λ _. refl; stays = λ _. (refl, refl) }

  -- one that is refused by the tests before the open telegrams are looked at is counted
  counted-outcome : (why : Refusal) → number_of why ≡ number_on (view_in a s) r
      → admitted_of a (record { summary = counted_only s why; answer = answer.Refused why }) ≡ admitted (view_in a s) r
  unfolding admitted answer_for
  counted-outcome why n = rw (← n, ne_eqb (number_of why) 0 (refused-number why))

  pub admits-refused : (why : Refusal) → number_of why ≡ number_on (view_in a s) r
      → admitted (view_in a s) r ≡ admission fit (view_in a s) r
      → Admits fit a s r a (record { summary = counted_only s why; answer = answer.Refused why })
  admits-refused why n e = record {
    outcome = counted-outcome why n ∙ e;
    elements = stay-put _ (counted-outcome why n ∙ e) refl;
    refused = λ _. refl;
    stays =
        λ f. absurd (false≢true (sym f ∙ ap (λ (k : ℕ). is_received (Refused k)) n ∙ number-received (view_in a s) r));
  }

  taken-admits : {a' : Columns} (d : Admitted) → admitted_of a' d ≡ admitted (view_in a s) r
      → a' ≡ columns_with (answer_on (view_in a s) r) r (length (view_in a s).entries) (left_after (view_in a s) r) a
      → number_on (view_in a s) r ≡ 0 → admitted (view_in a s) r ≡ admission fit (view_in a s) r → Admits fit a s r a' d
  unfolding admitted
  taken-admits d k c z e =
      let is = is_accepted_lem (view_in a s) r z in
      record {
        outcome = k ∙ e;
        elements = c ∙ are_changed (admitted (view_in a s) r) e is.0;
        refused = λ f. absurd (false≢true (sym f ∙ ap (λ (o : StepOutcome). is_accepted o.answer) k ∙ is.0));
        stays = λ f. absurd (false≢true (sym f ∙ ap (λ (o : StepOutcome). is_received o.answer) k ∙ is.1));
      }

  pub not-accepted : fit && (leb s.count capacity && is_summed s.totals) ≡ false
      → not_admitted NotAccepted (view_in a s) ≡ admission fit (view_in a s) r
  unfolding admission
  not-accepted e = rw (safe_by, e)

  module _ (f : Fit fit s) where
    pub all_full : max_count ≤ s.totals.received → not_admitted Full (view_in a s) ≡ admission fit (view_in a s) r
    unfolding admission
    all_full h = rw (safe_by, f.found, le-leb _ _ f.few, f.summed, le-leb max_count s.totals.received h)

    pub is_taken : s.totals.received < max_count → admitted (view_in a s) r ≡ admission fit (view_in a s) r
    unfolding admission
    is_taken h = rw (safe_by, f.found, le-leb _ _ f.few, f.summed, lt-leb max_count s.totals.received h)

-- what the code's steps tell before the open telegrams are looked at
pub record Looked (a : Columns) (s : Summary) (r : Reception) (gone : ℕ) : Type 0 where
  pub passed : reception_check s.latest r ≡ 0
  pub expired : Expired a.times s.count r.time gone

module _ {a : Columns} {s : Summary} {r : Reception} {gone : ℕ} (k : Looked a s r gone) where
  abbrev view : View
  view = view_in a s

  abbrev left : ℕ
  left = s.count - gone

  left_open : drop gone (entries_at a s.count) ≡ left_after view r
  left_open = rw k.passed (sym (expired_open a s.count r.time gone k.expired))

  open_length : length (left_after view r) ≡ left
  open_length = sym (ap length left_open) ∙ left-length a gone s.count

  latest_is : r.time ≡ latest_after view r
  latest_is = rw k.passed

  module _ (answer : Answer) {heard : Option ℕ}
      (by : JudgedBy (drop gone (entries_at a s.count)) r (shown_of answer) heard) where
    answer-said : shown_of answer ≡ answer_on view r
    answer-said =
        by.answer
        ∙ ap (λ (l : List Entry). answer_for 0 (has_copy l r) (leb capacity (length l))) left_open
        ∙ ap (λ (n : ℕ). answer_for n (has_copy (left_after view r) r) (leb capacity (length (left_after view r))))
        (sym k.passed)

    -- a copy is one of an open telegram
    last-inside : is_copy (shown_of answer) ≡ true → last_copy (drop gone (entries_at a s.count)) r < left
    last-inside e =
        let known = copy-known _ _ _ (ap is_copy (sym by.answer) ∙ e) in
        ltb-true _ left
        (found-known (drop gone (entries_at a s.count)) left r (left-length a gone s.count) ∙ known)

    inside : left ≤ capacity → IfSome heard (λ i. i < capacity)
    inside few = rw by.heard_is (go (is_copy (shown_of answer)) (λ e. omega (arith, last-inside e)))
      where
        go : (b : Bool) {k : ℕ} → (b ≡ true → k < capacity) → IfSome (cond b (Some k) None) (λ i. i < capacity)
        go true h = h refl
        go false h = tt

    -- what is kept is valid, and there is room for it
    module _ {kept : Bool} (keeps : kept ≡ is_kept (shown_of answer)) where
      pub room : kept ≡ true → (left < capacity) × (length r.bytes ≤ max_length)
      room e =
          let w = kept-room view r (ap is_kept (sym answer-said) ∙ sym keeps ∙ e) in
          (omega (arith, w.0, open_length), (valid-fits r.bytes w.1).1)

      -- the law: what is decided, carried out column by column, is what `admitted` says
      module _ {count : ℕ} (counts : count ≡ plus_if kept left)
          {totals : Totals} (tallies : totals ≡ tally (shown_of answer) s.totals) (few : s.count ≤ capacity) where
        abbrev decision : Decision
        decision = record {
          gone = gone;
          left = left;
          heard = heard;
          kept = kept;
          summary = record { count = count; latest = r.time; totals = totals };
          answer = answer;
        }

        next_entries : Whole a
            → entries_at (changed decision r a) (plus_if kept left)
            ≡ entries_with (shown_of answer) r (left_after view r)
        next_entries whole =
            let below = k.expired.few in
            changed-entries a whole decision s.count (omega arith) few r room (is_copy (shown_of answer)) by.heard_is
            ∙ rw (keeps, left_open) (by_answer (shown_of answer) r (left_after view r))

        outcome : Whole a
            → admitted_of (changed decision r a) (record { summary = decision.summary; answer = answer })
            ≡ admitted view r
        unfolding admitted
        outcome whole = rw (counts, tallies, ← latest_is, next_entries whole, answer-said)

        -- every element is as the definition says
        elements : changed decision r a ≡ columns_with (answer_on view r) r (length view.entries) (left_after view r) a
        unfolding columns_with
        elements =
            let below = k.expired.few in
            let back : s.count - (s.count - gone) ≡ gone = omega arith in
            ap (λ (l : List ℕ). columns (changed decision r a).times
            (changed decision r a).lens (changed decision r a).bytes (set_if kept left 0 l))
            (credited-is (is_copy (shown_of answer)) _ (moved gone left a.copies) by.heard_is
            ∙ ap (λ (l : List Entry). more_if (is_copy (shown_of answer)) (last_copy l r) (moved gone left a.copies))
            left_open)
            ∙ rw (keeps, answer-said, open_length, entries-length a s.count, back)

        pub decides : (fit : Bool) → admitted view r ≡ admission fit view r → Decides fit a s r decision
        decides fit taken = record {
          few = (let below = k.expired.few in omega arith);
          room = room;
          inside = inside (omega arith);
          admits = λ whole. taken-admits fit a s r _ (outcome whole) elements k.passed taken;
        }

-- ---- what is decided is carried out, column by column

pub carried_out : {fit : Bool} {a a' : Columns} {s : Summary} {r : Reception} {d : Decision} → Decides fit a s r d
    → Changes d.gone d.left d.heard d.kept r a a'
    → Admits fit a s r a' (record { summary = d.summary; answer = d.answer })
carried_out {fit} {a} {a'} {s} {r} {d} k x =
    let whole : Whole a =
    record { times = x.times.long; lens = x.lens.long; bytes = x.bytes.long; copies = x.copies.long } in
    let e : a' ≡ changed d r a = λ i. columns (x.times.is i) (x.lens.is i) (x.bytes.is i) (x.copies.is i) in
    rw e (k.admits whole)
