-- The claims on reports.
use Prim.Native.Nat.{ℕ, ◌+◌, ◌*◌, ◌/◌, ◌%◌, ◌<◌, ◌≤◌}
use native.Mathlib.Nat.{div-add-mod', mod-lt, div-le_of_le-mul, add-mul, one-mul}
use native.Mathlib.Omega.{arith}
use mathlib.Core.Path.{◌≡◌, refl, sym, ap, ◌∙◌, subst}
use mathlib.Core.Bool.{Bool, true, not, ◌&&◌, ◌||◌}
use mathlib.Core.List.{List, [], ◌∷◌, ◌++◌, flatten, Memᴰ, Permᴰ}
use lib.Dec.{ltb, eqb}
use lib.ListN.{length}
use borrow.Author.Tests.{eq-eqb, eqb-true, eqb-false, ltb-false}
use Rattle.base_refusal.specs.declared.Refusal.TheVariants.{Argument, NotAccepted}
use Rattle.base_refusal.proofs.Numbers.{refused-number}
use Rattle.base_lists.specs.Lists.{any, all, count}
use Rattle.base_lists.proofs.Choice.{both, neither}
use Rattle.base_lists.proofs.Tests.{and-true, by_test}
use Rattle.archive_model.specs.Row.{Row}
use Rattle.archive_model.specs.Buffer.{rows_in}
use Rattle.archive_report_model.specs.Report.{Line, Report, empty_report, add_rows, kept_in, loose_in, is_rising, is_tally, is_report, Addition, added, add_of, share_of}
use Rattle.base_numbers.specs.Bytes.{are_bytes}
use Rattle.archive_report_model.specs.Claims.{add_all, archives_accepted, none_refused, rows_of_all, TotalsAreSums, AnyOrder, Sound, RoundedDown, ShareRoundedDown}
use Rattle.archive_report_model.proofs.Order.{add_comm-rows, add_append, add_none}
use Rattle.archive_report_model.proofs.Lines.{rising-added, more_added, count_append}
use Rattle.archive_report_model.proofs.Additions.{Taken, taken_next, is_taken, refused-kept, added-report}
use Rattle.archive_report_model.proofs.Bytes.{known}
use Rattle.archive_report_model.proofs.Sums.{line-counts, any_added}

-- ---- a report stays one

module _ (s : Report) (buffer : List ℕ) (t : Taken s buffer) where
  pub next_is : (add_of s buffer).next ≡ added s (rows_in buffer)
  next_is = ap (λ (a : Addition). a.next) (taken_next s buffer t)

  pub number_is : (add_of s buffer).number ≡ 0
  number_is = ap (λ (a : Addition). a.number) (taken_next s buffer t)

pub stays : (s : Report) (buffer : List ℕ) → are_bytes buffer ≡ true
    → is_report s ≡ true → is_report (add_of s buffer).next ≡ true
stays s buffer b h =
    by_test {X = is_report (add_of s buffer).next ≡ true} (eqb (add_of s buffer).number 0)
    (λ e.
    let t = is_taken s buffer (eqb-true (add_of s buffer).number 0 e) in
    ap is_report (next_is s buffer t) ∙ added-report s buffer t (known buffer t.matches b))
    (λ e. ap is_report (refused-kept s buffer (eqb-false (add_of s buffer).number 0 e)) ∙ h)

sound_from : (s : Report) (buffers : List (List ℕ)) → is_report s ≡ true
    → all are_bytes buffers ≡ true → is_report (add_all s buffers) ≡ true
sound_from s [] h t = h
sound_from s (b ∷ bs) h t =
    let w = both (are_bytes b) (all are_bytes bs) t in
    sound_from (add_of s b).next bs (stays s b w.0 h) w.1

pub sound : Sound
unfolding is_report is_tally
sound buffers t = sound_from empty_report buffers refl t

-- ---- the order

-- two archives in a row, and in the other order
module _ (s : Report) (x y : List ℕ) (bytes : are_bytes y ≡ true)
    (first : Taken s x) (second : Taken (added s (rows_in x)) y) where
  abbrev both_lines : List Line
  both_lines = add_rows (rows_in y) (add_rows (rows_in x) s.lines)

  lines_swapped : add_rows (rows_in x) (add_rows (rows_in y) s.lines) ≡ both_lines
  lines_swapped = add_comm-rows (rows_in x) (rows_in y) s.lines

  lines_few : length both_lines ≤ 256
  unfolding added
  lines_few = second.few

  pub swapped_first : Taken s y
  unfolding added
  swapped_first = record {
    report = first.report;
    matches = second.matches;
    archives = omega (arith, second.archives);
    few =
        omega (arith, lines_few, more_added (add_rows (rows_in y) s.lines) (rows_in x), ap length lines_swapped);
  }

  pub swapped_second : Taken (added s (rows_in y)) x
  unfolding added
  swapped_second = record {
    report = added-report s y swapped_first (known y second.matches bytes);
    matches = first.matches;
    archives = second.archives;
    few = omega (arith, lines_few, ap length lines_swapped);
  }

  pub swapped : added (added s (rows_in y)) (rows_in x) ≡ added (added s (rows_in x)) (rows_in y)
  unfolding added
  swapped =
      let k : s.kept + kept_in (rows_in y) + kept_in (rows_in x) ≡ s.kept + kept_in (rows_in x) + kept_in (rows_in y) =
      omega arith in
      let l : s.loose + loose_in (rows_in y) + loose_in (rows_in x)
      ≡ s.loose + loose_in (rows_in x) + loose_in (rows_in y) =
      omega arith in
      λ i. record { archives = s.archives + 1 + 1; lines = lines_swapped i; kept = k i; loose = l i }

-- what the first of a list that none is refused of tells
module _ (s : Report) (b : List ℕ) (bs : List (List ℕ)) where
  pub head_taken : none_refused s (b ∷ bs) ≡ true → Taken s b
  head_taken h = is_taken s b (eqb-true (add_of s b).number 0 (both (eqb (add_of s b).number 0) _ h).0)

  pub tail_none : none_refused s (b ∷ bs) ≡ true → none_refused (added s (rows_in b)) bs ≡ true
  tail_none h =
      ap (λ (r : Report). none_refused r bs) (sym (next_is s b (head_taken h)))
      ∙ (both (eqb (add_of s b).number 0) _ h).1

  pub none_cons : Taken s b → none_refused (added s (rows_in b)) bs ≡ true → none_refused s (b ∷ bs) ≡ true
  none_cons t h =
      and-true (eq-eqb (add_of s b).number 0 (number_is s b t))
      (ap (λ (r : Report). none_refused r bs) (next_is s b t) ∙ h)

  pub all_cons : Taken s b → add_all s (b ∷ bs) ≡ add_all (added s (rows_in b)) bs
  all_cons t = ap (λ (r : Report). add_all r bs) (next_is s b t)

abbrev Same : Report → List (List ℕ) → List (List ℕ) → Type 0
Same s xs ys = (none_refused s ys ≡ true) × (add_all s ys ≡ add_all s xs)

swap_two : (s : Report) (x y : List ℕ) (l : List (List ℕ)) → are_bytes x ≡ true
    → none_refused s (y ∷ x ∷ l) ≡ true → Same s (y ∷ x ∷ l) (x ∷ y ∷ l)
swap_two s x y l b h =
    let f = head_taken s y (x ∷ l) h in
    let rest = tail_none s y (x ∷ l) h in
    let sy = added s (rows_in y) in
    let sx = added s (rows_in x) in
    let g = head_taken sy x l rest in
    let tail = tail_none sy x l rest in
    let f2 = swapped_first s y x b f g in
    let g2 = swapped_second s y x b f g in
    let e : added sx (rows_in y) ≡ added sy (rows_in x) = swapped s y x b f g in (
      none_cons s x (y ∷ l) f2 (none_cons sx y l g2 (ap (λ (r : Report). none_refused r l) e ∙ tail)),
      all_cons s x (y ∷ l) f2 ∙ all_cons sx y l g2 ∙ ap (λ (r : Report). add_all r l) e
          ∙ sym (all_cons sy x l g) ∙ sym (all_cons s y (x ∷ l) f),
    )

perm_bytes : {xs ys : List (List ℕ)} → Permᴰ xs ys → all are_bytes xs ≡ true → all are_bytes ys ≡ true
perm_bytes Permᴰ.nil t = t
perm_bytes (Permᴰ.cons {a = a} {l₁ = l₁} e p) t =
    let w = both (are_bytes a) (all are_bytes l₁) t in
    and-true (ap are_bytes (sym e) ∙ w.0) (perm_bytes p w.1)
perm_bytes (Permᴰ.swap {a = x} {b = y} {l = l} e f) t =
    let w = both (are_bytes x) (are_bytes y && all are_bytes l) t in
    let u = both (are_bytes y) (all are_bytes l) w.1 in
    and-true (ap are_bytes (sym f) ∙ u.0) (and-true (ap are_bytes (sym e) ∙ w.0) u.1)
perm_bytes (Permᴰ.trans p q) t = perm_bytes q (perm_bytes p t)

pub any_order : AnyOrder
any_order s xs ys p t h = go p s t h
  where
    go : {us vs : List (List ℕ)} → Permᴰ us vs → (s : Report)
        → all are_bytes us ≡ true → none_refused s us ≡ true → Same s us vs
    go Permᴰ.nil s t h = (refl, refl)
    go (Permᴰ.cons {a = a} {b = b} {l₁ = l₁} {l₂ = l₂} e p) s t h =
        let w = both (are_bytes a) (all are_bytes l₁) t in
        let f = head_taken s a l₁ h in
        let r = go p (added s (rows_in a)) w.1 (tail_none s a l₁ h) in
        let same : Same s (a ∷ l₁) (a ∷ l₂) =
        (none_cons s a l₂ f r.0, all_cons s a l₂ f ∙ r.1 ∙ sym (all_cons s a l₁ f)) in
        subst (λ (c : List ℕ). Same s (a ∷ l₁) (c ∷ l₂)) e same
    go (Permᴰ.swap {a = x} {b = y} {a' = y'} {b' = x'} {l = l} e f) s t h =
        let w = both (are_bytes x) (are_bytes y && all are_bytes l) t in
        let same : Same s (x ∷ y ∷ l) (y ∷ x ∷ l) = swap_two s y x l (both (are_bytes y) (all are_bytes l) w.1).0 h in
        subst (λ (c : List ℕ). Same s (x ∷ y ∷ l) (y' ∷ c ∷ l)) e
        (subst (λ (c : List ℕ). Same s (x ∷ y ∷ l) (c ∷ x ∷ l)) f same)
    go (Permᴰ.trans p q) s t h =
        let a = go p s t h in
        let b = go q s (perm_bytes p t) a.0 in
        (b.0, b.1 ∙ a.1)

-- ---- the share

rounded : (n received : ℕ) → (received ≡ 0 → ⊥) → n ≤ received → RoundedDown (1000 * n / received) n received
rounded n received z h =
    let q = 1000 * n / received in
    let part : q * received + 1000 * n % received ≡ 1000 * n = div-add-mod' (1000 * n) received in
    let rest : 1000 * n % received < received = mod-lt (1000 * n) (omega arith) in
    let next : (q + 1) * received ≡ q * received + received =
    add-mul q 1 received ∙ ap (λ (m : ℕ). q * received + m) (one-mul received) in
    record { most = div-le_of_le-mul received (omega arith); low = omega arith; high = omega arith }

pub share_rounded_down : ShareRoundedDown
unfolding share_of
share_rounded_down s received e =
    let rows = s.kept + s.loose in
    by_test {X = RoundedDown (share_of s received).thousandths rows received} (is_report s)
    (λ r.
    by_test {X = RoundedDown (share_of s received).thousandths rows received} (eqb received 0 || ltb received rows)
    (λ t. absurd (refused-number Argument (rw (r, t) at e)))
    (λ t.
    let n = neither (eqb received 0) (ltb received rows) t in
    rw (r, t) (rounded rows received (eqb-false received 0 n.0) (ltb-false received rows n.1))))
    (λ r. absurd (refused-number NotAccepted (rw r at e)))

-- ---- the sums

pub rows_cons : (b : List ℕ) (bs : List (List ℕ)) → rows_of_all (b ∷ bs) ≡ rows_in b ++ rows_of_all bs
unfolding rows_of_all flatten
rows_cons b bs = refl

-- a report after archives, those answered 0 in their order
pub record After (s : Report) (buffers : List (List ℕ)) (t : Report) : Type 0 where
  pub archives : t.archives ≡ s.archives + length buffers
  pub lines : t.lines ≡ add_rows (rows_of_all buffers) s.lines
  pub kept : t.kept ≡ s.kept + kept_in (rows_of_all buffers)
  pub loose : t.loose ≡ s.loose + loose_in (rows_of_all buffers)

pub after_none : (s : Report) → After s [] s
unfolding rows_of_all flatten
after_none s =
    record { archives = omega arith; lines = sym (add_none s.lines); kept = omega arith; loose = omega arith }

pub after_more : (s : Report) (b : List ℕ) (bs : List (List ℕ)) (t : Report)
    → After (added s (rows_in b)) bs t → After s (b ∷ bs) t
unfolding added
after_more s b bs t a =
    let split : (p : Row → Bool) → count p (rows_of_all (b ∷ bs)) ≡ count p (rows_in b) + count p (rows_of_all bs) =
    λ p. ap (count p) (rows_cons b bs) ∙ count_append p (rows_in b) (rows_of_all bs) in
    record {
      archives = omega (arith, a.archives);
      lines =
          a.lines ∙ sym (add_append (rows_in b) (rows_of_all bs) s.lines)
          ∙ ap (λ (rows : List Row). add_rows rows s.lines) (sym (rows_cons b bs));
      kept = omega (arith, a.kept, split (λ r. not r.loose));
      loose = omega (arith, a.loose, split (λ r. r.loose));
    }

after_all : (s : Report) (buffers : List (List ℕ)) → After s (archives_accepted s buffers) (add_all s buffers)
after_all s [] = after_none s
after_all s (b ∷ bs) =
    by_test {X = After s (archives_accepted s (b ∷ bs)) (add_all s (b ∷ bs))} (eqb (add_of s b).number 0)
    (λ t.
    let e = next_is s b (is_taken s b (eqb-true (add_of s b).number 0 t)) in
    rw t (after_more s b (archives_accepted (add_of s b).next bs) (add_all s (b ∷ bs))
    (subst (λ (r : Report). After r (archives_accepted (add_of s b).next bs) (add_all s (b ∷ bs))) e
    (after_all (add_of s b).next bs))))
    (λ f.
    let e = refused-kept s b (eqb-false (add_of s b).number 0 f) in
    rw f
    (subst (λ (r : Report). After r (archives_accepted (add_of s b).next bs) (add_all s (b ∷ bs))) e
    (after_all (add_of s b).next bs)))

pub totals_are_sums : TotalsAreSums
totals_are_sums buffers =
    let a = after_all empty_report buffers in
    let rows = rows_of_all (archives_accepted empty_report buffers) in
    record {
      archives = omega (arith, a.archives);
      kept = omega (arith, a.kept);
      loose = omega (arith, a.loose);
      ordered = ap is_rising a.lines ∙ rising-added [] rows refl;
      transmitters = λ i. ap (any (λ (l : Line). eqb l.identity i)) a.lines ∙ any_added i rows;
      lines = λ l m. line-counts rows l (subst (λ (ls : List Line). Memᴰ l ls) a.lines m);
    }
