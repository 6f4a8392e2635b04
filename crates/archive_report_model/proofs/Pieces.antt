-- An archive in pieces: the tally of all blocks is what `add_of` answers by.
--     tally-rows        a tally after some blocks, by the rows of all of them
--     rows-counted      the rows of a buffer that matches are those that its blocks add
--     closing-is        the answer
use Prim.Native.Nat.{ℕ, suc, ◌+◌, ◌<◌, ◌≤◌}
use native.Mathlib.Omega.{arith}
use mathlib.Core.Path.{◌≡◌, refl, sym, ap, ap₂, ◌∙◌}
use mathlib.Core.Bool.{Bool, true, false, cond, not, ◌&&◌, ◌||◌, false≢true}
use mathlib.Core.List.{List, [], ◌∷◌, ◌++◌, map, flatten, append-nil}
use lib.Dec.{ltb, eqb}
use lib.ListN.{length}
use borrow.Author.Tests.{lt-ltb, le-ltb, ltb-true}
use Rattle.base_refusal.specs.Number.{number_of}
use Rattle.base_refusal.specs.declared.Refusal.TheVariants.{Mismatch}
use Rattle.base_lists.proofs.Tests.{by_test}
use Rattle.archive_model.specs.Row.{Row, block_number, rows_of, is_sound, is_blank}
use Rattle.archive_model.specs.Buffer.{Found, At, None, is_whole, blocks_in, rows_in, non_zero, is_short, is_followed, mismatch_from, mismatch, Scan, start_scan, scan_block, scan_blocks, stage_found}
use Rattle.archive_model.specs.Append.{verdict}
use Rattle.archive_model.proofs.Pieces.{scan-found, rows-count, at_none}
use Rattle.archive_model.proofs.Buffers.{blank_count}
use Rattle.archive_report_model.specs.Report.{Line, Report, max_lines, add_rows, kept_in, loose_in, is_report, addition, added, add_of}
use Rattle.archive_report_model.specs.Pieces.{Tally, start_tally, counted_rows, tally_after, add_block, add_blocks, tally_addition, closing}
use Rattle.archive_report_model.proofs.Order.{add_append, add_none}
use Rattle.archive_report_model.proofs.Lines.{more_added, count_append}
use Rattle.archive_report_model.proofs.Additions.{facts}

abbrev rows_of_blocks : List (List ℕ) → List Row
rows_of_blocks blocks = flatten (map counted_rows blocks)

-- ---- rows in two parts

over_more : (over : Bool) (lines : List Line) (xs ys : List Row)
    → (over || ltb max_lines (length (add_rows xs lines))) ≡ true
    → (over || ltb max_lines (length (add_rows (xs ++ ys) lines))) ≡ true
over_more true lines xs ys h = refl
over_more false lines xs ys h =
    let l : max_lines < length (add_rows xs lines) = ltb-true max_lines (length (add_rows xs lines)) h in
    lt-ltb max_lines (length (add_rows (xs ++ ys) lines))
    (omega (arith, ap length (add_append xs ys lines), more_added (add_rows xs lines) ys))

twice : (t : Tally) (xs ys : List Row) (a b : Scan) → tally_after (tally_after t xs a) ys b ≡ tally_after t (xs ++ ys) b
twice t xs ys a b =
    by_test {X = tally_after (tally_after t xs a) ys b ≡ tally_after t (xs ++ ys) b}
    (t.over || ltb max_lines (length (add_rows xs t.lines)))
    (λ h. rw (h, over_more t.over t.lines xs ys h))
    (λ h. rw h (go t.over h))
  where
    go : (over : Bool) → (over || ltb max_lines (length (add_rows xs t.lines))) ≡ false
        → tally_after
        (record {
          lines = add_rows xs t.lines;
          kept = t.kept + kept_in xs;
          loose = t.loose + loose_in xs;
          over = false;
          scan = a;
        })
        ys b
        ≡ tally_after (record { lines = t.lines; kept = t.kept; loose = t.loose; over = over; scan = t.scan })
        (xs ++ ys) b
    go true h = absurd (false≢true (sym h))
    go false h =
        let k : t.kept + kept_in (xs ++ ys) ≡ t.kept + kept_in xs + kept_in ys =
        omega (arith, count_append (λ r. not r.loose) xs ys) in
        let l : t.loose + loose_in (xs ++ ys) ≡ t.loose + loose_in xs + loose_in ys =
        omega (arith, count_append (λ r. r.loose) xs ys) in
        rw (add_append xs ys t.lines, k, l)

-- a tally that no rows change: one without a line too many, or one that has none left
abbrev Settled : Tally → Type 0
Settled t = tally_after t [] t.scan ≡ t

start_settled : (s : Report) → length s.lines ≤ max_lines → Settled (start_tally s)
start_settled s h =
    let k : s.kept + 0 ≡ s.kept = omega arith in
    let l : s.loose + 0 ≡ s.loose = omega arith in
    rw (add_none s.lines, le-ltb max_lines (length s.lines) h, k, l)

scan_of : (t : Tally) (rows : List Row) (scan : Scan) → (tally_after t rows scan).scan ≡ scan
scan_of t rows scan =
    by_test {X = (tally_after t rows scan).scan ≡ scan}
    (t.over || ltb max_lines (length (add_rows rows t.lines))) (λ h. rw h) (λ h. rw h)

counted-settled : (t : Tally) (rows : List Row) (scan : Scan) → Settled (tally_after t rows scan)
counted-settled t rows scan =
    ap (tally_after (tally_after t rows scan) []) (scan_of t rows scan) ∙ twice t rows [] scan scan
    ∙ ap (λ (l : List Row). tally_after t l scan) (append-nil rows)

tally-rows : (t : Tally) → Settled t → (blocks : List (List ℕ))
    → add_blocks t blocks ≡ tally_after t (rows_of_blocks blocks) (scan_blocks t.scan blocks)
unfolding add_blocks add_block flatten scan_blocks
tally-rows t h [] = sym h
tally-rows t h (b ∷ bs) =
    let next = scan_block t.scan b in
    let rows = rows_of_blocks bs in
    tally-rows (tally_after t (counted_rows b) next) (counted-settled t (counted_rows b) next) bs
    ∙ ap (λ (a : Scan). tally_after (tally_after t (counted_rows b) next) rows (scan_blocks a bs))
    (scan_of t (counted_rows b) next)
    ∙ twice t (counted_rows b) rows next (scan_blocks next bs)

-- ---- the rows of a buffer that matches

blank_counted : (b : List ℕ) → is_blank b ≡ true → counted_rows b ≡ rows_of b
blank_counted b h =
    let none : length (rows_of b) ≡ 0 = rows-count b ∙ blank_count b h in
    by_test {X = counted_rows b ≡ rows_of b} (is_sound b) (λ t. rw t) (λ f. rw f (sym (empty (rows_of b) none)))
  where
    empty : (l : List Row) → length l ≡ 0 → l ≡ []
    empty [] e = refl
    empty (x ∷ l) e = absurd (omega arith)

sound_counted : (b : List ℕ) → is_sound b ≡ true → counted_rows b ≡ rows_of b
sound_counted b h = rw h

blanks_counted : (k : ℕ) (bs : List (List ℕ)) → non_zero k bs ≡ None → rows_of_blocks bs ≡ flatten (map rows_of bs)
unfolding flatten
blanks_counted k [] e = refl
blanks_counted k (b ∷ bs) e =
    by_test {X = rows_of_blocks (b ∷ bs) ≡ flatten (map rows_of (b ∷ bs))} (is_blank b)
    (λ t. ap₂ ◌++◌ (blank_counted b t) (blanks_counted (suc k) bs (rw t at e)))
    (λ f. absurd (at_none k (rw f at e)))

matching_counted : (k : ℕ) (bs : List (List ℕ)) → mismatch_from k bs ≡ None
    → rows_of_blocks bs ≡ flatten (map rows_of bs)
unfolding flatten mismatch_from
matching_counted k [] e = refl
matching_counted k (b ∷ bs) e =
    go (is_blank b) (is_sound b) (eqb (block_number b) k) (is_short b && is_followed bs)
    (blank_counted b) (sound_counted b) (matching_counted (suc k) bs) e
  where
    go : (blank sound number short : Bool) → (blank ≡ true → counted_rows b ≡ rows_of b)
        → (sound ≡ true → counted_rows b ≡ rows_of b)
        → (mismatch_from (suc k) bs ≡ None → rows_of_blocks bs ≡ flatten (map rows_of bs))
        → cond blank (non_zero (suc k) bs)
        (cond (not (sound && number)) (At k) (cond short (At k) (mismatch_from (suc k) bs)))
        ≡ None
        → counted_rows b ++ rows_of_blocks bs ≡ rows_of b ++ flatten (map rows_of bs)
    go true sound number short f g ih q = ap₂ ◌++◌ (f refl) (blanks_counted (suc k) bs q)
    go false true true true f g ih q = absurd (at_none k q)
    go false true true false f g ih q = ap₂ ◌++◌ (g refl) (ih q)
    go false true false short f g ih q = absurd (at_none k q)
    go false false number short f g ih q = absurd (at_none k q)

rows-counted : (buffer : List ℕ) → mismatch buffer ≡ None → rows_of_blocks (blocks_in buffer) ≡ rows_in buffer
unfolding mismatch rows_in
rows-counted buffer e = matching_counted 0 (blocks_in buffer) e

-- ---- the answer

module _ (s : Report) (buffer : List ℕ) (r : is_report s ≡ true) (w : is_whole (length buffer) ≡ true) where
  abbrev tally : Tally
  tally = add_blocks (start_tally s) (blocks_in buffer)

  abbrev scan : Scan
  scan = scan_blocks start_scan (blocks_in buffer)

  tally_is : tally ≡ tally_after (start_tally s) (rows_of_blocks (blocks_in buffer)) scan
  tally_is = tally-rows (start_tally s) (start_settled s (facts s r).few) (blocks_in buffer)

  stage_is : stage_found tally.scan.stage ≡ mismatch buffer
  stage_is =
      ap (λ (u : Tally). stage_found u.scan.stage) tally_is
      ∙ ap (λ (a : Scan). stage_found a.stage) (scan_of (start_tally s) (rows_of_blocks (blocks_in buffer)) scan)
      ∙ scan-found buffer

  damaged : (k : ℕ) → mismatch buffer ≡ At k → addition (number_of Mismatch) k s ≡ add_of s buffer
  unfolding add_of verdict
  damaged k e = rw (r, w, e)

  matched : mismatch buffer ≡ None
      → tally_addition s (tally_after (start_tally s) (rows_in buffer) scan) None ≡ add_of s buffer
  unfolding add_of verdict added
  matched e =
      by_test {X = tally_addition s (tally_after (start_tally s) (rows_in buffer) scan) None ≡ add_of s buffer}
      (ltb max_lines (length (add_rows (rows_in buffer) s.lines)))
      (λ h. rw (r, w, e, h))
      (λ h. rw (r, w, e, h))

  by_found : (f : Found) → mismatch buffer ≡ f → tally_addition s tally f ≡ add_of s buffer
  by_found (At k) e = damaged k e
  by_found None e =
      ap (λ (t : Tally). tally_addition s t None)
      (tally_is ∙ ap (λ (rows : List Row). tally_after (start_tally s) rows scan) (rows-counted buffer e))
      ∙ matched e

  pub closing_is : closing s tally ≡ add_of s buffer
  unfolding closing
  closing_is = ap (tally_addition s tally) stage_is ∙ by_found (mismatch buffer) refl
