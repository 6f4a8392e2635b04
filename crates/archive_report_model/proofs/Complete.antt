-- What is not refused with 11 is what some archives give: the rows of its lines, cut into archives of the most rows that one has, and empty ones
-- behind them. Nothing of such an archive is computed.
use Prim.Native.Nat.{ℕ, zero, suc, ◌+◌, ◌*◌, ◌^◌, ◌<◌, ◌≤◌}
use native.Mathlib.Omega.{arith}
use mathlib.Core.Path.{◌≡◌, refl, sym, ap, ◌∙◌, subst}
use mathlib.Core.Bool.{Bool, true}
use mathlib.Core.List.{List, [], ◌∷◌, map, flatten, map-map}
use lib.ListN.{length, take, drop, length-take, length-map}
use lib.Seq.{take_all}
use Rattle.base_lists.specs.Lists.{all, up_from}
use Rattle.base_lists.proofs.UpFrom.{length-up_from, map_same}
use Rattle.base_buffers.specs.Buffer.{part}
use Rattle.archive_model.specs.Row.{Row}
use Rattle.archive_model.specs.Buffer.{max_rows, buffer_of, rows_in}
use Rattle.archive_model.specs.Append.{verdict}
use Rattle.archive_model.specs.Claims.{is_fit}
use Rattle.archive_model.proofs.Claims.{read_back}
use Rattle.archive_model.proofs.Buffers.{pieces}
use Rattle.archive_report_model.specs.Report.{Line, Report, empty_report, max_archives, max_lines, line_of_row, add_rows, kept_in, loose_in, is_line, sum_by, is_tally, is_report, added}
use Rattle.base_numbers.specs.Bytes.{are_bytes}
use Rattle.archive_report_model.specs.Claims.{add_all, none_refused, rows_of_all, Complete}
use Rattle.archive_report_model.proofs.Order.{add_append}
use Rattle.archive_report_model.proofs.Lines.{more_added, kept-added, loose-added, kinds}
use Rattle.archive_report_model.proofs.Additions.{Passed, facts, Taken, Known, added-report}
use Rattle.archive_report_model.proofs.Bytes.{all_part, all_each}
use Rattle.archive_report_model.proofs.Written.{is_plain, buffer-bytes}
use Rattle.archive_report_model.proofs.Making.{made_rows, rows-lines, all_fit, all_lines, all_plain}
use Rattle.archive_report_model.proofs.Claims.{none_cons, all_cons, rows_cons, After, after_none, after_more}

-- ---- archives of which each is taken

pub record Fine (b : List ℕ) : Type 0 where
  pub known : Known b
  pub matches : (verdict b).number ≡ 0

module _ (f : ℕ → List ℕ) (fine : (j : ℕ) → Fine (f j)) where
  abbrev list : ℕ → ℕ → List (List ℕ)
  list a n = map f (up_from a n)

  list_next : (a n : ℕ) → list a (suc n) ≡ f a ∷ list (suc a) n
  unfolding up_from
  list_next a n = refl

  list_none : (a : ℕ) → list a 0 ≡ []
  unfolding up_from
  list_none a = refl

  abbrev AllTaken : Report → List (List ℕ) → Type 0
  AllTaken s bs = (none_refused s bs ≡ true) × After s bs (add_all s bs)

  first_taken : (s : Report) (b : List ℕ) (bs : List (List ℕ)) → Fine b → is_report s ≡ true → s.archives < max_archives
      → length (add_rows (rows_of_all (b ∷ bs)) s.lines) ≤ max_lines → Taken s b
  first_taken s b bs g r a few =
      let e =
      ap (λ (rows : List Row). add_rows rows s.lines) (rows_cons b bs)
      ∙ add_append (rows_in b) (rows_of_all bs) s.lines in
      record {
        report = r;
        matches = g.matches;
        archives = a;
        few = omega (arith, few, ap length e, more_added (add_rows (rows_in b) s.lines) (rows_of_all bs));
      }

  rest_few : (s : Report) (b : List ℕ) (bs : List (List ℕ))
      → length (add_rows (rows_of_all (b ∷ bs)) s.lines) ≤ max_lines
      → length (add_rows (rows_of_all bs) (added s (rows_in b)).lines) ≤ max_lines
  unfolding added
  rest_few s b bs few =
      let e =
      ap (λ (rows : List Row). add_rows rows s.lines) (rows_cons b bs)
      ∙ add_append (rows_in b) (rows_of_all bs) s.lines in
      omega (arith, few, ap length e)

  one_more : (s : Report) (b : List ℕ) → (added s (rows_in b)).archives ≡ s.archives + 1
  unfolding added
  one_more s b = refl

  all_taken : (a n : ℕ) (s : Report) → is_report s ≡ true → s.archives + n ≤ max_archives
      → length (add_rows (rows_of_all (list a n)) s.lines) ≤ max_lines → AllTaken s (list a n)
  all_taken a zero s r k few = subst (AllTaken s) (sym (list_none a)) (refl, after_none s)
  all_taken a (suc n) s r k few =
      let b = f a in
      let bs = list (suc a) n in
      let few2 : length (add_rows (rows_of_all (b ∷ bs)) s.lines) ≤ max_lines =
      subst (λ (l : List (List ℕ)). length (add_rows (rows_of_all l) s.lines) ≤ max_lines) (list_next a n) few in
      let t = first_taken s b bs (fine a) r (omega arith) few2 in
      let ih =
      all_taken (suc a) n (added s (rows_in b)) (added-report s b t (fine a).known)
      (omega (arith, one_more s b)) (rest_few s b bs few2) in
      subst (AllTaken s) (sym (list_next a n)) (
        none_cons s b bs t ih.0,
        subst (After s (b ∷ bs)) (sym (all_cons s b bs t)) (after_more s b bs (add_all (added s (rows_in b)) bs) ih.1),
      )

-- ---- the archives of a report

part_few : (a w : ℕ) (rows : List Row) → length (part a w rows) ≤ w
part_few a w rows = omega (arith, length-take w (drop a rows))

module _ (s : Report) (h : is_report s ≡ true) where
  abbrev p : Passed s
  p = facts s h

  abbrev rows : List Row
  rows = made_rows s.lines

  back : add_rows rows [] ≡ s.lines
  back = rows-lines s.lines p.each p.rising

  kept_is : kept_in rows ≡ s.kept
  kept_is = omega (arith, kept-added [] rows, ap (sum_by (λ (a : Line). a.kept)) back, p.kept)

  loose_is : loose_in rows ≡ s.loose
  loose_is = omega (arith, loose-added [] rows, ap (sum_by (λ (a : Line). a.loose)) back, p.loose)

  rows_few : length rows ≤ max_rows * s.archives
  rows_few = omega (arith, kinds rows, kept_is, loose_is, p.rows)

  abbrev piece : ℕ → List Row
  piece j = part (max_rows * j) max_rows rows

  piece_few : (j : ℕ) → length (piece j) ≤ max_rows
  piece_few j = part_few (max_rows * j) max_rows rows

  abbrev archive : ℕ → List ℕ
  archive j = buffer_of (512 * 2 ^ 32) (piece j)

  read : (j : ℕ) → ((verdict (archive j)).number ≡ 0) × (rows_in (archive j) ≡ piece j)
  read j =
      read_back (2 ^ 32) (piece j) (omega arith) (piece_few j)
      (all_part is_fit (max_rows * j) max_rows rows (all_fit s.lines p.each))

  abbrev gives_line : Row → Bool
  gives_line r = is_line (line_of_row r)

  fine : (j : ℕ) → Fine (archive j)
  fine j = record {
    known = record {
      lines =
          ap (all gives_line) (read j).1
          ∙ all_part gives_line (max_rows * j) max_rows rows (all_lines s.lines p.each);
      few = subst (λ (l : List Row). length l ≤ max_rows) (sym (read j).1) (piece_few j);
    };
    matches = (read j).0;
  }

  abbrev archives : List (List ℕ)
  archives = map archive (up_from 0 s.archives)

  are_bytes_lem : all are_bytes archives ≡ true
  are_bytes_lem =
      all_each are_bytes archive
      (λ j. buffer-bytes (512 * 2 ^ 32) (piece j)
      (all_part is_plain (max_rows * j) max_rows rows (all_plain s.lines p.each)))
      0
      s.archives

  rows_back : rows_of_all archives ≡ rows
  unfolding rows_of_all
  rows_back =
      let n = s.archives in
      let z : max_rows * 0 ≡ 0 = omega arith in
      ap flatten
      (map-map rows_in archive (up_from 0 n) ∙ map_same (λ j. rows_in (archive j)) piece 0 n (λ j l k. (read j).1))
      ∙ pieces max_rows rows 0 n ∙ ap (λ (a : ℕ). take (max_rows * n) (drop a rows)) z
      ∙ take_all (max_rows * n) rows rows_few

  taken : (none_refused empty_report archives ≡ true) × After empty_report archives (add_all empty_report archives)
  unfolding is_report is_tally
  taken =
      all_taken archive fine 0 s.archives empty_report refl (omega (arith, p.archives))
      (omega (arith, ap (λ (l : List Row). length (add_rows l [])) rows_back, ap length back, p.few))

  given : add_all empty_report archives ≡ s
  given =
      let a = taken.1 in
      let n : (add_all empty_report archives).archives ≡ s.archives =
      a.archives ∙ omega (arith, length-map (up_from 0 s.archives) archive, length-up_from 0 s.archives) in
      let l : (add_all empty_report archives).lines ≡ s.lines =
      a.lines ∙ ap (λ (r : List Row). add_rows r []) rows_back ∙ back in
      let k : (add_all empty_report archives).kept ≡ s.kept = a.kept ∙ omega (arith, ap kept_in rows_back, kept_is) in
      let o : (add_all empty_report archives).loose ≡ s.loose =
      a.loose ∙ omega (arith, ap loose_in rows_back, loose_is) in
      λ i. record { archives = n i; lines = l i; kept = k i; loose = o i }

pub complete : Complete
complete s h = (archives s h, are_bytes_lem s h, (taken s h).0, given s h)
