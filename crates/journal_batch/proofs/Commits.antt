-- A batch leaves what the model's `committed` says.
use Prim.Native.Nat.{ℕ, ◌+◌, ◌*◌, ◌/◌, ◌%◌, ◌≤◌, ◌<◌}
use native.Mathlib.Omega.{arith}
use mathlib.Core.Path.{◌≡◌, refl, sym, ap, ap₂, subst, ◌∙◌}
use mathlib.Core.Bool.{Bool, true, false, cond, ◌&&◌}
use mathlib.Core.List.{List, [], ◌++◌}
use lib.Dec.{leb, ltb}
use lib.ListN.{length, drop, length-append, length-drop}
use borrow.Author.Tests.{ltb-true, ltb-false, eq-eqb, lt-leb, le-leb}
use Rattle.base_lists.specs.Lists.{all}
use Rattle.base_lists.proofs.Tests.{by_test}
use Rattle.block_layout.specs.Block.{cells_per_block, block_length}
use Rattle.archive_model.specs.Row.{Row}
use Rattle.archive_model.specs.Buffer.{max_blocks, max_rows}
use Rattle.archive_model.specs.Claims.{is_fit}
use Rattle.archive_model.proofs.Blocks.{Fits}
use Rattle.archive_fill.specs.Fill.{row_length, rows_given}
use Rattle.archive_fill.specs.Claims.{with_block}
use Rattle.archive_fill.proofs.Records.{rows-count}
use Rattle.journal_model.specs.Disk as disk
use Rattle.journal_model.specs.Disk.{State, Disk, counted, whole_blocks, leftovers, agreeing, staying, going, aside_with, next_lines, state_after_lines, blocks_written, written_end, with_rows, last_block_of, committed}
use Rattle.journal_model.specs.Claims.{last_block, padded_files, rows_after, kept_state, Counts}
use Rattle.journal_model.proofs.Kept.{Holds, fits, rows_fit, rows_next, taken_next, fit_next, end_is, last_written, state_next, new_rows}
use Rattle.journal_model.proofs.Counted.{left_is, fit_all, with_rows_lem}
use Rattle.journal_model.proofs.Claims.{counts_at, batched}
use Rattle.journal_calls.specs.Rows.{Compared, compared_rows, compare_call}
use Rattle.journal_state.specs.State.{Kept, state_bytes}
use Rattle.journal_state.specs.Lawful.{is_lawful_state}
use Rattle.journal_recovery.specs.Claims.{IsSaid}
use Rattle.journal_recovery.proofs.Recovers.{law}
use Rattle.journal_batch.specs.Batch.{Filled, filled_of, Commit, is_new, commit_of}
use Rattle.journal_batch.specs.Claims.{batch, after, Comes, Committed, BatchCommits}
use Rattle.journal_batch.proofs.Cases.{commit_done}
use Rattle.journal_batch.proofs.Filling.{archive_is, filled_is}

-- ---- rows that are compared

compare_is : (times records moments left : List ℕ) → length records ≡ row_length * length times
    → length left ≡ row_length * length moments
    → compare_call times records moments left 0 0 ≡ compared_rows (rows_given times records) (rows_given moments left)
unfolding compare_call
compare_is times records moments left a b =
    rw (eq-eqb (length records) (row_length * length times) a, eq-eqb (length left) (row_length * length moments) b)

nothing-aside : (old : List (List ℕ)) (rows : List Row) → rows ≡ [] → aside_with old rows ≡ old
nothing-aside old rows e = ap (aside_with old) e

-- leftovers of which none goes: all rows that come are among them, or they are fewer
fewer : (new left : List Row) → going new left ≡ [] → agreeing new left < length new → length left < length new
fewer new left e h =
    let gone : drop (agreeing new left) left ≡ [] = rw (lt-leb (length new) (agreeing new left) h) at e in
    omega (arith, h, ap length gone, length-drop (agreeing new left) left)

-- ---- the batch

module _ (before : List Row) (log : List (List ℕ)) (d : Disk) (count : ℕ) (times records moments left : List ℕ)
    (c : Comes before log d count times records moments left) where
  abbrev n : ℕ
  n = d.state.lines

  abbrev m : ℕ
  m = whole_blocks d.archive

  abbrev rows : List Row
  rows = rows_after before log n

  abbrev old : List Row
  old = c.stands.left

  abbrev lines : List (List ℕ)
  lines = batch before log d count

  abbrev new : List Row
  new = disk.new_rows d.state lines

  abbrev ok : all is_fit before ≡ true
  ok = c.plant.fit

  state_is : d.state ≡ kept_state max_blocks before log n
  state_is = ap (λ (x : Disk). x.state) c.stands.is

  counts : Counts max_blocks rows old d
  counts =
      subst (Counts max_blocks rows old) (sym c.stands.is)
      (counts_at max_blocks before log c.plant m n old d.aside (fits old c.stands.fit) c.stands.room)

  old_is : leftovers d ≡ old
  old_is = left_is max_blocks rows old d counts

  new_is : new ≡ new_rows max_blocks before log ok n count
  new_is =
      ap (λ (s : State). disk.new_rows s (next_lines log s count)) state_is
      ∙ taken_next max_blocks before log ok n count

  fit : Fits (rows ++ new)
  fit = subst (λ (l : List Row). Fits (rows ++ l)) (sym new_is) (fit_next max_blocks before log ok n count)

  holds : Holds max_blocks d.state rows
  holds = record { count = counts.count; limited = counts.limited; last = counts.last }

  long : length times ≡ length new
  long = sym (rows-count times records) ∙ ap length c.rows

  all_long : length (rows ++ new) ≡ length rows + length new
  all_long = length-append rows new

  one : length rows % cells_per_block + length new ≤ cells_per_block
  one = omega (arith, c.one, counts.count, long)

  -- the archive has room for them
  enough : length rows + length new ≤ cells_per_block * m
  enough =
      let e = end_is max_blocks d.state rows new holds (rows_fit max_blocks before log ok n) fit lines refl in
      omega (arith, c.room.enough, e, all_long)

  compared : compare_call times records moments left 0 0 ≡ compared_rows new old
  compared = compare_is times records moments left c.sized c.left_sized
      ∙ ap₂ compared_rows c.rows (c.left_rows ∙ old_is)

  none_goes : going new old ≡ []
  none_goes = ap (going new) (sym old_is) ∙ c.ours

  filled : filled_of d.state.last (counted d.state) times records
      ≡ record { number = 0; block = last_block max_blocks (rows ++ new) }
  filled =
      ap₂ (λ (l : List ℕ) (k : ℕ). filled_of l k times records) counts.last counts.count
      ∙ filled_is rows new times records c.rows c.sized fit one (omega (arith, enough, c.size))

  last_after : (after before log d count).state.last ≡ last_block max_blocks (rows ++ new)
  last_after = last_written max_blocks d.state rows new holds (rows_fit max_blocks before log ok n) fit lines refl

  -- ---- the archive

  abbrev is_fresh : Bool
  is_fresh = ltb (agreeing new old) (length times)

  abbrev at : ℕ
  at = length rows / cells_per_block

  abbrev block : List ℕ
  block = last_block max_blocks (rows ++ new)

  fit-staying : Fits (rows ++ staying new old)
  fit-staying =
      by_test {X = Fits (rows ++ staying new old)} (leb (length new) (agreeing new old))
      (λ t. rw t (fit_all max_blocks rows old d counts)) (λ f. rw f fit)

  archive_after : (after before log d count).archive
      ≡ padded_files max_blocks (block_length * m) (rows ++ staying new old)
  archive_after =
      ap (λ (l : List Row). with_rows d (block_length * m) (staying new l)) old_is
      ∙ with_rows_lem max_blocks rows old d counts (block_length * m) (staying new old) fit-staying

  written_new : is_fresh ≡ true → with_block at block d.archive ≡ (after before log d count).archive
  written_new t =
      let less : agreeing new old < length new = omega (arith, ltb-true (agreeing new old) (length times) t, long) in
      let few = fewer new old none_goes less in
      let inside : at < m = omega (arith, enough, less) in
      ap (with_block at block) counts.is
      ∙ archive_is rows new fit (omega (arith, less)) one (omega (arith, enough, c.size, less)) old m
      (fit_all max_blocks rows old d counts) (omega (arith, few, one)) inside
      ∙ sym (archive_after ∙ ap (λ (b : Bool). padded_files max_blocks (block_length * m) (rows ++ cond b old new))
      (lt-leb (length new) (agreeing new old) less))

  written_none : is_fresh ≡ false → d.archive ≡ (after before log d count).archive
  written_none f =
      let more : length new ≤ agreeing new old = omega (arith, ltb-false (agreeing new old) (length times) f, long) in
      counts.is
      ∙ sym (archive_after ∙ ap (λ (b : Bool). padded_files max_blocks (block_length * m) (rows ++ cond b old new))
      (le-leb (length new) (agreeing new old) more))

  archive-right : cond is_fresh (with_block at block d.archive) d.archive ≡ (after before log d count).archive
  archive-right =
      by_test {X = cond is_fresh (with_block at block d.archive) d.archive ≡ (after before log d count).archive}
      is_fresh
      (λ t. rw t (written_new t)) (λ f. rw f (written_none f))

  inside : is_fresh && leb m at ≡ false
  inside =
      by_test {X = is_fresh && leb m at ≡ false} is_fresh
      (λ t.
      let less : agreeing new old < length new = omega (arith, ltb-true (agreeing new old) (length times) t, long) in
      let low : at < m = omega (arith, enough, less) in
      rw t (lt-leb m at low))
      (λ f. rw f refl)

  -- ---- the state

  state_after : (after before log d count).state ≡ kept_state max_blocks before log (n + length lines)
  state_after =
      ap (λ (s : State). state_after_lines s (next_lines log s count)) state_is
      ∙ state_next max_blocks before log ok n count

  lawful_after : (k : Kept) → IsSaid (after before log d count).state k → is_lawful_state k ≡ true
  lawful_after k said =
      let next : rows_after before log (n + length lines) ≡ rows ++ new =
      rows_next max_blocks before log ok n count ∙ ap (λ (l : List Row). rows ++ l) (sym new_is) in
      let few : length (rows_after before log (n + length lines)) ≤ max_rows =
      omega (arith, ap length next, all_long, enough, c.size) in
      law before log c.plant (n + length lines) k (subst (λ (s : State). IsSaid s k) state_after said) few

  -- ---- all of it

  module _ (next : List ℕ → Kept)
      (said : IsSaid (after before log d count).state (next (after before log d count).state.last))
      (state : List ℕ) where
    abbrev call : Commit
    call = commit_of (counted d.state) times records moments left next d.state.last d.archive state

    abbrev told : Compared
    told = compare_call times records moments left 0 0

    abbrev put : Filled
    put = filled_of d.state.last (counted d.state) times records

    agreed_is : told.agreed ≡ agreeing new old
    agreed_is = ap (λ (x : Compared). x.agreed) compared

    block_is : put.block ≡ block
    block_is = ap (λ (x : Filled). x.block) filled

    last_is : put.block ≡ (after before log d count).state.last
    last_is = block_is ∙ sym last_after

    abbrev leaves : Commit
    leaves = record {
      number = 0;
      last = put.block;
      archive = cond (is_new times records moments left)
          (with_block (counted d.state / cells_per_block) put.block d.archive) d.archive;
      state = state_bytes (next put.block) 2;
    }

    done : call ≡ leaves
    done =
        sym (commit_done (counted d.state) times records moments left next d.state.last d.archive state
        (ap (λ (x : Compared). x.number) compared)
        (ap (λ (x : Compared). x.going) compared ∙ ap length none_goes)
        (ap (λ (x : Filled). x.number) filled)
        (ap₂ (λ (a k : ℕ). ltb a (length times) && leb m (k / cells_per_block)) agreed_is counts.count ∙ inside)
        (ap (λ (b : List ℕ). is_lawful_state (next b)) last_is
        ∙ lawful_after (next (after before log d count).state.last) said))

    commits : Committed before log d count call
    commits = record {
      number = ap (λ (x : Commit). x.number) done;
      last = ap (λ (x : Commit). x.last) done ∙ last_is;
      archive = ap (λ (x : Commit). x.archive) done
          ∙ (λ i. cond (ltb (agreed_is i) (length times))
          (with_block (counts.count i / cells_per_block) (block_is i) d.archive) d.archive)
          ∙ archive-right;
      state = record {
        kept = next (after before log d count).state.last;
        said = said;
        is = ap (λ (x : Commit). x.state) done ∙ ap (λ (b : List ℕ). state_bytes (next b) 2) last_is;
      };
      aside = nothing-aside d.aside (going new (leftovers d)) c.ours;
      stands = batched max_blocks before log c.plant d c.stands count m c.room;
    }

pub batch_commits : BatchCommits
batch_commits before log d count times records moments left c next said state =
    commits before log d count times records moments left c next said state
