-- A run of blocks, as the code goes through them.
--     dense-many, dense-ended, dense-on                                   the rows of so many blocks
--     RunFacts, run-facts, run-limit, run-place, run-many, run-dense      what `is_run` says
--     block-ended, block-unsound, block-number, block-passed              one block more: the cases of `run_block`
--     block-next                                                           it leaves the numbers of a run
--     run-next, run-none                                                   the loop over the blocks
--     feed-not, feed-odd, feed-many, feed-done                             the cases of `run_call`
use Prim.Native.Nat.{ℕ, ◌+◌, ◌*◌, ◌/◌, ◌%◌, ◌≤◌, ◌<◌}
use native.Mathlib.Nat.{mod-lt}
use native.Mathlib.Omega.{arith}
use mathlib.Core.Path.{◌≡◌, sym, ap, ◌∙◌}
use mathlib.Core.Bool.{Bool, true, false, ◌&&◌, false≢true}
use mathlib.Core.List.{List, ◌++◌}
use lib.Dec.{ltb, leb, eqb}
use lib.ListN.{length}
use borrow.Author.Tests.{leb-true, ltb-true, ltb-false, eq-eqb, ne_eqb, lt-ltb, le-ltb, le-leb, lt-leb}
use Rattle.base_lists.proofs.Choice.{both}
use Rattle.base_lists.proofs.Tests.{by_test, branch}
use Rattle.base_refusal.specs.Number.{number_of}
use Rattle.base_refusal.specs.declared.Refusal.TheVariants.{NotAccepted, Size}
use Rattle.block_layout.specs.Block.{cells_per_block, block_length}
use Rattle.archive_model.specs.Row.{block_number, row_count, is_sound}
use Rattle.archive_model.specs.Buffer.{max_blocks, blocks_in}
use Rattle.archive_model.proofs.Exact.{tests}
use Rattle.archive_file.specs.Archive.{sound_count}
use Rattle.archive_file.proofs.Scans.{blocks_none, blocks_next}
use Rattle.journal_calls.specs.Run.{Run, stopped, passed, run_block, run_blocks, is_dense, is_run, run_at, run_numbers, RunCall, run_call}
use Rattle.journal_calls.proofs.Judged.{sound_none, sound_some}

-- ---- numbers of a run

pub record RunFacts (r : Run) : Type 0 where
  pub limited : r.limit ≤ max_blocks
  pub placed : r.place < r.limit
  pub few : r.blocks ≤ max_blocks
  pub dense : r.rows ≤ cells_per_block * r.blocks
  pub near : cells_per_block * r.blocks < r.rows + cells_per_block
  pub full : r.ended ≡ false → cells_per_block * r.blocks ≤ r.rows

-- the rows of so many blocks
module _ (ended : Bool) (n rows : ℕ) where
  pub dense_many : cells_per_block * n < rows → false ≡ is_dense ended n rows
  dense_many h = rw (lt-leb rows (cells_per_block * n) h)

  module _ (few : rows ≤ cells_per_block * n) where
    pub dense_ended : ended ≡ true → ltb (cells_per_block * n) (rows + cells_per_block) ≡ is_dense ended n rows
    dense_ended e = rw (le-leb rows (cells_per_block * n) few, e)

    pub dense_on : ended ≡ false → leb (cells_per_block * n) rows ≡ is_dense ended n rows
    dense_on e = rw (le-leb rows (cells_per_block * n) few, e)

module _ (r : Run) where
  abbrev is_full_lem : Bool
  is_full_lem = is_dense r.ended r.blocks r.rows

  dense_near : is_full_lem ≡ true → cells_per_block * r.blocks < r.rows + cells_per_block
  dense_near h =
      let n = cells_per_block * r.blocks in
      let d = both (leb r.rows n) _ h in
      by_test {X = n < r.rows + cells_per_block} r.ended
      (λ t. ltb-true n (r.rows + cells_per_block) (rw t at d.1))
      (λ f. let l : n ≤ r.rows = leb-true n r.rows (rw f at d.1) in omega arith)

  dense_full : is_full_lem ≡ true → r.ended ≡ false → cells_per_block * r.blocks ≤ r.rows
  dense_full h f =
      leb-true (cells_per_block * r.blocks) r.rows (rw f at (both (leb r.rows (cells_per_block * r.blocks)) _ h).1)

  pub run_facts : is_run r ≡ true → RunFacts r
  unfolding is_run
  run_facts h =
      let a = both (leb r.limit max_blocks) _ h in
      let b = both (ltb r.place r.limit) _ a.1 in
      let d = both (leb r.blocks max_blocks) _ b.1 in
      record {
        limited = leb-true r.limit max_blocks a.0;
        placed = ltb-true r.place r.limit b.0;
        few = leb-true r.blocks max_blocks d.0;
        dense = leb-true r.rows (cells_per_block * r.blocks)
            (both (leb r.rows (cells_per_block * r.blocks)) _ d.1).0;
        near = dense_near d.1;
        full = dense_full d.1;
      }

  is_full : RunFacts r → is_full_lem ≡ true
  is_full f =
      by_test {X = is_full_lem ≡ true} r.ended
      (λ t. sym (dense_ended r.ended r.blocks r.rows f.dense t)
      ∙ lt-ltb (cells_per_block * r.blocks) (r.rows + cells_per_block) f.near)
      (λ e. sym (dense_on r.ended r.blocks r.rows f.dense e)
      ∙ le-leb (cells_per_block * r.blocks) r.rows (f.full e))

  pub run_is : RunFacts r → is_run r ≡ true
  unfolding is_run
  run_is f =
      rw (
        le-leb r.limit max_blocks f.limited,
        lt-ltb r.place r.limit f.placed,
        le-leb r.blocks max_blocks f.few,
        is_full f,
      )

  pub run-limit : max_blocks < r.limit → false ≡ is_run r
  unfolding is_run
  run-limit h = rw (lt-leb r.limit max_blocks h)

  module _ (limited : r.limit ≤ max_blocks) where
    pub run-place : r.limit ≤ r.place → false ≡ is_run r
    unfolding is_run
    run-place h = rw (le-leb r.limit max_blocks limited, le-ltb r.place r.limit h)

    module _ (placed : r.place < r.limit) where
      pub run_many : max_blocks < r.blocks → false ≡ is_run r
      unfolding is_run
      run_many h = rw (
        le-leb r.limit max_blocks limited,
        lt-ltb r.place r.limit placed,
        lt-leb
            r.blocks max_blocks h,
      )

      pub run_dense : r.blocks ≤ max_blocks → is_dense r.ended r.blocks r.rows ≡ is_run r
      unfolding is_run
      run_dense h = rw (
        le-leb r.limit max_blocks limited,
        lt-ltb r.place r.limit placed,
        le-leb
            r.blocks max_blocks h,
      )

-- ---- one block

module _ (r : Run) (b : List ℕ) where
  pub block-ended : r.ended ≡ true → r ≡ run_block r b
  unfolding run_block
  block-ended h = rw h

  module _ (on : r.ended ≡ false) where
    pub block_unsound : sound_count b ≡ 0 → stopped r ≡ run_block r b
    unfolding run_block
    block_unsound h = rw (on, sound_none b h)

    module _ (some : sound_count b ≡ 0 → ⊥) where
      pub block-number : (block_number b ≡ r.place → ⊥) → stopped r ≡ run_block r b
      unfolding run_block
      block-number h = rw (on, sound_some b some, ne_eqb (block_number b) r.place h)

      is_passed : block_number b ≡ r.place → passed r b ≡ run_block r b
      unfolding run_block
      is_passed h = rw (on, sound_some b some, eq-eqb (block_number b) r.place h)

      pub block-passed : (used : ℕ) → used ≡ sound_count b → block_number b ≡ r.place
          → record {
            limit = r.limit;
            place = (r.place + 1) % r.limit;
            blocks = r.blocks + 1;
            rows = r.rows +
                used;
            ended = ltb used cells_per_block;
          }
          ≡ run_block r b
      block-passed used e h =
          let n : used ≡ row_count b = e ∙ rw (sound_some b some) in
          ap
          (λ (m : ℕ). record {
            limit = r.limit;
            place = (r.place + 1) % r.limit;
            blocks = r.blocks + 1;
            rows = r.rows + m;
            ended = ltb m cells_per_block;
          })
          n
          ∙ is_passed h

  -- what a block leaves of a run's numbers
  pub record Next (s : Run) : Type 0 where
    pub facts : RunFacts s
    pub bound : s.blocks ≤ r.blocks + 1

  pub block_next : RunFacts r → r.blocks < max_blocks → Next (run_block r b)
  unfolding run_block
  block_next f h =
      branch Next r.ended (λ t. record { facts = f; bound = omega arith })
      (λ n.
      branch Next (is_sound b && eqb (block_number b) r.place)
      (λ t.
      let p : 0 < r.limit = omega arith in
      let k : (r.place + 1) % r.limit < r.limit = mod-lt (r.place + 1) p in
      record {
        facts = record {
          limited = f.limited;
          placed = k;
          few = omega arith;
          dense = omega (arith, (tests b (both (is_sound b) _ t).0).1);
          near = omega (arith, (tests b (both (is_sound b) _ t).0).0, f.full n);
          full = λ e. omega (arith, f.full n, ltb-false (row_count b) cells_per_block e);
        };
        bound = omega arith;
      })
      (λ e. record {
        facts = record {
          limited = f.limited;
          placed = f.placed;
          few = f.few;
          dense = f.dense;
          near = f.near;
          full = λ z. absurd (false≢true (sym z));
        };
        bound = omega arith;
      }))

-- ---- the loop

pub run_next : (r : Run) (block rest : List ℕ) → length block ≡ block_length
    → run_blocks r (blocks_in (block ++ rest)) ≡ run_blocks (run_block r block) (blocks_in rest)
unfolding run_blocks
run_next r block rest h = ap (run_blocks r) (blocks_next block rest h)

pub run_none : (r : Run) (rest : List ℕ) → length rest < block_length → run_blocks r (blocks_in rest) ≡ r
unfolding run_blocks
run_none r rest h = ap (run_blocks r) (blocks_none rest h)

-- ---- the call

module _ (numbers piece : List ℕ) where
  abbrev kept : ℕ → RunCall
  kept n = record { number = n; numbers = numbers }

  pub feed-not : is_run (run_at numbers) ≡ false → kept (number_of NotAccepted) ≡ run_call numbers piece
  unfolding run_call
  feed-not h = rw h

  module _ (yes : is_run (run_at numbers) ≡ true) where
    pub feed_odd : (length piece % block_length ≡ 0 → ⊥) → kept (number_of Size) ≡ run_call numbers piece
    unfolding run_call
    feed_odd h = rw (yes, ne_eqb (length piece % block_length) 0 h)

    module _ (whole : length piece % block_length ≡ 0) where
      pub feed_many : max_blocks < (run_at numbers).blocks + length piece / block_length → kept (number_of Size)
          ≡ run_call numbers piece
      unfolding run_call
      feed_many h =
          rw (
            yes,
            eq-eqb (length piece % block_length) 0 whole,
            lt-leb ((run_at numbers).blocks + length piece /
                block_length) max_blocks h,
          )

      pub feed-done : (run_at numbers).blocks + length piece / block_length ≤ max_blocks → (next : Run) → next
          ≡ run_blocks (run_at numbers) (blocks_in piece)
          → record { number = 0; numbers = run_numbers next } ≡ run_call numbers piece
      unfolding run_call
      feed-done h next e =
          rw (
            yes,
            eq-eqb (length piece % block_length) 0 whole,
            le-leb ((run_at numbers).blocks + length piece /
                block_length) max_blocks h,
          )
          (ap (λ (s : Run). record { number = 0; numbers = run_numbers s }) e)
