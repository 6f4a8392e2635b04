-- The cases of `filled_of` and of `commit_of`, in their order.
use Prim.Native.Nat.{ℕ, ◌/◌, ◌%◌, ◌<◌}
use native.Mathlib.Omega.{arith}
use mathlib.Core.Path.{◌≡◌, sym, ap, ◌∙◌}
use mathlib.Core.Bool.{Bool, true, false, cond, ◌&&◌}
use mathlib.Core.List.{List}
use lib.Dec.{leb}
use lib.ListN.{length, replicate}
use borrow.Author.Tests.{eq-eqb, ne_eqb, leb-false}
use Rattle.base_lists.proofs.Tests.{by_test}
use Rattle.base_refusal.specs.Number.{number_of}
use Rattle.base_refusal.specs.declared.Refusal.TheVariants.{ShortOutput, NotAccepted, Mismatch}
use Rattle.block_layout.specs.Block.{cells_per_block, block_length}
use Rattle.archive_model.specs.Append.{Appended}
use Rattle.archive_fill.specs.Fill.{put_rows_given}
use Rattle.archive_fill.specs.Claims.{with_block}
use Rattle.journal_model.specs.Disk.{whole_blocks}
use Rattle.journal_calls.specs.Rows.{Compared, compare_call}
use Rattle.journal_state.specs.State.{Kept, state_bytes}
use Rattle.journal_state.specs.Lawful.{is_lawful_state}
use Rattle.journal_state.specs.Calls.{Written, write_of}
use Rattle.journal_state.proofs.Files.{write_not, write_done}
use Rattle.journal_batch.specs.Batch.{Filled, batch_put_of, filled_of, Commit, is_new, commit_of}

-- ---- the block

module _ (n : ℕ) (times records : List ℕ) where
  pub put_as : (block : List ℕ) (a : Appended) → a ≡ put_rows_given block n times records
      → record { number = a.number; block = a.buffer } ≡ batch_put_of block n times records
  unfolding batch_put_of
  put_as block a e = ap (λ (x : Appended). record { number = x.number; block = x.buffer }) e

  module _ (last : List ℕ) where
    pub fill_none : length times ≡ 0 → record { number = 0; block = last } ≡ filled_of last n times records
    unfolding filled_of
    fill_none e = rw (eq-eqb (length times) 0 e)

    module _ (some : length times ≡ 0 → ⊥) where
      pub fill_blank : n % cells_per_block ≡ 0
          → batch_put_of (replicate block_length 0) n times records ≡ filled_of last n times records
      unfolding filled_of
      fill_blank e = rw (ne_eqb (length times) 0 some, eq-eqb (n % cells_per_block) 0 e)

      pub fill_behind : (n % cells_per_block ≡ 0 → ⊥)
          → batch_put_of last n times records ≡ filled_of last n times records
      unfolding filled_of
      fill_behind h = rw (ne_eqb (length times) 0 some, ne_eqb (n % cells_per_block) 0 h)

-- ---- the state that is written

module _ (k : Kept) (out : List ℕ) (r : Written) (e : r ≡ write_of k out) where
  pub record Refused : Type 0 where
    pub law : is_lawful_state k ≡ false
    pub number : r.number ≡ number_of NotAccepted

  pub record Done : Type 0 where
    pub law : is_lawful_state k ≡ true
    pub bytes : r.output ≡ state_bytes k 2

  done : is_lawful_state k ≡ true → r ≡ record { number = 0; output = state_bytes k 2 }
  done t = e ∙ sym (write_done k out t)

  refused : is_lawful_state k ≡ false → r ≡ record { number = number_of NotAccepted; output = out }
  refused f = e ∙ sym (write_not k out f)

  pub write_refused : (r.number ≡ 0 → ⊥) → Refused
  write_refused h =
      by_test {X = Refused} (is_lawful_state k) (λ t. absurd (h (ap (λ (w : Written). w.number) (done t))))
      (λ f. record { law = f; number = ap (λ (w : Written). w.number) (refused f) })

  pub write_did : r.number ≡ 0 → Done
  write_did z =
      by_test {X = Done} (is_lawful_state k) (λ t. record { law = t; bytes = ap (λ (w : Written). w.output) (done t) })
      (λ f. absurd (let n : r.number ≡ 11 = ap (λ (w : Written). w.number) (refused f) in omega (arith, n, z)))

-- ---- the batch

-- a block that is written is there
pub is_inside : (new : Bool) (m at : ℕ) → new && leb m at ≡ false → new ≡ true → at < m
is_inside new m at h t = leb-false m at (rw t at h)

module _ (n : ℕ) (times records moments left : List ℕ) (next : List ℕ → Kept) (last file state : List ℕ) where
  abbrev compared : Compared
  compared = compare_call times records moments left 0 0

  abbrev filled : Filled
  filled = filled_of last n times records

  abbrev new : Bool
  new = is_new times records moments left

  abbrev at : ℕ
  at = n / cells_per_block

  abbrev beside : ℕ → Commit
  beside number = record { number = number; last = last; archive = file; state = state }

  abbrev result : Commit
  result = commit_of n times records moments left next last file state

  pub commit_compared : (compared.number ≡ 0 → ⊥) → beside compared.number ≡ result
  unfolding commit_of
  commit_compared h = rw (ne_eqb compared.number 0 h)

  module _ (same : compared.number ≡ 0) where
    pub commit_going : (compared.going ≡ 0 → ⊥) → beside (number_of Mismatch) ≡ result
    unfolding commit_of
    commit_going h = rw (eq-eqb compared.number 0 same, ne_eqb compared.going 0 h)

    module _ (none : compared.going ≡ 0) where
      pub commit_filled : (filled.number ≡ 0 → ⊥) → beside filled.number ≡ result
      unfolding commit_of
      commit_filled h = rw (
        eq-eqb compared.number 0 same,
        eq-eqb compared.going 0 none,
        ne_eqb filled.number 0 h,
      )

      module _ (put : filled.number ≡ 0) where
        pub commit_short : new && leb (whole_blocks file) at ≡ true → beside (number_of ShortOutput) ≡ result
        unfolding commit_of
        commit_short h = rw (
          eq-eqb compared.number 0 same,
          eq-eqb compared.going 0 none,
          eq-eqb filled.number 0 put,
          h,
        )

        module _ (room : new && leb (whole_blocks file) at ≡ false) where
          pub commit_unlawful : is_lawful_state (next filled.block) ≡ false → beside (number_of NotAccepted) ≡ result
          unfolding commit_of
          commit_unlawful h = rw (
            eq-eqb compared.number 0 same,
            eq-eqb compared.going 0 none,
            eq-eqb filled.number 0 put,
            room,
            h,
          )

          pub commit_done : is_lawful_state (next filled.block) ≡ true
              → record {
                number = 0;
                last = filled.block;
                archive = cond new (with_block at filled.block file) file;
                state = state_bytes (next filled.block) 2;
              }
              ≡ result
          unfolding commit_of
          commit_done h = rw (
            eq-eqb compared.number 0 same,
            eq-eqb compared.going 0 none,
            eq-eqb filled.number 0 put,
            room,
            h,
          )
