-- A row put into its block: the cases of `put_row_of`, each from the facts that its tests give.
use Prim.Native.Nat.{ℕ, ◌/◌, ◌≤◌, ◌<◌}
use mathlib.Core.Path.{◌≡◌}
use mathlib.Core.Bool.{Bool, true, false, ◌&&◌}
use mathlib.Core.List.{List}
use lib.Dec.{eqb}
use lib.ListN.{length}
use borrow.Author.Tests.{eq-eqb, ne_eqb, lt-ltb, le-ltb}
use Rattle.base_refusal.specs.Number.{number_of}
use Rattle.base_refusal.specs.declared.Refusal.{Refusal}
use Rattle.base_refusal.specs.declared.Refusal.TheVariants.{Mismatch, Size}
use Rattle.radio_erp1.specs.Subtelegram.{check_of}
use Rattle.radio_erp1.proofs.Checks.{not_valid}
use Rattle.block_layout.specs.Block.{cells_per_block, block_length}
use Rattle.archive_model.specs.Row.{Row}
use Rattle.archive_model.specs.Buffer.{max_rows}
use Rattle.archive_model.specs.Append.{refused_append, stored, is_next, put_row, put_row_of}

-- what `is_next` says of the bytes of a block
pub next_told : (n : ℕ) (block : List ℕ) {b : Bool} → length block ≡ block_length
    → eqb (length block) block_length && is_next n block ≡ b
    → is_next n block ≡ b
next_told n block h e = rw (eq-eqb (length block) block_length h) at e

module _ (block : List ℕ) (n : ℕ) (r : Row) where
  pub put-size : (length block ≡ block_length → ⊥) → refused_append (number_of Size) 0 block ≡ put_row_of block n r
  unfolding put_row_of
  put-size h = rw (ne_eqb (length block) block_length h)

  module _ (long : length block ≡ block_length) where
    pub put_far : max_rows ≤ n → refused_append (number_of Size) 0 block ≡ put_row_of block n r
    unfolding put_row_of
    put_far h = rw (eq-eqb (length block) block_length long, le-ltb n max_rows h)

    module _ (near : n < max_rows) where
      pub put_other : is_next n block ≡ false
          → refused_append (number_of Mismatch) (n / cells_per_block) block ≡ put_row_of block n r
      unfolding put_row_of
      put_other h = rw (eq-eqb (length block) block_length long, lt-ltb n max_rows near, h)

      module _ (next : is_next n block ≡ true) where
        pub put-invalid : (why : Refusal) → number_of why ≡ check_of r.bytes
            → refused_append (number_of why) 0 block ≡ put_row_of block n r
        unfolding put_row_of
        put-invalid why e =
            rw (eq-eqb (length block) block_length long, lt-ltb n max_rows near, next, not_valid r.bytes why e, e)

        pub put-done : check_of r.bytes ≡ 0 → stored (put_row n r block) ≡ put_row_of block n r
        unfolding put_row_of
        put-done e =
            rw (eq-eqb (length block) block_length long, lt-ltb n max_rows near, next, eq-eqb (check_of r.bytes) 0 e)
