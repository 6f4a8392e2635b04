-- Rows as records of 23 bytes.
--     bytes-shown, long-given, short-given     the bytes that a record shows; one that says too many fails the check, and one that passes it does not
--     rows-count, row_get                      how many rows there are, and each of them
use Prim.Native.Nat.{ℕ, ◌+◌, ◌-◌, ◌*◌, ◌≤◌, ◌<◌}
use native.Mathlib.Nat.{zero-add}
use native.Mathlib.Omega.{arith}
use mathlib.Core.Path.{◌≡◌, sym, ap, ◌∙◌}
use mathlib.Core.Bool.{true}
use mathlib.Core.List.{List}
use lib.ListN.{length, get_or, drop, length-map, length-drop}
use borrow.Author.Tests.{eqb-true}
use Rattle.base_lists.specs.Lists.{up_from}
use Rattle.base_lists.proofs.UpFrom.{length-up_from, get_d_up_from}
use Rattle.base_refusal.specs.Number.{number_of}
use Rattle.base_refusal.specs.declared.Refusal.TheVariants.{Length}
use Rattle.radio_erp1.specs.Subtelegram.{max_length, check_of}
use Rattle.radio_erp1.proofs.Checks.{check-long, check_facts}
use Rattle.base_buffers.specs.Buffer.{part}
use Rattle.base_buffers.proofs.Buffer.{resized-length, resized_cut}
use Rattle.archive_model.specs.Row.{Row, is_row}
use Rattle.archive_model.specs.Append.{no_row}
use Rattle.archive_fill.specs.Fill.{row_length, row_given, rows_given}

module _ (time : ℕ) (given : List ℕ) where
  pub long-given : max_length < get_or given 1 0 → number_of Length ≡ check_of (row_given time given).bytes
  long-given h = check-long (row_given time given).bytes
      (omega (arith, resized-length (get_or given 1 0) (drop 2 given)))

  pub short-given : is_row (row_given time given) ≡ true → get_or given 1 0 ≤ max_length
  short-given v =
      let valid = eqb-true (check_of (row_given time given).bytes) 0 v in
      omega (
        arith,
        (check_facts (row_given time given).bytes valid).high,
        resized-length (get_or given 1 0) (drop 2 given),
      )

  pub bytes-shown : (len : ℕ) → length given ≡ row_length → len ≡ get_or given 1 0 → len ≤ max_length
      → part 2 (2 + len - 2) given ≡ (row_given time given).bytes
  bytes-shown len l e h =
      let k : 2 + len - 2 ≡ len = omega arith in
      rw (k, ← e) (sym (resized_cut len (drop 2 given) (omega (arith, length-drop 2 given))))

module _ (times records : List ℕ) where
  abbrev at : ℕ → Row
  at i = row_given (get_or times i 0) (part (row_length * i) row_length records)

  pub rows-count : length (rows_given times records) ≡ length times
  unfolding rows_given
  rows-count = length-map (up_from 0 (length times)) at ∙ length-up_from 0 (length times)

  pub row_get : (i : ℕ) → i < length times → get_or (rows_given times records) i no_row ≡ at i
  unfolding rows_given
  row_get i h = get_d_up_from at 0 (length times) i no_row h ∙ ap at (zero-add i)
