-- What reading answers: a telegram, or a refusal with all zero.
use mathlib.Core.Path.{◌≡◌, ◌∙◌}
use mathlib.Core.List.{List}
use Prim.Native.Nat.{ℕ}
use borrow.Author.Tests.{ne_eqb}
use Rattle.std.specs.Prelude.{Ok, Err}
use Rattle.base_refusal.specs.Number.{number_of}
use Rattle.base_refusal.specs.declared.Refusal.{Refusal}
use Rattle.base_refusal.proofs.Numbers.{refused-number}
use Rattle.radio_erp2_model.specs.declared.Telegram.{Telegram}
use Rattle.radio_erp2_model.specs.Reading.{check_of, fields_of, shown_erp2_reading, read_of}

module _ (s : List ℕ) where
  pub read_valid : (t : Telegram) → check_of s ≡ 0 → t ≡ fields_of s → shown_erp2_reading (Ok t) ≡ read_of s
  unfolding read_of
  read_valid t e f = rw (e, f)

  pub read_refused : (why : Refusal) → number_of why ≡ check_of s → shown_erp2_reading (Err why) ≡ read_of s
  unfolding read_of
  read_refused why e = rw (ne_eqb (check_of s) 0 (λ z. refused-number why (e ∙ z)), e)
