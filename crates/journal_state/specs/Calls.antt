-- What the calls answer, with every number and byte that is lent.
use Rattle.std.specs.Prelude.{ℕ, cond, not, ◌||◌, List, eqb, length, Option, Some, None}
use Rattle.base_refusal.specs.Number.{number_of}
use Rattle.base_refusal.specs.declared.Refusal.TheVariants.{NotAccepted, Size}
use Rattle.collector_model.specs.Image.{accepts}
use Rattle.journal_state.specs.State.{Kept, old_length, state_length, state_bytes, read_state}
use Rattle.journal_state.specs.Lawful.{image_rows, is_lawful_state, accepts_state}

-- the number, and every byte of the output after the call
pub record Written : Type 0 where
  pub number : ℕ
  pub output : List ℕ

-- 11 for a state that is not lawful
unfoldable pub write_of : Kept → List ℕ → Written
write_of k output =
    cond (is_lawful_state k) (record { number = 0; output = state_bytes k 2 }) (record {
      number = number_of NotAccepted;
      output =
          output;
    })

-- the number, and the state after the call
pub record Accepted : Type 0 where
  pub number : ℕ
  pub next : Kept

-- 16 for a wrong length, 11 for a file that is not accepted; with both, everything is unchanged
unfoldable pub accept_of : Kept → List ℕ → Accepted
accept_of k bytes =
    cond (not (eqb (length bytes) state_length || eqb (length bytes) old_length))
    (record { number = number_of Size; next = k })
    (cond (accepts_state bytes) (record { number = 0; next = read_state bytes })
    (record { number = number_of NotAccepted; next = k }))

-- how many rows an image counts; none if it is not accepted
abbrev pub counted_by : List ℕ → Option ℕ
counted_by image = cond (accepts image) (Some (image_rows image)) None
