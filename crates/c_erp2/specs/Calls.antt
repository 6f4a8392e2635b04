-- What the calls answer, and what they write into lent memory.
use Rattle.std.specs.Prelude.{ℕ, cond, not, List, eqb, length, unwrap_or}
use Rattle.radio_telegram.specs.Output.{Result}
use Rattle.radio_erp2_model.specs.Reading.{read_of}
use Rattle.radio_erp2_model.specs.Building.{build_of}
use Rattle.c_layout.specs.Frame.{wrong_size}
use Rattle.c_layout.specs.Lent.{if_done, settled}
use Rattle.c_erp2.specs.Fields.{fields_length, fields_bytes, telegram_in}

-- the number, every byte of the fields after the call, and the two IDs
pub record ReadCall : Type 0 where
  pub number : ℕ
  pub fields : List ℕ
  pub originator : ℕ
  pub destination : ℕ

abbrev pub reading : ℕ → List ℕ → ℕ → ℕ → ReadCall
reading number fields originator destination = record {
  number = number;
  fields = fields;
  originator = originator;
  destination = destination;
}

-- reads an ERP2 telegram (document 02, A4): the number, and the telegram
unfoldable pub read_call : List ℕ → List ℕ → ℕ → ℕ → ReadCall
read_call s old originator destination =
    cond (not (eqb (length old) fields_length)) (reading wrong_size old originator destination)
    (reading (read_of s).number
    (if_done (read_of s).number (fields_bytes (read_of s).telegram) old)
    (if_done (read_of s).number (read_of s).telegram.originator originator)
    (if_done (read_of s).number (unwrap_or (read_of s).telegram.destination 0) destination))

-- builds an ERP2 telegram from its fields and its two IDs
unfoldable pub build_call : List ℕ → ℕ → ℕ → ℕ → List ℕ → Result
build_call fields originator destination was output =
    cond (not (eqb (length fields) fields_length)) (record { number = wrong_size; len = was; output = output })
    (settled (build_of (telegram_in fields originator destination) output) was)
