-- Facts on lists and telegrams that are not refused, for the proofs and the private functions of radio_erp2. No claim
-- and no public contract cites these.
use Rattle.std.specs.Prelude.{ℕ, ◌+◌, ◌≤◌, ◌≡◌, false, not, ◌&&◌, List, length}
use Rattle.radio_erp2_model.specs.declared.Telegram.{Telegram}
use Rattle.radio_erp2_model.specs.declared.Sizes.{Sizes}
use Rattle.radio_erp2_model.specs.Header.{is_reserved}
use Rattle.radio_erp2_model.specs.Sizes.{overhead}
use Rattle.radio_erp2_model.specs.Reading.{max_data, max_optional, length_byte, sizes_in}
use Rattle.radio_erp2_model.specs.Building.{is_short_form, is_unholdable, is_against_header, is_misfitting}

-- a list whose length byte is right and whose fields fit
pub record Fitting (s : List ℕ) : Type 0 where
  pub long : length s ≡ 1 + length_byte s
  pub fits : overhead (sizes_in s) ≤ length_byte s

-- a list of fields of these sizes and n bytes of data; none of them is too long for its field in a telegram
pub record Placed (s : List ℕ) (z : Sizes) (n : ℕ) : Type 0 where
  pub long : length s ≡ 1 + overhead z + n
  pub header : z.header ≤ 1
  pub extension : z.extension ≤ 1
  pub subtype : z.subtype ≤ 1
  pub originator : z.originator ≤ 8
  pub destination : z.destination ≤ 4
  pub optional : z.optional ≤ max_optional
  pub payload : n ≤ max_data

-- a telegram that can be built, if the output has room
pub record Buildable (t : Telegram) : Type 0 where
  pub holds : is_unholdable t ≡ false
  pub agrees : is_against_header t ≡ false
  pub allowed : (not (is_short_form t) && is_reserved t.header) ≡ false
  pub fits : is_misfitting t ≡ false
