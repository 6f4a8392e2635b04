-- The sameness rule in the order of document 02, A5: transmitter, type, plain or addressed and to whom, data with its
-- length, the upper bits of STATUS. For valid subtelegrams it is document 01's rule (`is_same` of radio_erp1).
use Rattle.std.specs.Prelude.{◌≡◌, Bool, true, false, ◌&&◌, List, ℕ, Option, Some, None, eqb}
use Rattle.base_lists.specs.Lists.{equal}
use Rattle.radio_erp1.specs.Status.{upper_of}
use Rattle.radio_erp1.specs.Subtelegram.{is_valid}
use Rattle.radio_erp1.specs.Same.{is_same}
use Rattle.radio_telegram.specs.declared.fields.Telegram.{Telegram}
use Rattle.radio_telegram.specs.Fields.{fields_of, data_of}

-- no DESTID both times, or the same one
abbrev pub is_same_destid : Option (List ℕ) → Option (List ℕ) → Bool
is_same_destid None None = true
is_same_destid None (Some e) = false
is_same_destid (Some d) None = false
is_same_destid (Some d) (Some e) = equal d e

-- both plain, or both addressed to the same DESTID
abbrev pub is_same_address : Telegram → Telegram → Bool
is_same_address a b = is_same_destid a.destid b.destid

-- the same length of DATA, and the same bytes
abbrev pub is_same_data : Telegram → Telegram → Bool
is_same_data a b = eqb a.len b.len && equal (data_of a) (data_of b)

-- two telegrams are the same, by their fields
unfoldable pub is_same_telegram : Telegram → Telegram → Bool
is_same_telegram a b =
    equal a.txid b.txid
    && (eqb a.rorg b.rorg
    && (is_same_address a b
    && (is_same_data a b
    && eqb (upper_of a.status) (upper_of b.status))))

-- THE CLAIM: it is document 01's rule "for every two valid subtelegrams"
abbrev pub SameByFields : Type 0
SameByFields = (a b : List ℕ) → is_valid a ≡ true → is_valid b ≡ true → is_same a b
    ≡ is_same_telegram (fields_of a) (fields_of b)
