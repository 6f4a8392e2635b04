-- What a caller sees of the answer to a reception (document 01, "Merging" and "Numbers a caller sees").
use Rattle.std.specs.Prelude.{ℕ, Bool, true, false, not, ◌||◌, eqb}
use Rattle.base_refusal.specs.Number.{number_of}
use Rattle.base_refusal.specs.declared.Refusal.TheVariants as refusal
use Rattle.collector_model.specs.declared.Answer.{Answer}
use Rattle.collector_model.specs.declared.Answer.TheVariants as answer

-- "KEPT, COPY and LOOSE are three forms" of 0; a refusal shows its number
pub data Shown : Type 0 where
  Kept Copy Loose : Shown
  Refused : ℕ → Shown

-- an answer of the code, as a caller sees it
abbrev pub shown_of : Answer → Shown
shown_of answer.Kept = Kept
shown_of answer.Copy = Copy
shown_of answer.Loose = Loose
shown_of (answer.Refused why) = Refused (number_of why)

-- the number that a caller sees
abbrev pub shown_number : Shown → ℕ
shown_number Kept = 0
shown_number Copy = 0
shown_number Loose = 0
shown_number (Refused n) = n

-- ---- which total counts an answer ("Merging": Totals)

abbrev pub is_kept : Shown → Bool
is_kept Kept = true
is_kept Copy = false
is_kept Loose = false
is_kept (Refused n) = false

abbrev pub is_copy : Shown → Bool
is_copy Kept = false
is_copy Copy = true
is_copy Loose = false
is_copy (Refused n) = false

abbrev pub is_loose : Shown → Bool
is_loose Kept = false
is_loose Copy = false
is_loose Loose = true
is_loose (Refused n) = false

-- "the check (1, 2, 3), counted DAMAGED", and 13 (document 02, A3: "Damaged stays one total")
abbrev pub is_damaged : Shown → Bool
is_damaged a =
    eqb (shown_number a) (number_of refusal.Length)
    || (eqb (shown_number a) (number_of refusal.Sum)
    || (eqb (shown_number a) (number_of refusal.Crc)
    || eqb (shown_number a) (number_of refusal.Nested)))

-- "(7), counted LATE"
abbrev pub is_late : Shown → Bool
is_late a = eqb (shown_number a) (number_of refusal.Late)

-- "received counts all except 8"; a call that is answered 11 takes no reception
abbrev pub is_received : Shown → Bool
is_received a = not (eqb (shown_number a) (number_of refusal.Full) || eqb (shown_number a) (number_of refusal.NotAccepted))

-- "KEPT, COPY or LOOSE"
abbrev pub is_accepted : Shown → Bool
is_accepted a = is_kept a || (is_copy a || is_loose a)
