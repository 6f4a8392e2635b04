-- The number of each refusal: the table of document 01, "Numbers a caller sees", and the numbers that document 02 adds.
use Rattle.std.specs.Prelude.{ℕ, Result, Ok, Err, ⊤}
use Rattle.base_refusal.specs.declared.Refusal.{Refusal}
use Rattle.base_refusal.specs.declared.Refusal.TheVariants.{Length, Sum, Nested, NotAddressed, TooLong, ShortOutput, Late, Full, NoPlan, Argument, NotAccepted, Mismatch, Crc, ReservedAddress, Misfit, Size, Transmitters, Unlawful, Overlap}

-- the number of a refusal
abbrev pub number_of : Refusal → ℕ
number_of Length = 1
number_of Sum = 2
number_of Nested = 3
number_of NotAddressed = 4
number_of TooLong = 5
number_of ShortOutput = 6
number_of Late = 7
number_of Full = 8
number_of NoPlan = 9
number_of Argument = 10
number_of NotAccepted = 11
number_of Mismatch = 12
number_of Crc = 13
number_of ReservedAddress = 14
number_of Misfit = 15
number_of Size = 16
number_of Transmitters = 17
number_of Unlawful = 18
number_of Overlap = 19

-- 0 says done; a refusal has its own number
abbrev pub outcome_number : Result ⊤ Refusal → ℕ
outcome_number (Ok tt) = 0
outcome_number (Err why) = number_of why
