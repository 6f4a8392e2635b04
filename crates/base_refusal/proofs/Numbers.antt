-- No refusal has the number 0.
use Prim.Native.Nat.{◌<◌}
use native.Mathlib.Omega.{arith}
use Rattle.base_refusal.specs.Number.{number_of}
use Rattle.base_refusal.specs.Claims.{NoneIsDone}
use Rattle.base_refusal.specs.declared.Refusal.{Refusal}
use Rattle.base_refusal.specs.declared.Refusal.TheVariants.{Length, Sum, Nested, NotAddressed, TooLong, ShortOutput, Late, Full, NoPlan, Argument, NotAccepted, Mismatch, Crc, ReservedAddress, Misfit, Size, Transmitters, Unlawful, Overlap}

positive : (r : Refusal) → 0 < number_of r
positive Length = omega arith
positive Sum = omega arith
positive Nested = omega arith
positive NotAddressed = omega arith
positive TooLong = omega arith
positive ShortOutput = omega arith
positive Late = omega arith
positive Full = omega arith
positive NoPlan = omega arith
positive Argument = omega arith
positive NotAccepted = omega arith
positive Mismatch = omega arith
positive Crc = omega arith
positive ReservedAddress = omega arith
positive Misfit = omega arith
positive Size = omega arith
positive Transmitters = omega arith
positive Unlawful = omega arith
positive Overlap = omega arith

pub refused-number : NoneIsDone
refused-number r e = omega (arith, positive r)
