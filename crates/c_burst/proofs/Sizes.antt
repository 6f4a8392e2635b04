-- The test of a burst's sizes: a frame for each moment.
use Prim.Native.Nat.{ℕ, ◌*◌}
use mathlib.Core.Path.{◌≡◌}
use mathlib.Core.Bool.{true}
use borrow.Author.Tests.{eqb-true}
use Rattle.c_layout.specs.Frame.{frame_length}
use Rattle.c_burst.specs.Bytes.{is_sized}

module _ (moments records : ℕ) where
  pub records_are : is_sized moments records ≡ true → records ≡ frame_length * moments
  records_are e = eqb-true records (frame_length * moments) e
