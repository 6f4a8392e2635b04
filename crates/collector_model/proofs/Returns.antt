-- What the code's returns show, by the cases of the definitions: a state that is not acceptable, the two outcomes of a checkpoint, and a reply for each
-- reception of a burst.
use Prim.Native.Nat.{ℕ, suc, ◌≤◌, ◌<◌}
use mathlib.Core.Path.{◌≡◌, refl, ap}
use mathlib.Core.Bool.{true, false}
use mathlib.Core.List.{List, [], ◌∷◌, ◌++◌}
use lib.ListN.{length, drop}
use borrow.Author.Tests.{lt-ltb, le-ltb}
use Rattle.base_refusal.specs.Number.{number_of}
use Rattle.base_refusal.specs.declared.Refusal.TheVariants.{ShortOutput, NotAccepted}
use Rattle.collector_model.specs.Answer.{Refused}
use Rattle.collector_model.specs.View.{Reception, View}
use Rattle.collector_model.specs.Acceptable.{acceptable}
use Rattle.collector_model.specs.Step.{classify, advance, step}
use Rattle.collector_model.specs.Burst.{replies_to}
use Rattle.collector_model.specs.Image.{image_length, image_of, checkpoint_of, restore_of}

module _ (v : View) (bad : acceptable v ≡ false) where
  pub step_unacceptable : (r : Reception) → record { answer = Refused (number_of NotAccepted); next = v } ≡ step v r
  unfolding step classify advance
  step_unacceptable r = rw bad

  pub checkpoint_unacceptable : (output : List ℕ)
      → record { number = number_of NotAccepted; output = output } ≡ checkpoint_of v output
  unfolding checkpoint_of
  checkpoint_unacceptable output = rw bad

  pub restore_unacceptable : (image : List ℕ) → record { number = number_of NotAccepted; next = v } ≡ restore_of v image
  unfolding restore_of
  restore_unacceptable image = rw bad

module _ (v : View) (ok : acceptable v ≡ true) (output : List ℕ) where
  pub checkpoint_short : length output < image_length
      → record { number = number_of ShortOutput; output = output } ≡ checkpoint_of v output
  unfolding checkpoint_of
  checkpoint_short h = rw (ok, lt-ltb (length output) image_length h)

  pub checkpoint_written : image_length ≤ length output
      → record { number = 0; output = image_of v ++ drop image_length output } ≡ checkpoint_of v output
  unfolding checkpoint_of
  checkpoint_written h = rw (ok, le-ltb (length output) image_length h)

-- of a burst
pub replies_to-length : (setting : ℕ) (v : View) (rs : List Reception) → length (replies_to setting v rs) ≡ length rs
unfolding replies_to
replies_to-length setting v [] = refl
replies_to-length setting v (r ∷ rs) = ap suc (replies_to-length setting (step v r).next rs)
