-- What the contracts of private functions say.
use Rattle.std.specs.Prelude.{ℕ, ◌+◌, ◌≡◌, List, ◌++◌, length}
use Rattle.radio_telegram.specs.declared.frame.Frame.{Frame}
use Rattle.radio_telegram.specs.Frame.{frame_of}

-- the frame r is f with ys appended
pub record Extended (f r : Frame) (ys : List ℕ) : Type 0 where
  pub len : r.len ≡ f.len + length ys
  pub bytes : (xs : List ℕ) → f ≡ frame_of xs → r ≡ frame_of (xs ++ ys)
