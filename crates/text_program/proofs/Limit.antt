-- `collect` can tell a line by its first `line_limit` characters, so the theorem on pieces holds of it.
use mathlib.Core.Path.{◌≡◌, refl}
use mathlib.Core.List.{List}
use Prim.Native.Nat.{ℕ}
use lib.Dec.{lit<}
use lib.ListN.{take}
use Rattle.text_lines.specs.Reading.{line_limit}
use Rattle.text_lines.proofs.Long.{fronts_tell}
use Rattle.text_program.specs.Chunks.{Bounded}
use Rattle.text_program.specs.Collect.{AnyCollector, Phase, starting, running, over, next_phase, phase_text, collect, collected}
use Rattle.text_program.specs.Claims.{CollectedInPieces}
use Rattle.text_program.proofs.Pieces.{in_pieces}

module _ {C : Type 0} (m : AnyCollector C) where
  next_front : (s : Phase C) (l : List ℕ) → next_phase m s (take line_limit l) ≡ next_phase m s l
  next_front starting l = rw (fronts_tell l).setting
  next_front (running c) l = rw (fronts_tell l).reading
  next_front over l = refl

  text_front : (s : Phase C) (l : List ℕ) → phase_text m s (take line_limit l) ≡ phase_text m s l
  text_front starting l = rw (fronts_tell l).setting
  text_front (running c) l = rw (fronts_tell l).reading
  text_front over l = refl

  pub bounded : Bounded (collect m) line_limit
  bounded = record { next = next_front; text = text_front }

pub collected_in_pieces : {C : Type 0} (m : AnyCollector C) → CollectedInPieces m
unfolding collected
collected_in_pieces m xs = in_pieces (collect m) line_limit (lit< tt) (bounded m) starting xs
