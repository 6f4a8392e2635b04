-- Headers of a checkpoint's blocks: what is read of one that was written, where its numbers fit.
--     header-length                                             a header has 24 bytes
--     header-used, header-first, header-second    what is read is what was written
use mathlib.Core.Path.{◌≡◌, refl, ap, ◌∙◌}
use mathlib.Core.List.{List, [], ◌∷◌, ◌++◌}
use Prim.Native.Nat.{ℕ, ◌^◌, ◌<◌}
use native.Mathlib.Omega.{arith}
use lib.ListN.{length, replicate, length-append}
use Rattle.block_layout.specs.BigEndian.{be, unbe}
use Rattle.collector_model.specs.Header.{header_of, header_used, header_first, header_second}
use Rattle.block_layout.specs.Block.{header_length}
use Rattle.base_buffers.proofs.Segments.{left, last}
use Rattle.block_layout.proofs.BigEndian.{be-length, unbe-be}

module _ (k used a b : ℕ) where
  -- what stands before the first number, and before the second
  abbrev to_first : List ℕ
  to_first = (k ∷ used ∷ []) ++ replicate 6 0

  abbrev to_second : List ℕ
  to_second = to_first ++ be 8 a

  second_at : length to_second ≡ 16
  second_at = simp be-length

  pub header-length : length (header_of k used a b) ≡ header_length
  unfolding header_of
  header-length = simp (length-append, be-length)

  pub header-used : header_used (header_of k used a b) ≡ used
  unfolding header_of
  header-used = refl

  pub header_first_lem : a < 2 ^ 64 → header_first (header_of k used a b) ≡ a
  unfolding header_of
  header_first_lem h =
      ap unbe (left to_second (be 8 b) 16 8 8 second_at (omega arith) ∙ last to_first (be 8 a) 8 8 refl (be-length 8 a))
      ∙ unbe-be 8 a h

  pub header-second : b < 2 ^ 64 → header_second (header_of k used a b) ≡ b
  unfolding header_of
  header-second h = ap unbe (last to_second (be 8 b) 16 8 second_at (be-length 8 b)) ∙ unbe-be 8 b h
