-- A whole state file, by what the code tests.
--     either, lengths, sized                                      its length, and those of its parts
--     rest-is                                                     the log's bytes
--     plain-alone                                                 what version 1 can say looks at the numbers alone
--     state-unsaid, state-unlawful, state-written                 the cases of `accepts_state`
--     write-not, write_done, accept-size, accept-not, accept-done       those of the calls
use Prim.Native.Nat.{ℕ, ◌-◌, ◌≤◌}
use native.Mathlib.Omega.{arith}
use mathlib.Core.Path.{◌≡◌, refl, sym, ap, ◌∙◌}
use mathlib.Core.Bool.{Bool, true, false, cond, not, ◌&&◌, ◌||◌, false≢true}
use mathlib.Core.List.{List, []}
use lib.Dec.{eqb}
use lib.ListN.{length, take, drop, length-drop}
use lib.Seq.{take_all}
use borrow.Author.Tests.{eqb-true}
use Rattle.base_lists.specs.Lists.{equal}
use Rattle.base_lists.proofs.Tests.{by_test}
use Rattle.base_refusal.specs.Number.{number_of}
use Rattle.base_refusal.specs.declared.Refusal.TheVariants.{NotAccepted, Size}
use Rattle.base_buffers.specs.Buffer.{resized}
use Rattle.base_buffers.proofs.Buffer.{resized-length}
use Rattle.base_buffers.proofs.Segments.{part_length}
use Rattle.block_layout.specs.Block.{block_length}
use Rattle.collector_model.specs.Image.{image_length}
use Rattle.journal_state.specs.State.{Kept, kept, max_name, max_tail, old_length, state_length, version_of, state_bytes, numbers_in, read_state}
use Rattle.journal_state.specs.Lawful.{is_lawful_state, is_plain, accepts_state}
use Rattle.journal_state.specs.Calls.{write_of, accept_of}
use Rattle.journal_state.specs.Private.{Sized}

pub either : (a b : Bool) → not a && not b ≡ not (a || b)
either true b = refl
either false b = refl

not_back : (b c : Bool) → not b ≡ c → b ≡ not c
not_back true c h = by_test {X = true ≡ not c} c (λ t. absurd (false≢true (h ∙ t))) (λ f. rw f)
not_back false c h = rw (← h)

module _ (n : ℕ) where
  pub is_length : (b : Bool) → not (eqb n state_length) && not (eqb n old_length) ≡ b
      → eqb n state_length || eqb n old_length ≡ not b
  is_length b h = not_back (eqb n state_length || eqb n old_length) b (sym (either (eqb n state_length)
      (eqb n old_length)) ∙ h)

  pub lengths : eqb n state_length || eqb n old_length ≡ true → (old_length ≤ n) × (n ≤ state_length)
  lengths h =
      by_test {X = (old_length ≤ n) × (n ≤ state_length)} (eqb n state_length)
      (λ t. let e = eqb-true n state_length t in (omega arith, omega arith))
      (λ f. let e = eqb-true n old_length (rw f at h) in (omega arith, omega arith))

module _ (bytes : List ℕ) where
  module _ (long : old_length ≤ length bytes) where
    pub sized : Sized (read_state bytes)
    sized = record {
      name = part_length 41 max_name bytes (omega arith);
      last = part_length block_length block_length bytes (omega arith);
      image = part_length 1024 image_length bytes (omega arith);
      tail = resized-length max_tail (drop old_length bytes);
    }

    pub rest_is : resized max_tail (take (length bytes - old_length) (drop old_length bytes)) ≡ resized max_tail
        (drop old_length bytes)
    rest_is = ap (resized max_tail) (take_all (length bytes - old_length) (drop old_length bytes) (rw
        (length-drop old_length bytes) (omega arith)))

  abbrev pub said : Bool
  said = cond (eqb (length bytes) old_length) (is_plain (read_state bytes)) true

  pub plain-alone : is_plain (kept (numbers_in bytes) [] [] [] []) ≡ is_plain (read_state bytes)
  unfolding is_plain
  plain-alone = refl

  pub state_unsaid : said ≡ false → false ≡ accepts_state bytes
  unfolding accepts_state
  state_unsaid h = rw h

  module _ (yes : said ≡ true) where
    pub state-unlawful : is_lawful_state (read_state bytes) ≡ false → false ≡ accepts_state bytes
    unfolding accepts_state
    state-unlawful h = rw (yes, h)

    pub state-written : is_lawful_state (read_state bytes) ≡ true
        → equal (take (length bytes) (state_bytes (read_state bytes) (version_of (length bytes)))) bytes
        ≡ accepts_state bytes
    unfolding accepts_state
    state-written h = rw (yes, h)

  module _ (k : Kept) where
    pub accept_size : eqb (length bytes) state_length || eqb (length bytes) old_length ≡ false
        → record { number = number_of Size; next = k } ≡ accept_of k bytes
    unfolding accept_of
    accept_size h = rw h

    module _ (long : eqb (length bytes) state_length || eqb (length bytes) old_length ≡ true) where
      pub accept_not : accepts_state bytes ≡ false → record { number = number_of NotAccepted; next = k }
          ≡ accept_of k bytes
      unfolding accept_of
      accept_not h = rw (long, h)

      pub accept_done : accepts_state bytes ≡ true → record { number = 0; next = read_state bytes } ≡ accept_of k bytes
      unfolding accept_of
      accept_done h = rw (long, h)

module _ (k : Kept) (output : List ℕ) where
  pub write_not : is_lawful_state k ≡ false
      → record { number = number_of NotAccepted; output = output } ≡ write_of k output
  unfolding write_of
  write_not h = rw h

  pub write_done : is_lawful_state k ≡ true → record { number = 0; output = state_bytes k 2 } ≡ write_of k output
  unfolding write_of
  write_done h = rw h
