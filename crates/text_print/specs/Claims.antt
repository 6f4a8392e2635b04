-- The claim on the steps of the program. proofs/Runs.antt proves it. Of the code, the proof uses only the contract of
-- `step`.
use Rattle.std.specs.Prelude.{ℕ, ◌≡◌, true, false, List, [], ◌∷◌, ◌++◌, map, eqb, length, take}
use Rattle.text_program.specs.Chunks.{joined}
use Rattle.text_program.specs.Collect.{Phase, starting}
use Rattle.text_collect.specs.Printed.{printed_of}
use Rattle.text_collect.specs.Session.{Receiver, phase_of}
use Rattle.text_print.specs.declared.Turn.{Turn}
use Rattle.text_print.specs.Step.{chunk, output_capacity, SteppedOver}

-- one step: the piece that was read, both buffers before and after it, and its answer
pub record Moment : Type 0 where
  pub piece : List ℕ
  pub buffer : List ℕ
  pub out : List ℕ
  pub buffer' : List ℕ
  pub out' : List ℕ
  pub turn : Turn

-- the step was made with the characters that were kept, and the piece after them; if a read gives no character, the
-- input has ended
pub record Made (s : Phase Receiver) (kept : List ℕ) (m : Moment) : Type 0 where
  pub buffer_long : length m.buffer ≡ chunk
  pub out_long : length m.out ≡ output_capacity
  pub step : SteppedOver s (kept ++ m.piece) m.buffer (eqb (length m.piece) 0) m.out m.buffer' m.out' m.turn

-- steps one after the other, up to the one that ends the run
unfoldable pub IsWholeRun : Phase Receiver → List ℕ → List Moment → Type 0
IsWholeRun s kept [] = ⊥
IsWholeRun s kept (m ∷ []) = Made s kept m × (m.turn.ended ≡ true)
IsWholeRun s kept (m ∷ n ∷ ms) =
    Made s kept m × (m.turn.ended ≡ false)
    × IsWholeRun (phase_of m.turn.session) (take m.turn.kept m.buffer') (n ∷ ms)

-- what was read, and what was written
abbrev pub read_in : List Moment → List ℕ
read_in ms = joined (map (λ (m : Moment). m.piece) ms)

abbrev pub written_in : List Moment → List ℕ
written_in ms = joined (map (λ (m : Moment). take m.turn.written m.out') ms)

-- THE CLAIM: whatever pieces the reads give, the program writes what the reference model says for all that was read
abbrev pub RunsPrint : Type 0
RunsPrint = (ms : List Moment) → IsWholeRun starting [] ms → written_in ms ≡ printed_of (read_in ms)
