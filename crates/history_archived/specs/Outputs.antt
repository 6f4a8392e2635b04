-- The claims on calls that share an output buffer. proofs/Outputs.antt proves them. Of the code, the proofs use only
-- the contracts of `lines` and `lines_as`.
use Rattle.std.specs.Prelude.{ℕ, ◌*◌, ◌≡◌, List, [], ◌∷◌, map, length, get_or, take, drop}
use Rattle.text_program.specs.Chunks.{joined}
use Rattle.archive_fill.specs.Fill.{row_length}
use Rattle.c_collector.specs.State.{Arrays}
use Rattle.history_archived.specs.Runs.{LinesCall, TakesAs, GoesOn, IsRun, OfBoth}

-- an output of a call: the buffer that is lent, the buffer after the call, and how much the call writes at its front
pub record Output : Type 0 where
  pub lent : LinesCall → List ℕ
  pub left : LinesCall → List ℕ
  pub count : LinesCall → ℕ

-- the output for text
abbrev pub text_out : Output
text_out = record { lent = λ c. c.out; left = λ c. c.out'; count = λ c. get_or c.done' 1 0 }

-- the output for the times of rows
abbrev pub times_out : Output
times_out = record { lent = λ c. c.moments; left = λ c. c.moments'; count = λ c. get_or c.done' 2 0 }

-- the output for the records of rows
abbrev pub records_out : Output
records_out = record { lent = λ c. c.rows; left = λ c. c.rows'; count = λ c. row_length * get_or c.done' 2 0 }

-- the output for closings
abbrev pub closings_out : Output
closings_out = record { lent = λ c. c.closed; left = λ c. c.closed'; count = λ c. 32 * get_or c.done' 4 0 }

-- what a call wrote into an output
abbrev pub written_to : Output → LinesCall → List ℕ
written_to o c = take (o.count c) (o.left c)

-- calls share a buffer: each gets the rest of it, after what the call before wrote
pub data Shares (o : Output) : (buffer : List ℕ) → List LinesCall → (rest : List ℕ) → Type 0 where
  last : {buffer : List ℕ} → Shares o buffer [] buffer
  more : {rest : List ℕ} {c : LinesCall} {cs : List LinesCall}
      → Shares o (drop (o.count c) (o.left c)) cs rest → Shares o (o.lent c) (c ∷ cs) rest

-- THE CLAIM: after all that the calls wrote, the buffer is unchanged
abbrev pub Behind : Output → (LinesCall → Type 0) → Type 0
Behind o Is =
    (a : Arrays) (cs : List LinesCall) (buffer rest : List ℕ) → IsRun GoesOn Is a cs → Shares o buffer cs rest
    → rest ≡ drop (length (joined (map (written_to o) cs))) buffer

-- the claim for text, times and records
pub record Stay (Is : LinesCall → Type 0) : Type 0 where
  pub text : Behind text_out Is
  pub times : Behind times_out Is
  pub records : Behind records_out Is

-- Outputs stay: it holds for calls of `lines` and of `lines_as`.
abbrev pub OutputsStay : Type 0
OutputsStay = OfBoth Stay

-- Closings stay: the same for the closings of `lines_as`.
abbrev pub ClosingsStay : Type 0
ClosingsStay = (setting format : ℕ) → Behind closings_out (TakesAs setting format)
