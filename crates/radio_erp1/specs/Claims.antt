-- The claim on STATUS. proofs/Statuses.antt proves it.
use Rattle.std.specs.Prelude.{◌≡◌, ℕ, ◌<◌}
use Rattle.radio_erp1.specs.Status.{split_of, join_of}

-- the three parts of a byte hold all of it: joining them undoes the split
abbrev pub JoinSplit : Type 0
JoinSplit = (b : ℕ) → b < 256 → join_of (split_of b) ≡ b
