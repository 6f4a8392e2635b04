-- One history, worked out: a telegram, its copy by a repeater, another sensor's telegram that closes it, a damaged one,
-- a late one, and the first telegram again.
use Rattle.std.specs.Prelude.{ℕ, ◌≡◌, List, [], ◌∷◌, map}
use Rattle.collector_model.specs.Answer.{Kept, Copy, Refused}
use Rattle.collector_model.specs.View.{Reception}
use Rattle.collector_model.specs.Reference.{open_at, latest_of, log_of}
use Rattle.history_rows.specs.Rows.{alone}
use Rattle.history_rows.specs.Closings.{closings}

-- F6 30 00123456 at level 0
abbrev pub original : List ℕ
original = 246 ∷ 48 ∷ 0 ∷ 18 ∷ 52 ∷ 86 ∷ 32 ∷ 226 ∷ []

-- the same at level 1
abbrev pub repeated : List ℕ
repeated = 246 ∷ 48 ∷ 0 ∷ 18 ∷ 52 ∷ 86 ∷ 33 ∷ 227 ∷ []

-- the same data of another sensor
abbrev pub another : List ℕ
another = 246 ∷ 48 ∷ 0 ∷ 18 ∷ 52 ∷ 87 ∷ 32 ∷ 227 ∷ []

abbrev pub heard : List ℕ → ℕ → Reception
heard bytes time = record { bytes = bytes; time = time }

-- newest first
abbrev pub sample_receptions : List Reception
sample_receptions =
    heard original 1160 ∷ heard another 1149 ∷ heard (246 ∷ []) 1151 ∷ heard another 1150 ∷ heard repeated 1100 ∷ heard original 1000 ∷ []

-- Worked (THE CLAIM): the answers, the rows, what closed and what is open
pub record Worked : Type 0 where
  pub answers : map (λ e. e.answer) (log_of sample_receptions) ≡ (Kept ∷ Refused 7 ∷ Refused 1 ∷ Kept ∷ Copy ∷ Kept ∷ [])
  pub rows : alone (log_of sample_receptions) ≡ (heard original 1160 ∷ heard another 1150 ∷ heard original 1000 ∷ [])
  pub closed : closings sample_receptions ≡ (record { bytes = original; time = 1000; copies = 1 } ∷ [])
  pub left : open_at (latest_of (log_of sample_receptions)) (log_of sample_receptions)
      ≡ (record { bytes = another; time = 1150; copies = 0 } ∷ record { bytes = original; time = 1160; copies = 0 } ∷ [])
