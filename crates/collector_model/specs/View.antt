-- The view of a collector's state (document 01, "Merging").
use Rattle.std.specs.Prelude.{ℕ, ◌-◌, min, Bool, List, [], leb}
use Rattle.base_lists.specs.Lists.{keep}
use Rattle.collector_model.specs.declared.Totals.{Totals}

-- "A reception is bytes and the moment they were complete, in ms"
pub record Reception : Type 0 where
  pub bytes : List ℕ
  pub time : ℕ

-- an open telegram: what opened it, and how often it was heard again ("the number of copies for each telegram open",
-- document 02, A8)
pub record Entry : Type 0 where
  pub bytes : List ℕ
  pub time : ℕ
  pub copies : ℕ

-- "A KEPT reception opens a telegram at its time"; the reception itself does not count as a copy
abbrev pub opened : Reception → Entry
opened r = record { bytes = r.bytes; time = r.time; copies = 0 }

-- the reception that opened it
abbrev pub opened_by : Entry → Reception
opened_by e = record { bytes = e.bytes; time = e.time }

-- an entry whose number of copies is changed by f
abbrev pub recount : (ℕ → ℕ) → Entry → Entry
recount f e = record { bytes = e.bytes; time = e.time; copies = f e.copies }

-- the latest accepted time, the totals, and the open telegrams in opening order
pub record View : Type 0 where
  pub latest : ℕ
  pub totals : Totals
  pub entries : List Entry

-- ---- the collector's limits: 100 ms, 64 telegrams

abbrev pub maturity : ℕ
maturity = 100

-- a sender has finished 40 ms after it began (TX maturity, 001 Table 1)
abbrev pub tx_maturity : ℕ
tx_maturity = 40

abbrev pub capacity : ℕ
capacity = 64

-- "up to 65,535 and then staying there" (document 02, A8)
abbrev pub ceiling : ℕ
ceiling = 65535

-- a number of copies, cut off at the ceiling
abbrev pub capped : ℕ → ℕ
capped n = min n ceiling

-- "at time t it is open while t - f <= 100 (RX maturity, 001 Table 1)"
abbrev pub is_open : ℕ → Entry → Bool
is_open t e = leb (t - e.time) maturity

-- the entries of a view that are open at t
abbrev pub still_open : ℕ → View → List Entry
still_open t v = keep (is_open t) v.entries

-- ---- a collector started fresh

-- all totals are 0
abbrev pub no_totals : Totals
no_totals = record { received = 0; kept = 0; copies = 0; loose = 0; damaged = 0; late = 0 }

-- no telegram open, and nothing counted
unfoldable pub fresh : View
fresh = record { latest = 0; totals = no_totals; entries = [] }
