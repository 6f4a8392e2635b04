-- A recovery without a log, in the states of an implementation: an image from the middle of a history is restored, the
-- rows that came after it are handed over, and then everything that follows.
use Rattle.std.specs.Prelude.{ℕ, ◌<◌, ◌^◌, ◌≡◌, true, List, map, leb, length}
use Rattle.base_lists.specs.Lists.{all}
use Rattle.collector_model.specs.View.{View, opened_by, still_open, fresh}
use Rattle.collector_model.specs.Image.{image_of, restore_of}
use Rattle.collector_model.specs.Reference.{latest_of, log_of}
use Rattle.collector_model.specs.History.{Call, IsHistory, Seen}
use Rattle.collector_model.specs.Division.{receptions_of, past_of, replies_in}
use Rattle.collector_model.specs.States.{Shows, left_by}
use Rattle.history_rows.specs.States.{row_calls, past_by}

module _ {State : Type 0} (view : State → View) where
  -- the calls f show the same replies, COPY, damaged and late ones too, and leave the same openings
  pub record Alike (f : List Call) (x y : List Seen) (left recovered : State) : Type 0 where
    pub replies : replies_in f x ≡ replies_in f y
    pub openings : map opened_by (still_open (view left).latest (view recovered)) ≡ map opened_by (view left).entries

  -- THE CLAIM: c takes the calls h, g and f. A fresh d restores the image after h and becomes d'. It is handed only the
  -- rows of g, and then takes f. No reception of f is earlier than the latest time after g, which a copy in g may have
  -- set.
  abbrev pub RecoveredGoesOn : Type 0
  RecoveredGoesOn =
      (h g f : List Call) → IsHistory h → IsHistory g → IsHistory f
      → length (past_by (past_by (past_of h) g) f) < 2 ^ 64
      → all (λ x. leb (latest_of (log_of (past_by (past_of h) g))) x.reception.time) (receptions_of f) ≡ true
      → (c d d' : State) → view c ≡ fresh → view d ≡ fresh
      → (k l m x y : List Seen) (s : Shows view c h k) (t : Shows view (left_by view s) g l) (w : Shows view (left_by view t) f x)
      → (n : ℕ) → record { number = n; next = view d' } ≡ restore_of (view d) (image_of (view (left_by view s)))
      → (u : Shows view d' (row_calls (past_of h) g) m) (z : Shows view (left_by view u) f y)
      → Alike f x y (left_by view w) (left_by view z)
