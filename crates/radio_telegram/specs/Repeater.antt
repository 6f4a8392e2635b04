-- The repeater step (document 01, "Repeater step"; 001, Table 5).
use Rattle.std.specs.Prelude.{ℕ, ◌+◌, ◌≡◌, Bool, true, cond, not, ◌&&◌, ◌||◌, List, [], ◌∷◌, ◌++◌, leb, ltb, eqb, length, Result, Ok, Err}
use Rattle.base_refusal.specs.Number.{number_of}
use Rattle.base_refusal.specs.declared.Refusal.{Refusal}
use Rattle.base_refusal.specs.declared.Refusal.TheVariants.{Argument}
use Rattle.radio_erp1.specs.declared.status.Status.{Status}
use Rattle.radio_erp1.specs.Status.{split_of, join_of}
use Rattle.radio_erp1.specs.Subtelegram.{check_of, is_length_wrong, is_valid, sealed_of, status_of, before_status}
use Rattle.radio_erp1.specs.Same.{is_same}
use Rattle.radio_telegram.specs.declared.frame.Frame.{Frame}
use Rattle.radio_telegram.specs.Frame.{frame_of}

-- the level of a subtelegram: the low four bits of STATUS
abbrev pub level_of : List ℕ → ℕ
level_of s = (split_of (status_of s)).level

-- a setting is 0 (off), 1 or 2
abbrev pub max_setting : ℕ
max_setting = 2

-- "Set to 1 it repeats level 0; set to 2 it repeats levels 0 and 1"; with any other setting it repeats nothing
abbrev pub repeats : ℕ → ℕ → Bool
repeats setting level = eqb setting 1 && eqb level 0 || eqb setting 2 && leb level 1

-- STATUS with the level raised by one
abbrev pub raise : Status → Status
raise s = record { level = s.level + 1; flags = s.flags; crc = s.crc }

-- the telegram sent: it differs in level, raised by one, and HASH only
abbrev pub raised_of : List ℕ → List ℕ
raised_of s = sealed_of (before_status s ++ (join_of (raise (split_of (status_of s))) ∷ []))

-- what a repeater with this setting sends for bytes that are not checked; no bytes mean that nothing is sent
unfoldable pub relay_of : ℕ → List ℕ → List ℕ
relay_of setting s = cond (not (is_length_wrong s) && repeats setting (level_of s)) (raised_of s) []

-- what it sends for a reception, which must be valid
unfoldable pub repeat_of : ℕ → List ℕ → List ℕ
repeat_of setting s = cond (is_valid s) (relay_of setting s) []

-- ---- the call (document 02, A7)

-- the number, and the telegram to send
pub record RepeatResult : Type 0 where
  pub number : ℕ
  pub sent : Frame

-- a refusal: nothing is sent
abbrev pub not_repeated : ℕ → RepeatResult
not_repeated number = record { number = number; sent = frame_of [] }

abbrev pub repeated_of : Result Frame Refusal → RepeatResult
repeated_of (Ok f) = record { number = 0; sent = f }
repeated_of (Err why) = not_repeated (number_of why)

-- "Refusals: the second call gives 10, then the check's"; else "what to send, if anything"
unfoldable pub repeat_result : ℕ → List ℕ → RepeatResult
repeat_result setting s =
    cond (ltb max_setting setting) (not_repeated (number_of Argument))
    (cond (not (is_valid s)) (not_repeated (check_of s))
    (record { number = 0; sent = frame_of (relay_of setting s) }))

-- ---- what is sent

-- r differs from s in level, raised by one, and HASH only
pub record RaisedFrom (s r : List ℕ) : Type 0 where
  pub valid : check_of r ≡ 0
  pub long : length r ≡ length s
  pub same : is_same s r ≡ true
  pub level : level_of r ≡ level_of s + 1
