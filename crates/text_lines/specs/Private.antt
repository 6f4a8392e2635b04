-- Reading many characters at once, for the contracts of private functions. No public contract cites these.
use Rattle.std.specs.Prelude.{◌≡◌, Bool, true, List, ℕ, ◌+◌, ◌*◌, ◌≤◌, ◌<◌, length, get_or}
use Rattle.text_lines.specs.Ascii.{newline, space, digit0}
use Rattle.text_lines.specs.Decimal.{is_digit}
use Rattle.text_lines.specs.Hex.{nibble_of}

-- a text begins with thirteen digits and a space, and the first digit is not 0
pub record Thirteen (text : List ℕ) : Type 0 where
  pub long : 13 < length text
  pub digits : (k : ℕ) → k < 13 → is_digit (get_or text k 0) ≡ true
  pub some : get_or text 0 0 ≡ digit0 → ⊥
  pub ends : get_or text 13 0 ≡ space

-- a newline after n pairs of characters, n from 8 to 24; the text is long enough for 24 pairs and a newline
pub record EndedPairs (s : List ℕ) (n : ℕ) : Type 0 where
  pub least : 8 ≤ n
  pub most : n ≤ 24
  pub long : 48 < length s
  pub ends : get_or s (2 * n) 0 ≡ newline

-- pair k has two digits, and its byte is written
pub record Covered (s bytes : List ℕ) (k : ℕ) : Type 0 where
  pub high : nibble_of (get_or s (2 * k) 0) < 16
  pub low : nibble_of (get_or s (2 * k + 1) 0) < 16
  pub value : get_or bytes k 0 ≡ nibble_of (get_or s (2 * k) 0) * 16 + nibble_of (get_or s (2 * k + 1) 0)

-- eight bytes from index i on and eight from index j on were written; r says whether all their pairs have digits
pub record PutTwo (s : List ℕ) (i j : ℕ) (old new : List ℕ) (r : Bool) : Type 0 where
  pub long : length new ≡ length old
  pub first : r ≡ true → (k : ℕ) → i ≤ k → k < i + 8 → Covered s new k
  pub second : r ≡ true → (k : ℕ) → j ≤ k → k < j + 8 → Covered s new k
  pub other : (k : ℕ) → (i ≤ k → k < i + 8 → ⊥) → (j ≤ k → k < j + 8 → ⊥) → get_or new k 0 ≡ get_or old k 0

-- n elements of one list were copied into another
pub record CopiedPart (src : List ℕ) (from n : ℕ) (old : List ℕ) (to : ℕ) (new : List ℕ) : Type 0 where
  pub long : length new ≡ length old
  pub inside : (k : ℕ) → k < n → get_or new (to + k) 0 ≡ get_or src (from + k) 0
  pub outside : (k : ℕ) → (to ≤ k → k < to + n → ⊥) → get_or new k 0 ≡ get_or old k 0
