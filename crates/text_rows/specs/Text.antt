-- The lines that `collect` writes (document 01, "Cases").
use Rattle.std.specs.Prelude.{ℕ, zero, suc, ◌+◌, ◌-◌, ◌/◌, ◌%◌, cond, List, [], ◌∷◌, ◌++◌, ltb}
use Rattle.text_lines.specs.Ascii.{newline, space, digit0, upper_a}
use Rattle.text_rows.specs.Codes.{codes}
use Rattle.text_rows.specs.declared.Row.{Row}

-- n in decimal, in at most k digits: a number below ten has one digit; any other has the digits of n / 10 and then its
-- last digit
unfoldable pub digits_of : ℕ → ℕ → List ℕ
digits_of zero n = []
digits_of (suc k) n = cond (ltb n 10) ((digit0 + n) ∷ []) (digits_of k (n / 10) ++ ((digit0 + n % 10) ∷ []))

-- a number of 64 bits: it has at most 20 digits
abbrev pub decimal_text : ℕ → List ℕ
decimal_text n = digits_of 20 n

-- the hexadecimal digit of a number below 16, in upper case
unfoldable pub hex_digit_of : ℕ → ℕ
hex_digit_of d = cond (ltb d 10) (digit0 + d) (upper_a + (d - 10))

-- bytes in hexadecimal, two digits each
unfoldable pub hex_text : List ℕ → List ℕ
hex_text [] = []
hex_text (b ∷ bs) = hex_digit_of (b / 16) ∷ hex_digit_of (b % 16) ∷ hex_text bs

abbrev pub kept_word : List ℕ
kept_word = codes "KEPT"

abbrev pub send_word : List ℕ
send_word = codes "SEND"

abbrev pub copy_word : List ℕ
copy_word = codes "COPY"

abbrev pub loose_word : List ℕ
loose_word = codes "LOOSE"

abbrev pub refused_word : List ℕ
refused_word = codes "REFUSED"

-- ` SEND ` and the bytes to send, if there are any
abbrev pub send_text : List ℕ → List ℕ
send_text [] = []
send_text (b ∷ bs) = space ∷ send_word ++ (space ∷ hex_text (b ∷ bs))

-- what comes after the time in a row; bytes are sent only with KEPT
unfoldable pub answer_text : Row → List ℕ → List ℕ
answer_text Row.Kept sent = kept_word ++ send_text sent
answer_text Row.Copy sent = copy_word
answer_text Row.Loose sent = loose_word
answer_text (Row.Refused n) sent = refused_word ++ (space ∷ decimal_text n)

-- a row: the text of its time, a space, the answer, and a newline
unfoldable pub row_behind : List ℕ → Row → List ℕ → List ℕ
row_behind time row sent = time ++ (space ∷ []) ++ answer_text row sent ++ (newline ∷ [])

-- the row of a reception
abbrev pub row_text : ℕ → Row → List ℕ → List ℕ
row_text time row sent = row_behind (decimal_text time) row sent

-- the row of a line that is BAD
abbrev pub bad_text : List ℕ
bad_text = codes "BAD\n"

-- a total after its name
abbrev pub named_total : List ℕ → ℕ → List ℕ
named_total name n = name ++ decimal_text n

-- the totals, in this order
unfoldable pub totals_text : (received kept copies loose damaged late : ℕ) → List ℕ
totals_text received kept copies loose damaged late =
    named_total (codes "RECEIVED ") received
    ++ named_total (codes " KEPT ") kept
    ++ named_total (codes " COPIES ") copies
    ++ named_total (codes " LOOSE ") loose
    ++ named_total (codes " DAMAGED ") damaged
    ++ named_total (codes " LATE ") late
    ++ (newline ∷ [])
