-- The greatest lengths of the lines that `collect` writes.
use Rattle.std.specs.Prelude.{ℕ, ◌+◌, ◌*◌}

-- a number of 64 bits has at most this many digits
abbrev pub longest_number : ℕ
longest_number = 20

-- an answer with n bytes to send is at most this long: `REFUSED ` and 20 digits, and two digits for each byte
abbrev pub longest_answer : ℕ → ℕ
longest_answer n = 28 + 2 * n

-- a row with a time of k characters and n bytes to send is at most this long: the time, a space, the answer and the
-- newline
abbrev pub longest_row : ℕ → ℕ → ℕ
longest_row k n = k + 30 + 2 * n

-- a line of totals is at most this long: names of 45 characters, six times 20 digits, and the newline
abbrev pub longest_totals : ℕ
longest_totals = 166
