-- ERP1 subtelegrams, as lists of bytes (document 01, "Subtelegram").
use Rattle.std.specs.Prelude.{ℕ, ◌+◌, ◌-◌, ◌%◌, Bool, cond, not, ◌&&◌, ◌||◌, List, [], ◌∷◌, ◌++◌, length, take, ◌==◌, nat_lt, slice_index}
use Rattle.base_refusal.specs.Number.{number_of}
use Rattle.base_refusal.specs.declared.Refusal.{Refusal}
use Rattle.base_refusal.specs.declared.Refusal.TheVariants.{Length, Sum, Crc, Nested}
use Rattle.base_crc8.specs.Crc8.{crc_of}
use Rattle.radio_erp1.specs.Status.{split_of}

-- the house limits: the length of a subtelegram, and of an addressed one
abbrev pub min_length : ℕ
min_length = 8

abbrev pub max_length : ℕ
max_length = 21

abbrev pub min_addressed_length : ℕ
min_addressed_length = 13

-- RORG of an addressed telegram (001, 4.3.2)
abbrev pub addressed : ℕ
addressed = 0xA6

-- ---- the parts of a subtelegram: HASH; its body, which is all before HASH; and STATUS, the last byte of the body

abbrev pub last_byte : List ℕ → ℕ
last_byte s = slice_index s (length s - 1)

abbrev pub body_of : List ℕ → List ℕ
body_of s = take (length s - 1) s

abbrev pub status_of : List ℕ → ℕ
status_of s = last_byte (body_of s)

-- all bytes before STATUS
abbrev pub before_status : List ℕ → List ℕ
before_status s = body_of (body_of s)

-- ---- HASH covers every byte before it

abbrev pub sum_of : List ℕ → ℕ
sum_of [] = 0
sum_of (b ∷ bs) = b + sum_of bs

-- STATUS bit 7 = 0: the low eight bits of the sum; bit 7 = 1: the CRC
unfoldable pub hash_of : List ℕ → ℕ
hash_of body = cond (split_of (last_byte body)).crc (crc_of body) (sum_of body % 256)

-- a body with its HASH after it
abbrev pub sealed_of : List ℕ → List ℕ
sealed_of body = body ++ (hash_of body ∷ [])

-- ---- the check

abbrev pub is_length_wrong : List ℕ → Bool
is_length_wrong s = nat_lt (length s) min_length || nat_lt max_length (length s)

-- HASH is right
abbrev pub is_hashed : List ℕ → Bool
is_hashed s = last_byte s == hash_of (body_of s)

-- the first byte says that the telegram is addressed
abbrev pub is_addressed : List ℕ → Bool
is_addressed s = slice_index s 0 == addressed

-- the RORG inside an addressed telegram is 0xA6 again
abbrev pub is_nested : List ℕ → Bool
is_nested s = slice_index s 1 == addressed

-- which hash is wrong (document 02, A3): the one that STATUS selects
abbrev pub wrong_hash : ℕ → Refusal
wrong_hash status = cond (split_of status).crc Crc Sum

-- document 01's number, with the tests in its order; 0 means valid
unfoldable pub check_of : List ℕ → ℕ
check_of s =
    cond (is_length_wrong s) (number_of Length)
    (cond (not (is_hashed s)) (number_of (wrong_hash (status_of s)))
    (cond (is_addressed s && nat_lt (length s) min_addressed_length) (number_of Length)
    (cond (is_addressed s && is_nested s) (number_of Nested)
    0)))

-- "valid means all pass"
abbrev pub is_valid : List ℕ → Bool
is_valid s = check_of s == 0
