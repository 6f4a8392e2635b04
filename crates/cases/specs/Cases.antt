-- The cases of document 01, "Cases, P marks those proved", as document 02 changes them, and figures of document 02.
-- Each row has what a definition gives and what the documents say. The last three rows are our own cases of ERP2
-- telegrams.
use Rattle.std.specs.Prelude.{ℕ, ◌<◌, ◌≡◌, List, [], ◌∷◌, ◌++◌, cond, length, take, replicate, get_or, is_some, unwrap_or}
use Rattle.base_crc8.specs.Crc8.{crc_of}
use Rattle.radio_erp1.specs.Subtelegram.{hash_of, check_of}
use Rattle.radio_telegram.specs.Addressing.{encapsulated}
use Rattle.radio_telegram.specs.Repeater.{repeat_of}
use Rattle.radio_telegram.specs.Output.{result_bytes}
use Rattle.radio_erp2_model.specs.declared.Telegram.{Telegram}
use Rattle.radio_erp2_model.specs.Header.{hops_of, announced_of}
use Rattle.radio_erp2_model.specs.Reading.{Read, read_of}
use Rattle.radio_erp2_model.specs.Building.{build_of}
use Rattle.plan_slots.specs.Plan.{plans, standard_rule}
use Rattle.plan_rules.specs.Rules.{rule_of}
use Rattle.collector_model.specs.Answer.{Shown, Kept, Copy, Loose, Refused}
use Rattle.collector_model.specs.View.{fresh}
use Rattle.collector_model.specs.History.{Call, Receive, Seen, Answered, Wrote, Restored, Delivered, Heard, Looked, run}

-- what a definition gives, and what the documents say
pub record Case : Type 0 where
  pub got : List ℕ
  pub want : List ℕ

-- A5 00 00 00 08 01 02 03 04 00, and with its HASH
abbrev pub four_byte : List ℕ
four_byte = 0xA5 ∷ 0x00 ∷ 0x00 ∷ 0x00 ∷ 0x08 ∷ 0x01 ∷ 0x02 ∷ 0x03 ∷ 0x04 ∷ 0x00 ∷ []

abbrev pub four_byte_sent : List ℕ
four_byte_sent = four_byte ++ (0xB7 ∷ [])

-- the same addressed to F1F2F3F4
abbrev pub four_byte_addressed : List ℕ
four_byte_addressed =
    0xA6 ∷ 0xA5 ∷ 0x00 ∷ 0x00 ∷ 0x00 ∷ 0x08 ∷ 0xF1 ∷ 0xF2 ∷ 0xF3 ∷ 0xF4 ∷ 0x01 ∷ 0x02 ∷ 0x03 ∷ 0x04 ∷ 0x00 ∷ 0x27 ∷ []

-- D5 09 01 02 03 04 80 FE
abbrev pub one_byte : List ℕ
one_byte = 0xD5 ∷ 0x09 ∷ 0x01 ∷ 0x02 ∷ 0x03 ∷ 0x04 ∷ 0x80 ∷ 0xFE ∷ []

-- the same, repeated: D5 09 01 02 03 04 81 F9
abbrev pub one_byte_repeated : List ℕ
one_byte_repeated = 0xD5 ∷ 0x09 ∷ 0x01 ∷ 0x02 ∷ 0x03 ∷ 0x04 ∷ 0x81 ∷ 0xF9 ∷ []

-- how many plans are lawful at a level and a duration
abbrev pub plan_count : ℕ → ℕ → ℕ
plan_count level duration = length (plans (standard_rule level) duration)

-- the same under a rule (0 standard, 1 compressed, 2 with a pause), for a number of transmissions
abbrev pub plan_count_by : ℕ → ℕ → ℕ → ℕ → ℕ
plan_count_by rule level transmissions duration = length (plans (rule_of rule level transmissions) duration)

-- ---- a telegram received at two times

-- the numbers of KEPT and COPY in this table; they differ from all refusals
abbrev pub kept_form : ℕ
kept_form = 100

abbrev pub copy : ℕ
copy = 101

abbrev pub shown_as : Shown → ℕ
shown_as Kept = kept_form
shown_as Copy = copy
shown_as Loose = 102
shown_as (Refused n) = n

-- the answers in what is seen of a history
abbrev pub answers_of : List Seen → List ℕ
answers_of [] = []
answers_of (Answered a sent n ∷ l) = shown_as a ∷ answers_of l
answers_of (Wrote number output n ∷ l) = answers_of l
answers_of (Restored number n ∷ l) = answers_of l
answers_of (Delivered number replies n ∷ l) = answers_of l
answers_of (Heard number copies n ∷ l) = answers_of l
answers_of (Looked n ∷ l) = answers_of l

-- a reception of these bytes at a time, at setting 1
abbrev pub received : List ℕ → ℕ → Call
received s t = Receive 1 (record { bytes = s; time = t })

-- the answers to an original at time 0, and to the bytes s at time t
abbrev pub twice : List ℕ → ℕ → List ℕ
twice s t = answers_of (run fresh (received one_byte 0 ∷ received s t ∷ []))

-- ---- ERP2 telegrams: our own cases, worked out by hand from the tables of document 004, which has no worked example

-- Length of a short form, address control, telegram type; repeater count and length of optional data, extended telegram
-- type, and Destination-ID, each after its flag; then Originator-ID, data and optional data
abbrev pub shown_fields : Telegram → List ℕ
shown_fields t =
    (t.short ∷ t.header.control ∷ t.header.kind ∷ [])
    ++ (cond (is_some t.extension) 1 0 ∷ hops_of t.extension ∷ announced_of t.extension ∷ [])
    ++ (cond (is_some t.subtype) 1 0 ∷ unwrap_or t.subtype 0 ∷ [])
    ++ (cond (is_some t.destination) 1 0 ∷ unwrap_or t.destination 0 ∷ t.originator ∷ [])
    ++ take t.len t.payload
    ++ take (announced_of t.extension) t.optional

-- the number, and the fields
abbrev pub shown_read : Read → List ℕ
shown_read r = r.number ∷ shown_fields r.telegram

-- the bytes that are built from the telegram that is read
abbrev pub built_again : List ℕ → List ℕ
built_again s = result_bytes (build_of (read_of s).telegram (replicate (length s) 0))

-- a short form of 5: Originator-ID 01020304, data AA
abbrev pub short_form : List ℕ
short_form = 0x05 ∷ 0x01 ∷ 0x02 ∷ 0x03 ∷ 0x04 ∷ 0xAA ∷ []

-- a 1BS telegram: Originator-ID 01020304 of 32 bits, data 09
abbrev pub one_byte_long : List ℕ
one_byte_long = 0x07 ∷ 0x21 ∷ 0x01 ∷ 0x02 ∷ 0x03 ∷ 0x04 ∷ 0x09 ∷ 0x8A ∷ []

-- every field: header 5F, repeater count 1 and two bytes of optional data, extended telegram type 32, both IDs, data
-- AA, optional data BB CC
abbrev pub every_field : List ℕ
every_field =
    0x0F ∷ 0x5F ∷ 0x12 ∷ 0x32 ∷ 0x01 ∷ 0x02 ∷ 0x03 ∷ 0x04 ∷ 0xF1 ∷ 0xF2 ∷ 0xF3 ∷ 0xF4 ∷ 0xAA ∷ 0xBB ∷ 0xCC ∷ 0x23 ∷ []

-- the table of cases
abbrev pub cases : List Case
cases =
    record { got = crc_of (0x01 ∷ []) ∷ []; want = 0x07 ∷ [] }
    ∷ record { got = crc_of (0x80 ∷ []) ∷ []; want = 0x89 ∷ [] }
    ∷ record { got = crc_of (0x01 ∷ 0x02 ∷ []) ∷ []; want = 0x1B ∷ [] }
    ∷ record { got = crc_of [] ∷ []; want = 0x00 ∷ [] }
    ∷ record { got = hash_of four_byte ∷ []; want = 0xB7 ∷ [] }
    ∷ record {
      got = repeat_of 1 four_byte_sent;
      want = 0xA5 ∷ 0x00 ∷ 0x00 ∷ 0x00 ∷ 0x08 ∷ 0x01 ∷ 0x02 ∷ 0x03 ∷ 0x04 ∷ 0x01 ∷ 0xB8 ∷ [];
    }
    ∷ record {
      got = encapsulated four_byte_sent (0xF1 ∷ 0xF2 ∷ 0xF3 ∷ 0xF4 ∷ []);
      want = four_byte_addressed;
    }
    ∷ record { got = check_of one_byte ∷ []; want = 0 ∷ [] }
    ∷ record { got = repeat_of 1 one_byte; want = 0xD5 ∷ 0x09 ∷ 0x01 ∷ 0x02 ∷ 0x03 ∷ 0x04 ∷ 0x81 ∷ 0xF9 ∷ [] }
    ∷ record { got = plan_count 0 1_000 ∷ []; want = 180 ∷ [] }
    ∷ record { got = plan_count 0 1_001 ∷ []; want = 152 ∷ [] }
    ∷ record { got = plan_count 0 9_000 ∷ []; want = 12 ∷ [] }
    ∷ record { got = plan_count 0 9_001 ∷ []; want = 0 ∷ [] }
    ∷ record { got = plan_count 1 15_000 ∷ []; want = 1 ∷ [] }
    ∷ record { got = plan_count 1 15_001 ∷ []; want = 0 ∷ [] }
    ∷ record { got = plan_count 2 20_000 ∷ []; want = 1 ∷ [] }
    ∷ record { got = plan_count 2 20_001 ∷ []; want = 0 ∷ [] }
    ∷ record { got = plan_count_by 1 0 3 1_000 ∷ []; want = 162 ∷ [] }
    ∷ record { got = plan_count_by 1 2 2 1_000 ∷ []; want = 0 ∷ [] }
    ∷ record { got = plan_count_by 2 0 2 1_000 ∷ []; want = 27 ∷ [] }
    ∷ record { got = plan_count_by 2 0 3 1_000 ∷ []; want = 351 ∷ [] }
    -- document 01's case of 0 and 100 ms, as document 02, A6, changes it: COPY at level 1; at level 0 KEPT, which is a
    -- COPY only up to 40 ms
    ∷ record { got = twice one_byte_repeated 100; want = kept_form ∷ copy ∷ [] }
    ∷ record { got = twice one_byte 100; want = kept_form ∷ kept_form ∷ [] }
    ∷ record { got = twice one_byte 101; want = kept_form ∷ kept_form ∷ [] }
    ∷ record { got = twice one_byte 40; want = kept_form ∷ copy ∷ [] }
    ∷ record { got = twice one_byte 41; want = kept_form ∷ kept_form ∷ [] }
    ∷ record {
      got = shown_read (read_of short_form) ++ built_again short_form;
      want = (0 ∷ 5 ∷ 0 ∷ 0 ∷ 0 ∷ 0 ∷ 0 ∷ 0 ∷ 0 ∷ 0 ∷ 0 ∷ 0x01020304 ∷ 0xAA ∷ []) ++ short_form;
    }
    ∷ record {
      got = shown_read (read_of one_byte_long) ++ built_again one_byte_long;
      want = (0 ∷ 0 ∷ 1 ∷ 1 ∷ 0 ∷ 0 ∷ 0 ∷ 0 ∷ 0 ∷ 0 ∷ 0 ∷ 0x01020304 ∷ 0x09 ∷ []) ++ one_byte_long;
    }
    ∷ record {
      got = shown_read (read_of every_field) ++ built_again every_field;
      want = (0 ∷ 0 ∷ 2 ∷ 15 ∷ 1 ∷ 1 ∷ 2 ∷ 1 ∷ 0x32 ∷ 1 ∷ 0xF1F2F3F4 ∷ 0x01020304 ∷ 0xAA ∷ 0xBB ∷ 0xCC ∷ []) ++ every_field;
    }
    ∷ []

-- THE CLAIM: in every row, the definition gives what the documents say
abbrev pub EveryCase : Type 0
EveryCase = (k : ℕ) → k < length cases → (d : Case) → (get_or cases k d).got ≡ (get_or cases k d).want
