-- Where values are in memory and in files: a value of each of twelve kinds, and a checkpoint, worked out by hand from
-- docs/FORMATS.md and include/mooringeye.h. A law that reading undoes writing would hold for another layout too.
use Rattle.std.specs.Prelude.{ℕ, ◌<◌, ◌≡◌, true, List, [], ◌∷◌, ◌++◌, map, length, take, replicate, get_or}
use Rattle.base_buffers.specs.Buffer.{part}
use Rattle.radio_telegram.specs.Frame.{frame_of}
use Rattle.radio_telegram.specs.Fields.{fields_of}
use Rattle.radio_erp2_model.specs.Reading.{read_of}
use Rattle.plan_site.specs.declared.Assignment.{Assignment}
use Rattle.plan_site.specs.Bytes.{assignment_of}
use Rattle.collector_model.specs.Answer.{Kept, Copy, Loose, Refused}
use Rattle.collector_model.specs.View.{View}
use Rattle.collector_model.specs.Image.{image_of}
use Rattle.archive_model.specs.Buffer as archive
use Rattle.archive_report.specs.Lines.{line_numbers}
use Rattle.c_codec.specs.Fields as codec
use Rattle.c_erp2.specs.Fields as erp2
use Rattle.c_collector.specs.State.{numbers_of}
use Rattle.c_collector.specs.Calls.{answer_number}
use Rattle.c_burst.specs.Bytes.{reception_in, reply_bytes}
use Rattle.c_archive.specs.Calls.{row_bytes}
use Rattle.c_report.specs.Calls.{report_numbers}
use Rattle.c_pieces.specs.Scan.{scan_numbers}
use Rattle.c_pieces.specs.Adding.{tally_numbers}
use Rattle.cases.specs.Cases.{Case, four_byte_addressed, one_byte, one_byte_repeated, every_field}

-- a state whose numbers all differ: its clock, its totals, and one open telegram
abbrev pub sample_state : View
sample_state = record {
  latest = 11;
  totals = record { received = 12; kept = 13; copies = 14; loose = 15; damaged = 16; late = 17 };
  entries = record { bytes = one_byte; time = 0x0102; copies = 0x0304 } ∷ [];
}

-- the bytes at these positions
abbrev pub bytes_at : List ℕ → List ℕ → List ℕ
bytes_at places bytes = map (λ (i : ℕ). get_or bytes i 0) places

-- rule, level, duration, and the slots in order
abbrev pub shown_assignment : Assignment → List ℕ
shown_assignment a = a.rule ∷ a.level ∷ a.duration ∷ a.slots.first ∷ a.slots.second ∷ a.slots.third ∷ []

-- the table of layouts
abbrev pub layouts : List Case
layouts =
    -- an image: for each block its number, its count of entries, and the last byte of each of its two numbers
    record {
      got =
          bytes_at
          (0 ∷ 1 ∷ 15 ∷ 23 ∷ 512 ∷ 513 ∷ 527 ∷ 535 ∷ 1024 ∷ 1039 ∷ 1047 ∷ 1536 ∷ 1551 ∷ 1559 ∷ 2048 ∷ 2063 ∷ 2071 ∷ [])
          (image_of sample_state);
      want = 0 ∷ 1 ∷ 11 ∷ 12 ∷ 1 ∷ 0 ∷ 13 ∷ 14 ∷ 2 ∷ 15 ∷ 16 ∷ 3 ∷ 17 ∷ 0 ∷ 4 ∷ 0 ∷ 0 ∷ [];
    }
    -- its first entry: the time, the length, the first and the last byte received, a zero after it, and the copies
    ∷ record {
      got = bytes_at (30 ∷ 31 ∷ 32 ∷ 33 ∷ 40 ∷ 41 ∷ 54 ∷ 55 ∷ 56 ∷ []) (image_of sample_state);
      want = 1 ∷ 2 ∷ 8 ∷ 0xD5 ∷ 0xFE ∷ 0 ∷ 3 ∷ 4 ∷ 0 ∷ [];
    }
    -- mooringeye_fields: rorg, length, addressed, status, destid, txid, data
    ∷ record {
      got = codec.fields_bytes (fields_of four_byte_addressed);
      want = (0xA5 ∷ 4 ∷ 1 ∷ 0 ∷ 0xF1 ∷ 0xF2 ∷ 0xF3 ∷ 0xF4 ∷ 1 ∷ 2 ∷ 3 ∷ 4 ∷ 0 ∷ 0 ∷ 0 ∷ 8 ∷ []) ++ replicate 10 0;
    }
    ∷ record {
      got = codec.fields_bytes (fields_of one_byte_repeated);
      want = (0xD5 ∷ 1 ∷ 0 ∷ 0x81 ∷ 0 ∷ 0 ∷ 0 ∷ 0 ∷ 1 ∷ 2 ∷ 3 ∷ 4 ∷ 9 ∷ []) ++ replicate 13 0;
    }
    -- mooringeye_erp2: form, control, extended, kind, has_extension, hops, announced, has_subtype, subtype,
    -- has_destination, length, data, optional
    ∷ record {
      got =
          take 12 (erp2.fields_bytes (read_of every_field).telegram)
          ++ part 261 3 (erp2.fields_bytes (read_of every_field).telegram);
      want = 0 ∷ 2 ∷ 1 ∷ 15 ∷ 1 ∷ 1 ∷ 2 ∷ 1 ∷ 0x32 ∷ 1 ∷ 1 ∷ 0xAA ∷ 0xBB ∷ 0xCC ∷ 0 ∷ [];
    }
    -- the same for a telegram with a destination and no extension
    ∷ record {
      got =
          take 12 (erp2.fields_bytes
          (read_of (0x0B ∷ 0x43 ∷ 1 ∷ 2 ∷ 3 ∷ 4 ∷ 0xF1 ∷ 0xF2 ∷ 0xF3 ∷ 0xF4 ∷ 0xAA ∷ 0xE9 ∷ [])).telegram);
      want = 0 ∷ 2 ∷ 0 ∷ 3 ∷ 0 ∷ 0 ∷ 0 ∷ 0 ∷ 0 ∷ 1 ∷ 1 ∷ 0xAA ∷ [];
    }
    -- the eight numbers of mooringeye_collector: open telegrams, latest time, received, kept, copies, loose, damaged,
    -- late
    ∷ record { got = numbers_of sample_state; want = 1 ∷ 11 ∷ 12 ∷ 13 ∷ 14 ∷ 15 ∷ 16 ∷ 17 ∷ [] }
    -- what mooringeye_take answers: MOORINGEYE_KEPT, MOORINGEYE_COPY, MOORINGEYE_LOOSE, a refusal
    ∷ record {
      got = map answer_number (Kept ∷ Copy ∷ Loose ∷ Refused 13 ∷ []);
      want = 0 ∷ 256 ∷ 512 ∷ 13 ∷ [];
    }
    -- mooringeye_frame, as a burst gets it: length, bytes
    ∷ record { got = (reception_in ((8 ∷ []) ++ one_byte ++ replicate 13 7) 5).bytes; want = one_byte }
    -- mooringeye_reply: kind, number, and the frame that is sent
    ∷ record {
      got = reply_bytes (record { answer = Copy; sent = frame_of [] });
      want = 1 ∷ replicate 23 0;
    }
    ∷ record {
      got = reply_bytes (record { answer = Refused 13; sent = frame_of [] });
      want = 0 ∷ 13 ∷ replicate 22 0;
    }
    ∷ record {
      got = reply_bytes (record { answer = Kept; sent = frame_of one_byte_repeated });
      want = (0 ∷ 0 ∷ 8 ∷ []) ++ one_byte_repeated ++ replicate 13 0;
    }
    -- mooringeye_row: loose, and a frame
    ∷ record {
      got = row_bytes (record { bytes = one_byte; time = 5; loose = true });
      want = (1 ∷ 8 ∷ []) ++ one_byte ++ replicate 13 0;
    }
    -- mooringeye_repeater: rule, level, duration, slots
    ∷ record {
      got = shown_assignment (assignment_of (1 ∷ 2 ∷ 3 ∷ 4 ∷ 5 ∷ 6 ∷ 7 ∷ 8 ∷ 9 ∷ []));
      want = 1 ∷ 2 ∷ 0x03040506 ∷ 7 ∷ 8 ∷ 9 ∷ [];
    }
    -- a scan: blocks, rows, stage, position
    ∷ record { got = scan_numbers (record { blocks = 7; rows = 90; stage = archive.Wrong 6 }); want = 7 ∷ 90 ∷ 3 ∷ 6 ∷ [] }
    ∷ record { got = scan_numbers (record { blocks = 7; rows = 99; stage = archive.Short }); want = 7 ∷ 99 ∷ 1 ∷ 0 ∷ [] }
    -- mooringeye_line: identity, kept, loose, earliest, latest
    ∷ record {
      got = line_numbers (record { identity = 1; kept = 2; loose = 3; earliest = 4; latest = 5 });
      want = 1 ∷ 2 ∷ 3 ∷ 4 ∷ 5 ∷ [];
    }
    -- the numbers of mooringeye_report: archives, lines, KEPT rows, LOOSE rows
    ∷ record { got = report_numbers (record { archives = 1; lines = []; kept = 2; loose = 3 }); want = 1 ∷ 0 ∷ 2 ∷ 3 ∷ [] }
    -- the numbers of mooringeye_adding: a scan, lines, KEPT rows, LOOSE rows, and whether there were more than 256
    -- transmitters
    ∷ record {
      got =
          tally_numbers (record {
            lines = [];
            kept = 4;
            loose = 5;
            over = true;
            scan = record { blocks = 7; rows = 90; stage = archive.Wrong 6 };
          });
      want = 7 ∷ 90 ∷ 3 ∷ 6 ∷ 0 ∷ 4 ∷ 5 ∷ 1 ∷ [];
    }
    ∷ []

-- THE CLAIM: in every row, the definition gives what the two documents say
abbrev pub EveryLayout : Type 0
EveryLayout = (k : ℕ) → k < length layouts → (d : Case) → (get_or layouts k d).got ≡ (get_or layouts k d).want
