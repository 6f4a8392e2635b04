-- An archive that is packed in pieces: two numbers, and the bytes of the rows that wait.
use Rattle.std.specs.Prelude.{ℕ, List, get_or}
use Rattle.archive_repack_model.specs.Packer.{Packed, pack_of, Finished, finish_of}
use Rattle.c_layout.specs.Lent.{if_done}

-- with 0, the caller gets the number of dropped blocks of the piece
abbrev pub pack_shown : Packed → ℕ → Packed
pack_shown a dropped = record {
  number = a.number;
  count = if_done a.number a.count dropped;
  used = a.used;
  next = a.next;
  pending = a.pending;
  output = a.output;
  positions = a.positions;
}

-- a piece; the two numbers are how many rows wait, and how many blocks were written
abbrev pub pack_call : List ℕ → List ℕ → List ℕ → List ℕ → List ℕ → List ℕ → ℕ → Packed
pack_call numbers waiting piece identities output positions dropped =
    pack_shown (pack_of (get_or numbers 1 0) (get_or numbers 0 0) waiting piece identities output positions) dropped

-- with 0, the caller gets the length of the last block
abbrev pub end_shown : Finished → ℕ → Finished
end_shown a old = record { number = a.number; length = if_done a.number a.length old; output = a.output }

-- the end
abbrev pub pack_end : List ℕ → List ℕ → List ℕ → ℕ → Finished
pack_end numbers waiting output old = end_shown (finish_of (get_or numbers 1 0) (get_or numbers 0 0) waiting output) old
