-- The results of the calls of salvage and removal, as the model names them (document 02, A9 and A11).
use Rattle.std.specs.Prelude.{ℕ, List, Result, Ok, Err}
use Rattle.base_refusal.specs.Number.{number_of}
use Rattle.base_refusal.specs.declared.Refusal.TheVariants.{Mismatch}
use Rattle.archive_repack_model.specs.Repack as model
use Rattle.archive_repack_model.specs.Packer.{Packed, Finished}
use Rattle.archive_repack.specs.declared.Salvaged.{Salvaged}
use Rattle.archive_repack.specs.declared.Repacked.{Repacked}
use Rattle.base_refusal.specs.declared.Refusal.{Refusal}
use Rattle.archive_file.specs.declared.ArchiveError.{ArchiveError}

abbrev pub salvage_result : Result Salvaged Refusal → List ℕ → List ℕ → model.Salvaged
salvage_result (Ok r) output positions = record {
  number = 0;
  count = r.dropped;
  rows = r.rows;
  output = output;
  positions = positions;
}
salvage_result (Err why) output positions = record {
  number = number_of why;
  count = 0;
  rows = 0;
  output = output;
  positions = positions;
}

-- the number, the position that goes with 12, the number of freed blocks, and every byte of the buffer after the call
abbrev pub remove_result : Result ℕ ArchiveError → List ℕ → model.Removed
remove_result (Ok n) after = record { number = 0; position = 0; freed = n; buffer = after }
remove_result (Err (ArchiveError.Damaged k)) after = record { number = number_of Mismatch; position = k; freed = 0; buffer = after }
remove_result (Err (ArchiveError.Refused why)) after = record { number = number_of why; position = 0; freed = 0; buffer = after }

-- `used` and `next` are those before the piece: with a refusal they are those after it too
abbrev pub pack_result : ℕ → ℕ → Result Repacked Refusal → List ℕ → List ℕ → List ℕ → Packed
pack_result used next (Ok r) pending output positions = record {
  number = 0;
  count = r.dropped;
  used = r.used;
  next = r.next;
  pending = pending;
  output = output;
  positions = positions;
}
pack_result used next (Err why) pending output positions = record {
  number = number_of why;
  count = 0;
  used = used;
  next = next;
  pending = pending;
  output = output;
  positions = positions;
}

abbrev pub finish_result : Result ℕ Refusal → List ℕ → Finished
finish_result (Ok n) output = record { number = 0; length = n; output = output }
finish_result (Err why) output = record { number = number_of why; length = 0; output = output }
