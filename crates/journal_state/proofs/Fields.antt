-- The parts of a state's first block, as the functions that write them say them.
--     log-alone, out-alone     they look at the numbers alone
--     header_is                the first block, with the CRC of the log's bytes
use Prim.Native.Nat.{ℕ}
use mathlib.Core.Path.{◌≡◌, refl, ap}
use mathlib.Core.List.{[]}
use Rattle.base_crc8.specs.Crc8.{crc_of}
use Rattle.journal_state.specs.State.{Kept, kept, archive_field, log_field, out_field, state_header}
use Rattle.journal_state.specs.Private.{header_with}

module _ (k : Kept) where
  pub log_alone : log_field (kept k.numbers [] [] [] []) ≡ log_field k
  unfolding log_field
  log_alone = refl

  pub out-alone : out_field (kept k.numbers [] [] [] []) ≡ out_field k
  unfolding out_field
  out-alone = refl

  pub header_is : (version crc : ℕ) → crc ≡ crc_of k.tail → header_with (kept k.numbers
      k.name [] [] []) version crc ≡ state_header k version
  unfolding header_with state_header archive_field log_field out_field
  header_is version crc e = ap (header_with (kept k.numbers k.name [] [] []) version) e
