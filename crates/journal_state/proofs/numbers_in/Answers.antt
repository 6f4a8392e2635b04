-- `journal_state::numbers_in` meets its contract: each number is read where it stands.
use native.Mathlib.Omega.{arith}
use Rattle.journal_state.proofs.numbers_in.Goals as goal

pub returns : goal.returns
returns c =
    rw (
      c.number_at.ensures,
      c.number_at-2.ensures,
      c.number_at-3.ensures,
      c.number_at-4.ensures,
      c.byte_at.ensures,
      c.byte_at-2.ensures,
      c.number_at-5.ensures,
      c.number_at-6.ensures,
      c.number_at-7.ensures,
      c.pair_at-held.ensures,
      c.byte_at-3.ensures,
      c.number_at-8.ensures,
      c.number_at-9.ensures,
      c.number_at-10.ensures,
    )

pub pair_at-held-requires : goal.pair_at-held-requires
pair_at-held-requires c = omega arith
