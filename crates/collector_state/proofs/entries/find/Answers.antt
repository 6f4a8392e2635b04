-- The goals that a search does not find.
use Prim.Native.Nat.{ℕ, ◌-◌, ◌≤◌, ◌<◌}
use native.Mathlib.Decide.{dec_lt}
use mathlib.Core.Path.{◌≡◌, refl, sym, ◌∙◌}
use mathlib.Core.Bool.{Bool, false}
use native.Mathlib.Omega.{arith}
use Rattle.collector_model.specs.Acceptable.{is_copy_of}
use Rattle.collector_state.specs.Collector.{columns, entry_at}
use Rattle.collector_state.proofs.Arrays.{not_same, same_echo, echo_said, copy_found, none_found}
use Rattle.collector_state.proofs.entries.find.Goals as goal

-- one more that fails a test
down : (p : ℕ → Bool) (i count : ℕ) → p (i - 1) ≡ false → ((j : ℕ) → i ≤ j → j < count → p j ≡ false)
    → (j : ℕ) → i - 1 ≤ j → j < count → p j ≡ false
down p i count e later j h k = elim (dec_lt j i) [
  | yes l ↦ (let same : j ≡ i - 1 = omega arith in rw same e)
  | no l ↦ later j (omega arith) k
]

pub returns-then-is_echo : goal.returns-then-is_echo
returns-then-is_echo c copies =
    copy_found (columns c.args.times.now c.args.lens.now c.args.bytes.now copies) c.args.gone c.args.count
    (record { bytes = c.args.received.now; time = c.args.time }) (c.loop-i.i - 1) (omega arith) (omega arith)
    (same_echo (columns c.args.times.now c.args.lens.now c.args.bytes.now copies) (c.loop-i.i - 1)
    (record { bytes = c.args.received.now; time = c.args.time }) (sym c.holds.ensures ∙ c.if-holds.true)
    ∙ echo_said (columns c.args.times.now c.args.lens.now c.args.bytes.now copies) (c.loop-i.i - 1)
    (record { bytes = c.args.received.now; time = c.args.time }) _ _ _
    c.is_original-original.ensures refl c.is_echo.ensures ∙ c.if-is_echo.true)
    (λ j h k. c.loop-i.invariant.none copies j (omega arith) k)

pub loop-i-preserved-else-is_echo : goal.loop-i-preserved-else-is_echo
loop-i-preserved-else-is_echo c =
    record {
      above = omega arith;
      bounded = omega arith;
      none =
          λ copies. down (λ j. is_copy_of (entry_at (columns c.args.times.now c.args.lens.now c.args.bytes.now
          copies) j) (record { bytes = c.args.received.now; time = c.args.time })) c.loop-i.i c.args.count
          (same_echo (columns c.args.times.now c.args.lens.now c.args.bytes.now copies) (c.loop-i.i - 1)
          (record { bytes = c.args.received.now; time = c.args.time }) (sym c.holds.ensures ∙ c.if-holds.true)
          ∙ echo_said (columns c.args.times.now c.args.lens.now c.args.bytes.now copies) (c.loop-i.i - 1)
          (record { bytes = c.args.received.now; time = c.args.time }) _ _ _
          c.is_original-original.ensures refl c.is_echo.ensures ∙ c.if-is_echo.false) (c.loop-i.invariant.none copies);
    }

pub loop-i-preserved : goal.loop-i-preserved
loop-i-preserved c =
    record {
      above = omega arith;
      bounded = omega arith;
      none =
          λ copies. down (λ j. is_copy_of (entry_at (columns c.args.times.now c.args.lens.now c.args.bytes.now
          copies) j) (record { bytes = c.args.received.now; time = c.args.time })) c.loop-i.i c.args.count
          (not_same (columns c.args.times.now c.args.lens.now c.args.bytes.now copies) (c.loop-i.i - 1)
          (record { bytes = c.args.received.now; time = c.args.time }) (sym c.holds.ensures ∙ c.if-holds.false))
          (c.loop-i.invariant.none copies);
    }

pub returns : goal.returns
returns c copies =
    none_found (columns c.args.times.now c.args.lens.now c.args.bytes.now copies) c.args.gone c.args.count
    (record { bytes = c.args.received.now; time = c.args.time })
    (λ j g k. c.loop-i.invariant.none copies j (omega arith) k)

pub loop-i-init : goal.loop-i-init
loop-i-init c = record { above = omega arith; bounded = omega arith; none = λ copies j h k. absurd (omega arith) }
