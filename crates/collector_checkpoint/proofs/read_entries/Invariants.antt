-- `collector_checkpoint::read_entries` meets its contract. The invariant: the first i entries are read; the measure: the entries left.
use Prim.Native.Nat.{◌-◌}
use Rattle.collector_state.specs.Collector.{columns}
use Rattle.collector_checkpoint.proofs.Reading.{Reading}
use Rattle.collector_checkpoint.proofs.read_entries.Given as goal

abbrev pub invariant-loop-i : goal.invariant-loop-i
invariant-loop-i l =
    Reading l.image l.count (columns l.initial.times l.initial.lens l.initial.bytes l.initial.copies) l.i
    (columns l.times l.lens l.bytes l.copies)

abbrev pub decreases-loop-i : goal.decreases-loop-i
decreases-loop-i l = l.count - l.i
