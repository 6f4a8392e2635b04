-- How often a telegram was heard, by the tests that the code makes.
use Prim.Native.Nat.{ℕ, ◌≤◌, ◌<◌}
use native.Mathlib.Omega.{arith}
use mathlib.Core.Path.{◌≡◌, ◌∙◌, ap}
use mathlib.Core.Bool.{true, false}
use lib.ListN.{get_or}
use borrow.Author.Tests.{le-leb, lt-leb}
use Rattle.base_lists.proofs.Tests.{get_d_map}
use Rattle.base_refusal.specs.Number.{number_of}
use Rattle.base_refusal.specs.declared.Refusal.TheVariants.{Argument, NotAccepted}
use Rattle.collector_model.specs.View.{Entry, capacity}
use Rattle.collector_model.specs.Acceptable.{acceptable}
use Rattle.collector_model.specs.Heard.{copies_in, copies_of}
use Rattle.collector_state.specs.declared.Collector.{Collector}
use Rattle.collector_state.specs.Collector.{columns_of, entries_at, view_of}
use Rattle.collector_state.proofs.Arrays.{no_entry, entries-length, entry_get}
use Rattle.collector_state.proofs.Accepting.{accepted_few}

module _ (c : Collector) (k : ℕ) where
  pub heard_unacceptable : acceptable (view_of c) ≡ false
      → record { number = number_of NotAccepted; copies = 0 } ≡ copies_of (view_of c) k
  unfolding copies_of
  heard_unacceptable bad = rw bad

  module _ (ok : acceptable (view_of c) ≡ true) where
    pub heard_few : c.summary.count ≤ capacity
    unfolding view_of
    heard_few = omega (arith, accepted_few (view_of c) ok, entries-length (columns_of c) c.summary.count)

    pub heard-closed : c.summary.count ≤ k
        → record { number = number_of Argument; copies = 0 } ≡ copies_of (view_of c) k
    unfolding copies_of view_of
    heard-closed h = rw (ok, entries-length (columns_of c) c.summary.count, le-leb c.summary.count k h)

    counts : k < c.summary.count
        → get_or (copies_in (entries_at (columns_of c) c.summary.count)) k 0 ≡ get_or c.copies k 0
    counts h =
        get_d_map (λ (e : Entry). e.copies)
        (entries_at (columns_of c) c.summary.count) k no_entry 0 (rw entries-length h)
        ∙ ap (λ (e : Entry). e.copies) (entry_get (columns_of c) c.summary.count k h)

    pub heard_open : k < c.summary.count
        → record { number = 0; copies = get_or c.copies k 0 } ≡ copies_of (view_of c) k
    unfolding copies_of view_of
    heard_open h = rw (ok, entries-length (columns_of c) c.summary.count, lt-leb c.summary.count k h, counts h)
