-- `history_replay::value_calls::burst_in` meets its contract: by what `burst_within` ensures.
use mathlib.Core.Path.{◌≡◌, ◌∙◌}
use Prim.Native.Nat.{min}
use native.Mathlib.Omega.{arith}
use Rattle.collector_model.specs.Burst.{burst_of}
use Rattle.collector_model.specs.History.{Burst}
use Rattle.collector_state.specs.Collector.{view_of}
use Rattle.collector_burst.specs.Records.{listed}
use Rattle.c_collector.specs.State.{arrays_of}
use Rattle.history_calls.specs.Elements.{arrays_after}
use Rattle.history_calls.proofs.Elements.{bursted_value}
use Rattle.history_replay.specs.Calls.{call_setting}
use Rattle.history_replay.proofs.Filling.{receptions_are, places_are}
use Rattle.history_replay.proofs.value_calls.burst_in.Goals as goal

pub returns : goal.returns
returns c =
    let a = c.args in
    let r = a.r.now in
    let n : min c.min-n.result listed ≡ c.min-n.result = omega (arith, c.min-n.ensures) in
    let m : min a.m listed ≡ a.m = omega (arith, c.requires.1) in
    let is = rw (n, m) at c.burst_within.ensures.front in
    let rs =
    receptions_are a.bytes.now _ c.min-n.result
    c.min-n.ensures c.receptions_in-records.ensures in
    let ps = places_are r _ _ a.m c.requires.1 c.places-places.ensures c.place_in.ensures in
    record {
      result = is.result ∙ λ i. burst_of (call_setting r) (view_of a.c) (rs i) (ps i);
      elements = bursted_value is ∙ λ i. arrays_after (arrays_of a.c) (Burst (call_setting r) (rs i) (ps i));
    }

pub receptions_in-records-requires : goal.receptions_in-records-requires
receptions_in-records-requires c = (omega (arith, c.min-n.ensures), omega (arith, c.min-n.ensures))
