-- `text_collect::formats::put_answer` meets its contract: what is sent has no more bytes than its array.
use mathlib.Core.Path.{◌≡◌, ap, ◌∙◌}
use mathlib.Core.List.{List}
use Prim.Native.Nat.{ℕ, ◌-◌, ◌≤◌}
use native.Mathlib.Omega.{arith}
use lib.ListN.{length, take, replicate}
use Rattle.radio_telegram.specs.Output.{Result}
use Rattle.radio_telegram.proofs.Frames.{written-length}
use Rattle.collector_model.specs.Answer.{shown_of}
use Rattle.collector_state.specs.Admission.{relayed_for}
use Rattle.base_buffers.proofs.Stores.{loosened, if_fits}
use Rattle.collector_state.proofs.Sending.{relayed_fits}
use Rattle.text_collect.proofs.Taking.{sent_front}
use Rattle.text_collect.proofs.formats.put_answer.Goals as goal
use Rattle.text_collect.proofs.formats.put_answer.Goals.{After-relay_kept-n}

-- what is sent
abbrev sent : After-relay_kept-n → List ℕ
sent c =
    let a = c.args in
    relayed_for a.setting (shown_of a.answer) a.bytes.now

short : (c : After-relay_kept-n) → length (sent c) ≤ 21
short c = relayed_fits _ _ _

front : (c : After-relay_kept-n)
    → (c.relay_kept-n.result ≡ length (sent c))
    × (take c.relay_kept-n.result c.relay_kept-n.new.out ≡ sent c)
front c = sent_front (sent c) (replicate 21 0) c.relay_kept-n.ensures

full : (c : After-relay_kept-n) → length c.relay_kept-n.new.out ≡ 21
full c =
    ap (λ (r : Result). length r.output) c.relay_kept-n.ensures
    ∙ written-length (sent c) (replicate 21 0) (short c)

pub slice_bounds-put_row-end : goal.slice_bounds-put_row-end
slice_bounds-put_row-end c =
    let k = (goal.at.slice_bounds-put_row-end c).After-relay_kept-n in
    omega (arith, (front k).0, short k, full k)

pub returns : goal.returns
returns c =
    let k = (goal.at.returns c).After-relay_kept-n in
    let z : c.relay_kept-n.result - 0 ≡ c.relay_kept-n.result = omega arith in
    let pre = c.requires in
    let fits = if_fits (omega (arith, pre.0, pre.1, pre.2, (front k).0, short k)) c.put_row.ensures in
    loosened (rw (c.row_of.ensures, c.source_of-source.ensures, z, (front k).1) at fits)
    (omega (arith, pre.0, pre.1, short k))
