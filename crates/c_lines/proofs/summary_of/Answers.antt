-- `c_lines::summary_of` meets its contract: what is known of each number by its type.
use mathlib.Core.Path.{subst}
use Prim.Native.Nat.{◌^◌, ◌<◌}
use native.Mathlib.Omega.{arith}
use borrow.Author.Rules.{rules}
use Rattle.collector_model.specs.Exact.{Fits}
use Rattle.collector_state.specs.declared.Summary.{Summary}
use Rattle.collector_state.specs.Collector.{columns, view_in, view_of}
use Rattle.collector_state.specs.Admission.{collector_of}
use Rattle.collector_state.proofs.Counts.{state-fits}
use Rattle.c_lines.proofs.summary_of.Goals as goal
use Rattle.c_lines.proofs.summary_of.Goals.{After-summary_in}

latest : (c : After-summary_in) → c.summary_in.result.latest < 2 ^ 64
latest c = search rules

received : (c : After-summary_in) → c.summary_in.result.totals.received < 2 ^ 64
received c = search rules

pub returns : goal.returns
unfolding view_of
returns c =
    let k = (goal.at.returns c).After-summary_in in (
      c.summary_in.ensures.0,
      λ times lengths bytes.
          let copies = c.args.copies.now in
          let a = columns times lengths bytes copies in
          subst (λ (s : Summary). Fits (view_in a s)) c.summary_in.ensures.0
          (state-fits (collector_of a c.summary_in.result) (latest k) (received k)
          (λ i. omega (arith, c.type_inv.copies i))),
    )
