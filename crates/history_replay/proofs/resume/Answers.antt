-- `history_replay::resume` meets its contract: all calls, or none where the output is too short.
use mathlib.Core.Path.{refl, sym, ◌∙◌}
use mathlib.Core.List.{[]}
use Prim.Native.Nat.{◌<◌}
use native.Mathlib.Omega.{arith}
use lib.ListN.{length}
use borrow.Author.Tests.{leb-true, leb-false}
use Rattle.c_collector.proofs.State.{same_loans}
use Rattle.history_replay_model.specs.Replay.{size_of_all}
use Rattle.history_replay.specs.Calls.{calls_in}
use Rattle.history_replay.proofs.Records.{sizes_lent}
use Rattle.history_replay.proofs.Running.{refused}
use Rattle.history_replay.proofs.resume.Goals as goal

pub returns-then-not-fits : goal.returns-then-not-fits
returns-then-not-fits c =
    let a = c.args in
    let short : length a.out.now < size_of_all (calls_in a.lent.now a.calls.now) =
    omega (
      arith,
      sizes_lent a.lent.now a.calls.now,
      leb-false (size_of_all (calls_in [] a.calls.now)) (length a.out.now) (sym
          c.fits.ensures ∙ c.if-not-fits.true),
    )
    in
    record { resumes = refused short refl; same_loans = same_loans _ }

pub all-requires : goal.all-requires
all-requires c =
    leb-true _ _ (sym c.fits.ensures ∙ c.if-not-fits.false)

pub returns-clause-resumes : goal.returns-clause-resumes
returns-clause-resumes c = c.all.ensures.resumes
