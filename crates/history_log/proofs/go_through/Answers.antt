-- `history_log::go_through` meets its contract: the log on a fresh collector, and the image of where it leads.
use Rattle.std.specs.Prelude.{cond, ◌&&◌, ◌++◌, drop}
use mathlib.Core.Path.{ap, ◌∙◌}
use Rattle.base_lists.proofs.Choice.{both}
use Rattle.collector_model.specs.Acceptable.{acceptable}
use Rattle.collector_model.specs.Image.{image_length, image_of}
use Rattle.c_collector.specs.State.{Arrays, state_at}
use Rattle.history_log.proofs.Keeping.{parked_log}
use Rattle.history_log.proofs.go_through.Goals as goal

pub park-requires : goal.park-requires
park-requires c = (
  c.requires.1,
  λ e.
      ap (λ (a : Arrays). acceptable (state_at a)) c.held.ensures
      ∙ c.take_log-p.ensures.accepted (both c.args.write c.take_log-p.result.fits e).1,
)

pub returns : goal.returns
returns c =
    let a = c.args in
    let l = c.take_log-p.ensures in
    record {
      passed = l.passed;
      parked =
          c.park.ensures
          ∙ ap (λ (s : Arrays).
          cond (a.write && c.take_log-p.result.fits) (image_of (state_at s) ++ drop image_length a.image.now)
          a.image.now)
          c.held.ensures
          ∙ parked_log a.write c.take_log-p.result.fits a.image.now l.left;
    }
