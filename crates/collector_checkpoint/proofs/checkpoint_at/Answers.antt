-- `collector_checkpoint::checkpoint_at` meets its contract: a case for each answer.
use Rattle.std.specs.Prelude.{Ok}
use mathlib.Core.Path.{◌≡◌, sym, ap, ◌∙◌}
use mathlib.Core.Bool.{true}
use Rattle.collector_model.specs.Acceptable.{acceptable}
use Rattle.collector_model.proofs.Returns.{checkpoint_unacceptable, checkpoint_short, checkpoint_written}
use Rattle.collector_state.specs.Collector.{columns_held, view_in}
use Rattle.collector_checkpoint.specs.Checkpoint.{checkpoint_result}
use Rattle.collector_checkpoint.proofs.Writing.{writable_state}
use Rattle.collector_checkpoint.proofs.checkpoint_at.Goals.{Else-not-is_acceptable}
use Rattle.collector_checkpoint.proofs.checkpoint_at.Goals as goal

passed : (c : Else-not-is_acceptable)
    → acceptable (view_in (columns_held c.args.state) c.args.state.summary) ≡ true
passed c = sym c.is_acceptable.ensures ∙ c.if-not-is_acceptable.false

pub returns-then-not-is_acceptable : goal.returns-then-not-is_acceptable
returns-then-not-is_acceptable c =
    checkpoint_unacceptable _ (sym c.is_acceptable.ensures ∙ c.if-not-is_acceptable.true) _

pub returns-then-out-lt-IMAGE_LENGTH : goal.returns-then-out-lt-IMAGE_LENGTH
returns-then-out-lt-IMAGE_LENGTH c =
    checkpoint_short _ (passed (goal.at.returns-then-out-lt-IMAGE_LENGTH c).Else-not-is_acceptable) _
    c.if-out-lt-IMAGE_LENGTH.true

pub put_image-requires : goal.put_image-requires
put_image-requires c = (
  c.if-out-lt-IMAGE_LENGTH.false,
  writable_state _ _ (passed (goal.at.put_image-requires c).Else-not-is_acceptable),
)

pub returns : goal.returns
returns c =
    ap (checkpoint_result (Ok tt)) c.put_image.ensures
    ∙ checkpoint_written _ (passed (goal.at.returns c).Else-not-is_acceptable) _ c.if-out-lt-IMAGE_LENGTH.false
