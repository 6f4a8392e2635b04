-- `collector_checkpoint::is_readable` meets its contract.
use mathlib.Core.Path.{ap, ap₂}
use mathlib.Core.Bool.{◌&&◌}
use Prim.Native.Nat.{ℕ}
use borrow.Author.Tests.{eq-eqb, ne_eqb}
use lib.Dec.{leb}
use lib.ListN.{length}
use Rattle.radio_telegram.specs.Repeater.{max_setting}
use Rattle.collector_model.specs.View.{capacity}
use Rattle.collector_model.specs.Image.{image_length}
use Rattle.collector_checkpoint.proofs.is_readable.Goals as goal

pub returns-then-image-ne-IMAGE_LENGTH : goal.returns-then-image-ne-IMAGE_LENGTH
returns-then-image-ne-IMAGE_LENGTH c = rw (ne_eqb
    (length c.args.image.now) image_length c.if-image-ne-IMAGE_LENGTH.true)

pub returns : goal.returns
returns c =
    let image = c.args.image.now in
    rw (eq-eqb (length image) image_length c.if-image-ne-IMAGE_LENGTH.false)
    (ap₂ ◌&&◌ (ap (λ (n : ℕ). leb n capacity) c.count_in.ensures)
    (ap (λ (n : ℕ). leb n max_setting) c.second_in-setting.ensures))
