-- `text_lines::read_time` meets its contract: the front of the text tells its time.
use Rattle.std.proofs.Common.{◌≡◌, ◌∙◌}
use Rattle.text_lines.proofs.Long.{front_of_text}
use Rattle.text_lines.proofs.read_time.Goals as goal

pub returns : goal.returns
returns c = c.read_front.ensures ∙ front_of_text c.args.text.now c.min.ensures
