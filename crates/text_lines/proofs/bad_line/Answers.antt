-- `text_lines::bad_line` meets its contract: the newline is the first one.
use mathlib.Core.Path.{refl}
use Rattle.text_lines.proofs.Starts.{found_whole, not-ended, ended-bad}
use Rattle.text_lines.proofs.bad_line.Goals as goal

pub returns-then-end-n : goal.returns-then-end-n
returns-then-end-n c = (not-ended _ (found_whole _ _ c.find-n.ensures.0) c.if-end-n.true, refl)

pub returns : goal.returns
returns c = (ended-bad _ (found_whole _ _ c.find-n.ensures.0) c.if-end-n.false, refl)
