-- `text_print::step` meets its contract: it takes all of the buffer at most.
use Rattle.text_print.proofs.step.Goals as goal

pub returns : goal.returns
returns c = rw c.min.ensures at c.take_chunk.ensures
