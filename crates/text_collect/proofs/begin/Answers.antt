-- `text_collect::begin` meets its contract, from what a fresh collector says.
use mathlib.Core.Path.{ap}
use Rattle.text_collect.specs.Session.{running_at}
use Rattle.text_collect.proofs.begin.Goals as goal

pub returns-in-Some : goal.returns-in-Some
returns-in-Some c =
    rw c.in-Some.is (ap (running_at c.in-Some.n) c.fresh-c.ensures.state)
