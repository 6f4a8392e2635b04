-- `text_collect::put_first` meets its contract: a level says nothing, any other first line is BAD.
use mathlib.Core.Path.{refl}
use native.Mathlib.Omega.{arith}
use Rattle.base_buffers.proofs.Stores.{loosened, if_fits}
use Rattle.text_collect.proofs.put_first.Goals as goal

pub returns-in-Some : goal.returns-in-Some
returns-in-Some c = rw c.in-Some.is (record { bytes = refl; next = refl; short = omega arith })

pub returns-in-None : goal.returns-in-None
returns-in-None c =
    rw c.in-None.is
    (loosened (if_fits (omega arith) c.put_bad.ensures) (omega arith))
