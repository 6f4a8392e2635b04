-- `text_collect::Session::put_end` meets its contract, stage by stage.
use Prim.Native.Nat.{◌+◌}
use lib.Dec.{leb}
use lib.ListN.{length}
use Rattle.collector_state.specs.Collector.{view_of}
use Rattle.text_collect.proofs.Taking.{silent}
use Rattle.text_collect.proofs.Session.put_end.Goals as goal

pub returns-in-Starting : goal.returns-in-Starting
returns-in-Starting c =
    rw c.in-Starting.is c.put_bad.ensures

pub returns-in-Running : goal.returns-in-Running
unfolding view_of
returns-in-Running c =
    rw c.in-Running.is c.put_totals.ensures

pub returns-in-Over : goal.returns-in-Over
returns-in-Over c =
    let a = c.args in
    rw c.in-Over.is (silent (leb (a.at + 0) (length a.out.now)) _ _)
