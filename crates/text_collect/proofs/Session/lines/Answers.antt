-- `text_collect::Session::lines` meets its contract, stage by stage.
use Rattle.text_collect.proofs.Session.lines.Goals as goal

pub skip_line-requires : goal.skip_line-requires
skip_line-requires c = rw c.in-Over.is

pub returns-in-Starting : goal.returns-in-Starting
returns-in-Starting c =
    rw c.in-Starting.is c.first_line.ensures

pub returns-in-Running : goal.returns-in-Running
returns-in-Running c =
    rw c.in-Running.is c.later_lines.ensures

pub returns-in-Over : goal.returns-in-Over
returns-in-Over c =
    rw c.in-Over.is (c.skip_line.ensures c.args.out.now)
