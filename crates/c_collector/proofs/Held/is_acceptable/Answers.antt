-- `c_collector::Held::is_acceptable` meets its contract.
use Rattle.c_collector.proofs.Held.is_acceptable.Goals as goal

pub returns : goal.returns
returns c = c.is_acceptable.ensures c.args.self.copies.now
