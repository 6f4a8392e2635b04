-- `collector_state::Lent::change` meets its contract: array by array.
use Rattle.collector_state.proofs.Lent.change.Goals as goal

pub change_times-requires : goal.change_times-requires
change_times-requires c = let p = c.requires in (p.0, λ e. (p.2 e).0)

pub change_copies-requires : goal.change_copies-requires
change_copies-requires c =
    let p = c.requires in
    (p.0, p.1, λ e. (p.2 e).0)

pub returns-clause-changes : goal.returns-clause-changes
returns-clause-changes c = record {
  times = c.change_times.ensures;
  lens = c.change_lens.ensures;
  bytes = c.change_bytes.ensures;
  copies = c.change_copies.ensures;
}
