-- `plan_slots::search` meets its contract: the plans are those with each first slot, in order.
use borrow.Author.Rules.{rules}
use Rattle.plan_slots.specs.Search.{plans_from}
use Rattle.plan_slots.proofs.Split.{plans-split}
use Rattle.plan_slots.proofs.Lookups.{is_counted}
use Rattle.plan_slots.proofs.search.Goals as goal

pub search_slots-requires : goal.search_slots-requires
search_slots-requires c =
    record { callable = search rules; counts = λ slot k n s b e. (is_counted _ k e).2 }

pub returns : goal.returns
returns c = rw plans-split (c.search_slots.ensures (plans_from c.args.rule c.args.duration) (λ slot k r s b e. e))
