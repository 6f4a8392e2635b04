-- `plan_slots::search_from` meets its contract: the plans are those with each second slot, in order.
use borrow.Author.Rules.{rules}
use mathlib.Core.Path.{◌∙◌, sym}
use Rattle.plan_slots.specs.Search.{plans_from, plans_after}
use Rattle.plan_slots.proofs.Lookups.{is_counted}
use Rattle.plan_slots.proofs.search_from.Goals as goal

pub search_pairs-requires : goal.search_pairs-requires
search_pairs-requires c = sym c.is_of_two.ensures ∙ c.if-is_of_two.true

pub returns-then-is_of_two : goal.returns-then-is_of_two
returns-then-is_of_two c = c.search_pairs.ensures

pub search_slots-requires : goal.search_slots-requires
search_slots-requires c =
    record { callable = search rules; counts = λ slot k n s b e. (is_counted _ k e).2 }

pub returns : goal.returns
unfolding plans_from
returns c =
    let a = c.args in
    c.search_slots.ensures (plans_after a.rule a.duration a.first) (λ slot k r s b e. e)
