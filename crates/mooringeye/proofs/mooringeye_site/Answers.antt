-- `mooringeye::mooringeye_site` meets its contract: the verdict is packed; a repeater that is named has a small index.
use mathlib.Core.Path.{◌∙◌, ap, sym, subst}
use mathlib.Core.List.{List}
use Prim.Native.Nat.{ℕ, ◌/◌, ◌%◌, zero-le}
use lib.Dec.{eqb}
use lib.ListN.{length}
use Rattle.base_lists.proofs.Tests.{branch}
use Rattle.plan_site.specs.Site.{verdict_answer}
use Rattle.plan_site.specs.Bytes.{size, assignments_in, site_in}
use Rattle.plan_site.proofs.Named.{Small, site_small}
use Rattle.mooringeye.specs.Packed.{packed_site}
use Rattle.mooringeye.proofs.mooringeye_site.Goals as goal

small : (s : List ℕ) → Small (site_in s)
small s =
    branch Small (eqb (length s % size) 0) (λ e. site_small (length s / size) (assignments_in s))
    (λ e. record { repeater = zero-le; other = zero-le })

pub returns-in-Ok : goal.returns-in-Ok
returns-in-Ok c = ap packed_site (ap verdict_answer (sym c.in-Ok.is) ∙ c.check_bytes.ensures)

pub pack_rejection-requires : goal.pack_rejection-requires
pack_rejection-requires c =
    let s = subst Small (sym (ap verdict_answer (sym c.in-Err.is)
    ∙ c.check_bytes.ensures)) (small c.args.repeaters.now) in
    (s.repeater, s.other)

pub returns-in-Err : goal.returns-in-Err
returns-in-Err c =
    c.pack_rejection.ensures ∙ ap packed_site (ap verdict_answer (sym c.in-Err.is) ∙ c.check_bytes.ensures)
