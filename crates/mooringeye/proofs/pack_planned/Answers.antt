-- `mooringeye::pack_planned` meets its contract: each arm packs what `answer_of` says of it.
use mathlib.Core.Path.{◌∙◌, ap, sym}
use Prim.Native.Nat.{ℕ}
use Rattle.plan_slots.specs.Plan.{plan, answer_of}
use Rattle.mooringeye.specs.Packed.{plan_answer, packed}
use Rattle.mooringeye.proofs.pack_planned.Goals as goal

pub returns-in-Ok : goal.returns-in-Ok
returns-in-Ok c = c.pack.ensures ∙ ap packed (ap answer_of (sym c.in-Ok.is))

pub returns-in-Err : goal.returns-in-Err
returns-in-Err c =
    c.pack-in-Err.ensures
    ∙ ap (λ (n : ℕ). packed (plan_answer n (plan 0 0 0))) c.number.ensures
    ∙ ap packed (ap answer_of (sym c.in-Err.is))
