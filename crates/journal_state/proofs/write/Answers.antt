-- `journal_state::write` meets its contract: a case for each answer.
use mathlib.Core.Path.{sym, ap, ◌∙◌}
use mathlib.Core.List.{List}
use Prim.Native.Nat.{ℕ}
use Rattle.journal_state.specs.State.{kept}
use Rattle.journal_state.specs.Calls.{Written}
use Rattle.journal_state.proofs.Files.{write_not, write_done}
use Rattle.journal_state.proofs.write.Goals as goal

-- the answer with this output
abbrev done : List ℕ → Written
done output = record { number = 0; output = output }

pub returns-then-not-is_lawful : goal.returns-then-not-is_lawful
returns-then-not-is_lawful c =
    let a = c.args in
    let k = kept a.numbers.now a.name.now a.last.now a.image.now a.tail.now in
    write_not k a.out.now (sym c.is_lawful.ensures ∙ c.if-not-is_lawful.true)

pub returns : goal.returns
returns c =
    let a = c.args in
    let k = kept a.numbers.now a.name.now a.last.now a.image.now a.tail.now in
    ap done c.put_state.ensures ∙ write_done k a.out.now (sym c.is_lawful.ensures ∙ c.if-not-is_lawful.false)
