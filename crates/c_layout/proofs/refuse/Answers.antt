-- `c_layout::refuse` meets its contract: the position is written beside 12 alone.
use mathlib.Core.Path.{◌≡◌, sym, ◌∙◌}
use Rattle.base_refusal.specs.Number.{number_of}
use Rattle.base_refusal.specs.declared.Refusal.TheVariants.{Mismatch}
use Rattle.c_layout.proofs.Lent.{mismatch_is, mismatch-not}
use Rattle.c_layout.proofs.refuse.Lts as lts
use Rattle.c_layout.proofs.refuse.Reads as reads
use Rattle.c_layout.proofs.refuse.Tie as tie
use Rattle.c_layout.proofs.refuse.Goals as goal

-- states on the way
abbrev After-number : Type 0
After-number = lts.After-number2 tie.the-claims reads.Pre reads.Post

-- the number is 12 just where the code finds it so
module _ (c : After-number) where
  told : number_of c.args.why ≡ number_of Mismatch → c.number-number.result ≡ c.number.result
  told e = c.number-number.ensures ∙ e ∙ sym c.number.ensures

  back : c.number-number.result ≡ c.number.result → number_of c.args.why ≡ number_of Mismatch
  back e = sym c.number-number.ensures ∙ e ∙ c.number.ensures

pub returns-then-number : goal.returns-then-number
returns-then-number c =
    let a = c.args in
    (c.number-number.ensures, mismatch_is (number_of a.why) a.at a.position.now (back c.before c.if-number.true))

pub returns : goal.returns
returns c =
    let a = c.args in (
      c.number-number.ensures,
      mismatch-not (number_of a.why) a.at a.position.now (λ e. c.if-number.false (told c.before e)),
    )
