-- `text_collect::skip_line` meets its contract: in a run that is over a line changes nothing and says nothing.
use mathlib.Core.Path.{refl}
use mathlib.Core.List.{[]}
use native.Mathlib.Omega.{arith}
use Rattle.base_buffers.specs.Printed.{Printed}
use Rattle.text_program.specs.Collect.{over}
use Rattle.text_collect.proofs.Taking.{none_taken, no_line, one_line}
use Rattle.text_collect.proofs.skip_line.Goals as goal

pub returns-then-end-n : goal.returns-then-end-n
returns-then-end-n c out =
    let input = c.args.input.now in
    none_taken input out c.requires c.nothing.ensures
    (λ _. no_line input c.find-n.ensures.0 c.if-end-n.true)

pub returns : goal.returns
returns c out =
    let input = c.args.input.now in
    let w : Printed out 0 [] 0 out 0 = record { bytes = refl; next = refl; short = omega arith } in
    record {
      within = omega arith;
      fed = rw c.requires (one_line over input c.find-n.ensures.0 c.if-end-n.false w (omega arith));
      rest = λ e. absurd (omega arith);
    }
