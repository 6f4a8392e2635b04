-- `text_collect::first_line` meets its contract: without a whole line, or where a row might not fit, nothing is taken; else one line.
use native.Mathlib.Omega.{arith}
use Rattle.text_program.specs.Collect.{starting}
use Rattle.text_collect.proofs.Taking.{none_taken, no_line, one_line}
use Rattle.text_collect.proofs.first_line.Goals as goal

pub returns-then-end-n : goal.returns-then-end-n
returns-then-end-n c =
    let input = c.args.input.now in
    none_taken input c.args.out.now c.start.ensures c.nothing.ensures
    (λ _. no_line input c.find-n.ensures.0 c.if-end-n.true)

pub returns-then-out-lt-LONGEST : goal.returns-then-out-lt-LONGEST
returns-then-out-lt-LONGEST c =
    none_taken c.args.input.now c.args.out.now c.start-then-out-lt-LONGEST.ensures
    c.nothing-then-out-lt-LONGEST.ensures (λ h. absurd (omega arith))

pub returns : goal.returns
returns c =
    let input = c.args.input.now in
    let k = rw c.parse_setting-setting.ensures at c.put_first-written.ensures in
    record {
      within = omega arith;
      fed =
          rw (c.begin.ensures, c.parse_setting-setting.ensures)
          (one_line starting input c.find-n.ensures.0 (omega arith) k (omega arith));
      rest = λ e. absurd (omega arith);
    }
