-- `text_print::finish` meets its contract: nothing is kept, or what is kept is one more line.
use native.Mathlib.Omega.{arith}
use lib.ListN.{length, length-set}
use Rattle.text_collect.specs.Session.{phase_of}
use Rattle.text_print.proofs.Finishing.{no_line-kept, line_kept, with_newline}
use Rattle.text_print.proofs.finish.Goals as goal

pub returns-then-n-eq0 : goal.returns-then-n-eq0
returns-then-n-eq0 c =
    no_line-kept (phase_of c.args.s) c.args.line.now
    c.if-n-eq0.true c.requires.2 c.put_end.ensures

pub slice_bounds-lines-end : goal.slice_bounds-lines-end
slice_bounds-lines-end c =
    let line = c.args.line.now in
    omega (
      arith,
      c.requires.0,
      length-set c.copy.new.out (length line) 10,
      c.copy.auto.out,
    )

pub returns : goal.returns
returns c =
    let line = c.args.line.now in
    let whole =
    rw (with_newline line _ c.copy.new.out (omega (arith, c.requires.0)) c.copy.ensures.1) at
    c.lines-p.ensures in
    line_kept (phase_of c.args.s) line c.lines-p.result c.requires.1
    c.if-n-eq0.false c.requires.2 whole c.put_end-2.ensures
