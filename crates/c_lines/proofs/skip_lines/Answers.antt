-- The goals that a search does not find.
use mathlib.Core.Path.{refl, ◌∙◌}
use native.Mathlib.Omega.{arith}
use native.Mathlib.Nat.{sub_self, zero-add}
use lib.ListN.{drop, length-drop, length-replicate}
use Rattle.text_program.proofs.Segments.{open_whole}
use Rattle.text_program.proofs.Takes.{found, fed_none, fed_next}
use Rattle.text_collect.specs.Rows.{line_ticks}
use Rattle.text_collect.proofs.Storing.{ticks_bounded, tick}
use Rattle.c_lines.proofs.skip_lines.Goals as goal
use Rattle.c_lines.proofs.skip_lines.Goals.{else-loop-left-test, then-loop-left-test+then-end-n}

pub loop-left-init : goal.loop-left-init
loop-left-init c = record {
  inside = omega arith;
  few = omega arith;
  ticks = rw (sub_self c.args.most) (fed_none line_ticks ticks_bounded _ _);
}

pub loop-left-preserved : goal.loop-left-preserved
loop-left-preserved c =
    let a = c.args in
    let input = a.input.now in
    let i = c.loop-left.invariant in
    let e = found input c.loop-left.at c.find-n.ensures.0 in
    record {
      inside = omega arith;
      few = omega arith;
      ticks =
          fed_next line_ticks ticks_bounded input c.loop-left.at
          c.find-n.result i.ticks e (omega arith) i.inside
          (tick a.most c.loop-left.left i.few (omega arith)) (simp length-replicate (omega (arith, i.few)));
    }

pub returns : goal.returns
returns c =
    let input = c.args.input.now in
    let at = c.loop-left.at in
    let i = c.loop-left.invariant in
    record {
      long = refl;
      skipped = record {
        within = i.inside;
        whole = i.ticks.state;
        ticks = i.ticks.output.next ∙ zero-add _;
        few = omega arith;
        -- where it stopped before it had passed over `most`, no newline was found
        rest = λ x.
            elim c.loop-left-test.branch [
              | else-loop-left-test w ↦ absurd (omega (arith, w.loop-left-test.false))
              | then-loop-left-test+then-end-n w ↦
                  let e = found input at w.find-n.ensures.0 in
                  open_whole (drop at input) (omega (arith, w.if-end-n.true, length-drop at input))
            ];
      };
    }
