-- `text_collect::later_lines` meets its contract: the state's parts are the state, and its test is made.
use Rattle.std.proofs.Common.{ℕ, List, subst, sym, rules}
use denote.Laws.{Is}
use denote.Builtin.{u16}
use denote.Array.{Array}
use Rattle.collector_model.specs.Exact.{Fits}
use Rattle.collector_state.specs.Collector.{view_of}
use Rattle.collector_state.proofs.Counts.{same, small, state-fits}
use Rattle.text_collect.proofs.later_lines.Goals as goal
use Rattle.text_collect.proofs.later_lines.Goals.{After-is_acceptable-fit}

-- the numbers of a state have 64 bits by their types, and its counts 16
numbers : (c : After-is_acceptable-fit) → Fits (view_of c.args.c)
numbers c =
    let x = c.args.c in
    let counts = c.well_formed.1.0 in
    state-fits x (search rules) (search rules)
    (small 64 x.copies _ (subst (λ (l : List ℕ). Is (Array u16 64) l counts.0.1.1.1.0)
    (sym (same x.copies)) counts.1.1.1.1.1.0))

pub merge_lines-done-requires : goal.merge_lines-done-requires
unfolding view_of
merge_lines-done-requires c =
    record {
      said = c.is_acceptable-fit.ensures _;
      fits =
          numbers (goal.at.merge_lines-done-requires c).After-is_acceptable-fit;
    }

pub returns : goal.returns
unfolding view_of
returns c = c.merge_lines-done.ensures.ran
