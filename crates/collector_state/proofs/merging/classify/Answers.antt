-- `collector_state::merging::classify` meets its contract: each return is one case of `answer_for`, whatever the counts of the entries are.
use Rattle.std.proofs.Common.{sym, ◌∙◌}
use borrow.Author.Tests.{le-leb, lt-leb}
use Rattle.collector_state.proofs.Arrays.{left-length}
use Rattle.collector_state.proofs.Classifying.{judged-copy, judged-loose, judged-kept}
use Rattle.collector_state.proofs.merging.classify.Goals as goal

pub returns-in-Some : goal.returns-in-Some
returns-in-Some c copies = judged-copy _ _ (sym c.in-Some.is ∙ c.find.ensures copies)

pub returns-then-left-ge-CAPACITY : goal.returns-then-left-ge-CAPACITY
returns-then-left-ge-CAPACITY c copies =
    judged-loose _ _ (sym c.in_default.is ∙ c.find.ensures copies)
    (rw left-length (le-leb _ _ c.if-left-ge-CAPACITY.true))

pub returns : goal.returns
returns c copies =
    judged-kept _ _ (sym c.in_default.is ∙ c.find.ensures copies)
    (rw left-length (lt-leb _ _ c.if-left-ge-CAPACITY.false))
