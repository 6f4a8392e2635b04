-- `journal_state::lawful::is_file` meets its contract: each return is one case of `is_file`.
use mathlib.Core.Path.{◌∙◌}
use native.Mathlib.Omega.{arith}
use mathlib.Core.List.{[], ◌∷◌}
use Rattle.journal_state.specs.State.{Kept, kept}
use Rattle.journal_state.proofs.Laws.{file-early, file_many, file_last}
use Rattle.journal_state.proofs.lawful.is_file.Lts as lts
use Rattle.journal_state.proofs.lawful.is_file.Reads as reads
use Rattle.journal_state.proofs.lawful.is_file.Tie as tie
use Rattle.journal_state.proofs.lawful.is_file.Goals as goal

-- states on the way
abbrev Start : Type 0
Start = lts.Start tie.the-claims reads.Pre reads.Post

abbrev said : Start → Kept
said s = kept (0 ∷ s.args.began ∷ s.args.had ∷ []) [] s.args.last.now [] []

pub returns-then-counted-began : goal.returns-then-counted-began
returns-then-counted-began c = file-early (said c.before.before.before) c.args.counted c.if-counted-began.true

pub returns-then-had : goal.returns-then-had
returns-then-had c =
    let c_back3 = c.before.before.before in
    file_many (said c_back3.before) c.args.counted c.if-counted-began.false (omega (arith, c.if-had.true))

pub returns-then-had-since : goal.returns-then-had-since
returns-then-had-since c =
    let c_back3 = c.before.before.before in
    file_many (said c_back3.before.before) c.args.counted c.if-counted-began.false
    (omega (arith, c.if-had.false, c.if-had-since.true))

pub returns : goal.returns
returns c =
    let c_back3 = c.before.before.before in
    c.is_last.ensures ∙ file_last (said c_back3.before.before.before) c.args.counted c.if-counted-began.false (omega
    (arith, c.if-had.false, c.if-had-since.false))

pub overflow_add-had : goal.overflow_add-had
overflow_add-had c = omega (arith, c.if-had.false, c.if-had-since.false)
