-- `journal_batch::fill` meets its contract: each return is one case of `filled_of`.
use mathlib.Core.Path.{ap, ◌∙◌}
use mathlib.Core.List.{List}
use Prim.Native.Nat.{ℕ}
use Rattle.journal_batch.specs.Batch.{batch_put_of}
use Rattle.journal_batch.proofs.Cases.{fill_none, fill_blank, fill_behind}
use Rattle.journal_batch.proofs.fill.Goals as goal

pub returns-then-times-eq0 : goal.returns-then-times-eq0
returns-then-times-eq0 c =
    let a = c.args in
    fill_none a.count a.times.now a.records.now a.last.now c.if-times-eq0.true

pub returns-then-count-eq0 : goal.returns-then-count-eq0
returns-then-count-eq0 c =
    let a = c.args in
    c.put.ensures ∙ ap (λ (b : List ℕ). batch_put_of b a.count a.times.now a.records.now) c.requires
    ∙ fill_blank a.count a.times.now a.records.now a.last.now c.if-times-eq0.false c.if-count-eq0.true

pub returns : goal.returns
returns c =
    let a = c.args in
    c.put-2.ensures ∙ fill_behind a.count a.times.now a.records.now a.last.now c.if-times-eq0.false c.if-count-eq0.false
