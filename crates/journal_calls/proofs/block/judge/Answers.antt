-- `journal_calls::block::judge` meets its contract: each return is one case of `judgement_of`.
use mathlib.Core.Path.{◌≡◌, sym, ◌∙◌}
use mathlib.Core.Bool.{false}
use Rattle.journal_calls.specs.Block.{is_cut_copy_of}
use Rattle.journal_calls.proofs.Judged as judged
use Rattle.journal_calls.proofs.block.judge.Lts as lts
use Rattle.journal_calls.proofs.block.judge.Reads as reads
use Rattle.journal_calls.proofs.block.judge.Tie as tie
use Rattle.journal_calls.proofs.block.judge.Goals as goal

-- states on the way
abbrev Else-is_copy : Type 0
Else-is_copy = lts.Else1 tie.the-claims reads.Pre reads.Post

pub returns-then-equal : goal.returns-then-equal
returns-then-equal c =
    let a = c.args in
    judged.same a.last.now a.rows a.block.now (sym c.is_copy.ensures ∙ c.if-is_copy.true) (sym
    c.equal.ensures ∙ c.if-equal.true)

pub returns-then-is_copy : goal.returns-then-is_copy
returns-then-is_copy c =
    let a = c.args in
    judged.longer a.last.now a.rows a.block.now (sym c.is_copy.ensures ∙ c.if-is_copy.true) (sym
    c.equal.ensures ∙ c.if-equal.false)

none : (c : Else-is_copy) → is_cut_copy_of c.args.last.now c.args.rows c.args.block.now ≡ false
none c = sym c.is_copy.ensures ∙ c.if-is_copy.false

pub returns-then-sound-ne0 : goal.returns-then-sound-ne0
returns-then-sound-ne0 c =
    let a = c.args in
    judged.other_sound a.last.now a.rows a.block.now (none c.before.before.before) (λ z. c.if-sound-ne0.true
    (c.sound.ensures ∙ z))

pub returns-then-is_blank : goal.returns-then-is_blank
returns-then-is_blank c =
    let c_back3 = c.before.before.before in
    let a = c.args in
    judged.other_blank a.last.now a.rows a.block.now (none c_back3.before.before) (sym c.sound.ensures
    ∙ c.if-sound-ne0.false) (sym c.is_blank.ensures ∙ c.if-is_blank.true)

pub returns : goal.returns
returns c =
    let c_back3 = c.before.before.before in
    let a = c.args in
    judged.torn a.last.now a.rows a.block.now (none c_back3.before.before) (sym c.sound.ensures
    ∙ c.if-sound-ne0.false) (sym c.is_blank.ensures ∙ c.if-is_blank.false)
