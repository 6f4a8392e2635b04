-- `journal_recovery::settle` meets its contract: what is found is refused, or mended and swept.
use Prim.Native.Nat.{ℕ}
use native.Mathlib.Omega.{arith}
use mathlib.Core.Path.{◌≡◌, refl, sym, ap, subst, ◌∙◌}
use mathlib.Core.Bool.{false}
use mathlib.Core.List.{List}
use borrow.Author.Tests.{eqb-true, eqb-false}
use lib.Dec.{eqb}
use lib.ListN.{length}
use Rattle.base_lists.proofs.Tests.{by_test}
use Rattle.archive_model.specs.Append.{block_at}
use Rattle.archive_fill.specs.Claims.{with_block}
use Rattle.journal_calls.specs.declared.Judgement.{Judgement}
use Rattle.journal_calls.specs.declared.Judgement.TheVariants.{Same, Longer, Torn, Other}
use Rattle.journal_calls.specs.Block.{judgement_number}
use Rattle.journal_calls.specs.Claims.{mended_by}
use Rattle.journal_recovery.specs.Private.{Sweeps}
use Rattle.journal_recovery.proofs.Settled as settled
use Rattle.journal_recovery.proofs.settle.Goals as goal

-- any other judgement has another number
ours : (j : Judgement) → (j ≡ Other → ⊥) → eqb (judgement_number j) 3 ≡ false
ours Same h = refl
ours Longer h = refl
ours Torn h = refl
ours Other h = absurd (h refl)

pub returns-in-Other : goal.returns-in-Other
returns-in-Other c = λ s says.
    let a = c.args in
    let j = c.find-found.result in
    settled.foreign a.rows a.last.now c.requires.2 s says a.file.now j (c.find-found.ensures.found s says)
    c.find-found.ensures.none a.left.now (ap (λ (x : Judgement). eqb (judgement_number x) 3) c.in-Other.is)

pub mend-requires : goal.mend-requires
mend-requires c = λ torn.
    let n = c.args.rows in
    let found = c.find-found.ensures in
    let room = found.room (ours c.find-found.result c.in_default.not-Other) in
    by_test (eqb n 0)
    (λ t. absurd (omega (arith, ap judgement_number (sym torn ∙ found.none (eqb-true n 0 t)))))
    (λ f. omega (arith, eqb-false n 0 f, room, c.last_used.ensures))

pub sweep-requires : goal.sweep-requires
sweep-requires c =
    let l : length c.mend.new.file ≡ length c.args.file.now = c.mend.auto.file in
    let room = c.find-found.ensures.room (ours c.find-found.result c.in_default.not-Other) in
    (c.requires.0, omega (arith, l, c.requires.1), omega (arith, l, room))

pub returns : goal.returns
returns c = λ s says.
    let a = c.args in
    let n = a.rows in
    let file = a.file.now in
    let j = c.find-found.result in
    let mended = c.mend.ensures ∙ ap (λ (k : ℕ). with_block k (mended_by j a.last.now (block_at k file)) file)
    c.last_used.ensures in
    let sweeps = subst (λ (l : List ℕ). Sweeps n l c.sweep.result c.sweep.new.file) mended c.sweep.ensures in
    settled.settled n a.last.now c.requires.2 s says file j (c.find-found.ensures.found s says)
    c.find-found.ensures.none a.left.now (ours j c.in_default.not-Other) c.sweep.result c.sweep.new.file sweeps
