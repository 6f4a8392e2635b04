-- `journal_batch::commit` meets its contract: each return is one case of `commit_of`.
use Prim.Native.Nat.{ℕ, ◌/◌}
use mathlib.Core.Path.{◌≡◌, refl, sym, ap, ◌∙◌}
use mathlib.Core.Bool.{cond, ◌&&◌}
use mathlib.Core.List.{List}
use lib.Dec.{leb, ltb}
use lib.ListN.{length, replicate}
use Rattle.std.proofs.lemmas.Result.{err_from_is_err_and}
use Rattle.base_refusal.specs.Number.{number_of, outcome_number}
use Rattle.base_refusal.proofs.Numbers.{refused-number}
use Rattle.block_layout.specs.Block.{cells_per_block}
use Rattle.archive_fill.specs.Claims.{with_block}
use Rattle.journal_model.specs.Disk.{whole_blocks}
use Rattle.journal_calls.specs.Rows.{Compared}
use Rattle.journal_state.specs.State.{kept, state_length, state_bytes}
use Rattle.journal_state.specs.Lawful.{is_lawful_state}
use Rattle.journal_batch.specs.Batch.{Filled, Commit}
use Rattle.journal_batch.proofs.Cases as cases
use Rattle.journal_batch.proofs.commit.Goals as goal

abbrev beside : List ℕ → List ℕ → List ℕ → ℕ → Commit
beside last file state n = record { number = n; last = last; archive = file; state = state }

-- what is read of the calls' answers
compared-number : {x y : Compared} → x ≡ y → x.number ≡ y.number
compared-number e = ap (λ (r : Compared). r.number) e

agreed-is : {x y : Compared} → x ≡ y → x.agreed ≡ y.agreed
agreed-is e = ap (λ (r : Compared). r.agreed) e

going-is : {x y : Compared} → x ≡ y → x.going ≡ y.going
going-is e = ap (λ (r : Compared). r.going) e

filled-number : {x y : Filled} → x ≡ y → x.number ≡ y.number
filled-number e = ap (λ (r : Filled). r.number) e

block-is : {x y : Filled} → x ≡ y → x.block ≡ y.block
block-is e = ap (λ (r : Filled). r.block) e

pub returns-in_err-compared : goal.returns-in_err-compared
returns-in_err-compared c =
    let a = c.args in
    let next = λ (block : List ℕ). kept a.numbers.now a.name.now block a.image.now a.tail.now in
    let p = err_from_is_err_and c.from_residual.result c.from_residual.ensures.1 in
    let h = compared-number (c.in_err-compared.ensures 0 0) in
    ap (beside a.last.now a.file.now a.state.now) (ap outcome_number p.1 ∙ ap number_of p.2 ∙ h)
    ∙ cases.commit_compared a.count a.times.now a.records.now a.moments.now a.left.now next a.last.now a.file.now
    a.state.now (λ z. refused-number c.in_err-compared.field-0.0 (h ∙ z))

pub returns-then-compared-ne0 : goal.returns-then-compared-ne0
returns-then-compared-ne0 c =
    let a = c.args in
    let next = λ (block : List ℕ). kept a.numbers.now a.name.now block a.image.now a.tail.now in
    let h = c.in_ok-compared.ensures 0 0 in
    cases.commit_going a.count a.times.now a.records.now a.moments.now a.left.now next a.last.now a.file.now a.state.now
    (sym (compared-number h)) (λ z. c.if-compared-ne0.true (going-is h ∙ z))

pub returns-in_err-fill : goal.returns-in_err-fill
returns-in_err-fill c =
    let a = c.args in
    let next = λ (block : List ℕ). kept a.numbers.now a.name.now block a.image.now a.tail.now in
    let h = c.in_ok-compared.ensures 0 0 in
    let none = sym (going-is h) ∙ c.if-compared-ne0.false in
    let p = err_from_is_err_and c.from_residual-in_err-fill.result c.from_residual-in_err-fill.ensures.1 in
    let n = filled-number c.in_err-fill.ensures in
    ap (beside a.last.now a.file.now a.state.now) (ap outcome_number p.1 ∙ ap number_of p.2 ∙ n)
    ∙ cases.commit_filled a.count a.times.now a.records.now a.moments.now a.left.now next a.last.now a.file.now
    a.state.now (sym (compared-number h)) none (λ z. refused-number c.in_err-fill.field-0.0 (n ∙ z))

pub returns-then-added-file : goal.returns-then-added-file
returns-then-added-file c =
    let a = c.args in
    let next = λ (block : List ℕ). kept a.numbers.now a.name.now block a.image.now a.tail.now in
    let h = c.in_ok-compared.ensures 0 0 in
    let none = sym (going-is h) ∙ c.if-compared-ne0.false in
    cases.commit_short a.count a.times.now a.records.now a.moments.now a.left.now next a.last.now a.file.now a.state.now
    (sym (compared-number h)) none (sym (filled-number c.in_ok-fill.ensures))
    (ap (λ (n : ℕ). ltb n (length a.times.now) && leb (whole_blocks a.file.now) (a.count / cells_per_block))
    (sym (agreed-is h)) ∙ c.if-added-file.true)

pub returns-in_err-write : goal.returns-in_err-write
returns-in_err-write c =
    let a = c.args in
    let next = λ (block : List ℕ). kept a.numbers.now a.name.now block a.image.now a.tail.now in
    let h = c.in_ok-compared.ensures 0 0 in
    let none = sym (going-is h) ∙ c.if-compared-ne0.false in
    let why = c.in_err-write.field-0.0 in
    let p = err_from_is_err_and c.from_residual-in_err-write.result c.from_residual-in_err-write.ensures.1 in
    let r = cases.write_refused (next c.fill.new.block) (replicate state_length 0)
    (record { number = number_of why; output = c.write.new.out }) c.in_err-write.ensures (refused-number why) in
    ap (beside a.last.now a.file.now a.state.now) (ap outcome_number p.1 ∙ ap number_of p.2 ∙ r.number)
    ∙ cases.commit_unlawful a.count a.times.now a.records.now a.moments.now a.left.now next a.last.now a.file.now
    a.state.now (sym (compared-number h)) none (sym (filled-number c.in_ok-fill.ensures))
    (ap (λ (n : ℕ). ltb n (length a.times.now) && leb (whole_blocks a.file.now) (a.count / cells_per_block))
    (sym (agreed-is h)) ∙ c.if-added-file.false)
    (ap (λ (b : List ℕ). is_lawful_state (next b)) (sym (block-is c.in_ok-fill.ensures)) ∙ r.law)

pub put_block-requires : goal.put_block-requires
put_block-requires c = cases.is_inside _ _ _ c.if-added-file.false

pub returns : goal.returns
returns c =
    let a = c.args in
    let file = a.file.now in
    let next = λ (block : List ℕ). kept a.numbers.now a.name.now block a.image.now a.tail.now in
    let h = c.in_ok-compared.ensures 0 0 in
    let none = sym (going-is h) ∙ c.if-compared-ne0.false in
    let block = block-is c.in_ok-fill.ensures in
    let r = cases.write_did (next c.fill.new.block) (replicate state_length 0)
    (record { number = 0; output = c.write.new.out }) c.in_ok-write.ensures refl in
    let state = r.bytes ∙ ap (λ (b : List ℕ). state_bytes (next b) 2) block in
    let archive = c.put_block.ensures ∙ (λ i. cond (ltb (agreed-is h i) (length a.times.now))
    (with_block (a.count / cells_per_block) (block i) file) file) in
    (λ i. record { number = 0; last = block i; archive = archive i; state = state i })
    ∙ cases.commit_done a.count a.times.now a.records.now a.moments.now a.left.now next a.last.now file a.state.now
    (sym (compared-number h)) none (sym (filled-number c.in_ok-fill.ensures))
    (ap (λ (n : ℕ). ltb n (length a.times.now) && leb (whole_blocks file) (a.count / cells_per_block))
    (sym (agreed-is h)) ∙ c.if-added-file.false)
    (ap (λ (b : List ℕ). is_lawful_state (next b)) (sym block) ∙ r.law)

pub fill-requires : goal.fill-requires
fill-requires c = refl
