-- `journal_state::writing::put_archive` meets its contract: a step for each part that is lent.
use mathlib.Core.Path.{ap, ◌∙◌}
use Prim.Native.Nat.{ℕ}
use native.Mathlib.Omega.{arith}
use lib.ListN.{get_or}
use Rattle.base_buffers.proofs.Segments.{Writing, packed, begin, lend, lend_sized, lent, done}
use Rattle.base_buffers.specs.Buffer.{resized}
use Rattle.base_buffers.proofs.Buffer.{resized_whole}
use Rattle.block_layout.specs.BigEndian.{be}
use Rattle.journal_state.specs.State.{archive_field, max_name}
use Rattle.journal_state.proofs.writing.put_archive.Lts as lts
use Rattle.journal_state.proofs.writing.put_archive.Reads as reads
use Rattle.journal_state.proofs.writing.put_archive.Tie as tie
use Rattle.journal_state.proofs.writing.put_archive.Goals as goal

-- states on the way
abbrev After-put_number : Type 0
After-put_number = lts.After-put_number tie.the-claims reads.Pre reads.Post

abbrev After-put_number-2 : Type 0
After-put_number-2 = lts.After-put_number2 tie.the-claims reads.Pre reads.Post

abbrev After-put_number-3 : Type 0
After-put_number-3 = lts.After-put_number3 tie.the-claims reads.Pre reads.Post

abbrev After-put_number-4 : Type 0
After-put_number-4 = lts.After-put_number4 tie.the-claims reads.Pre reads.Post

abbrev After-put_number-5 : Type 0
After-put_number-5 = lts.After-put_number5 tie.the-claims reads.Pre reads.Post

abbrev After-put_bytes : Type 0
After-put_bytes = lts.After-put_bytes tie.the-claims reads.Pre reads.Post

-- what is written, after each number

abbrev step1 : After-put_number → Writing 8
step1 c =
    packed
    (lend_sized (begin c.args.out.now) _ (λ w. be w (get_or c.args.numbers.now 0 0)) 8
    c.put_number.ensures c.put_number.auto.out (omega (arith, c.requires.0)) (omega (arith, c.requires.0)))

abbrev step2 : After-put_number-2 → Writing 16
step2 c =
    let c_back3 = c.before.before.before in
    packed
    (lend_sized (step1 c_back3.before.before).begun _ (λ w. be w (get_or c.args.numbers.now 1 0)) 16
    c.put_number-2.ensures c.put_number-2.auto.out (omega (arith, c.requires.0)) (omega (arith, c.requires.0)))

abbrev step3 : After-put_number-3 → Writing 24
step3 c =
    let c_back3 = c.before.before.before in
    packed
    (lend_sized (step2 c_back3.before.before).begun _ (λ w. be w (get_or c.args.numbers.now 2 0)) 24
    c.put_number-3.ensures c.put_number-3.auto.out (omega (arith, c.requires.0)) (omega (arith, c.requires.0)))

abbrev step4 : After-put_number-4 → Writing 32
step4 c =
    let c_back3 = c.before.before.before in
    packed
    (lend_sized (step3 c_back3.before.before).begun _ (λ w. be w (get_or c.args.numbers.now 3 0)) 32
    c.put_number-4.ensures c.put_number-4.auto.out (omega (arith, c.requires.0)) (omega (arith, c.requires.0)))

abbrev step5 : After-put_number-5 → Writing 33
step5 c =
    let c_back3 = c.before.before.before in
    packed
    (lend_sized (step4 c_back3.before.before).begun _ (λ w. be w (get_or c.args.numbers.now 4 0)) 33
    c.put_number-5.ensures c.put_number-5.auto.out (omega (arith, c.requires.0)) (omega (arith, c.requires.0)))

abbrev named : After-put_bytes → Writing 288
named c =
    let c_back3 = c.before.before.before in
    let b = (step5 c_back3.before).begun in
    packed
    (lend b _ c.args.name.now 288
    (c.put_bytes.ensures ∙ ap (λ (n : ℕ). resized n c.args.name.now) (lent b max_name 288 (omega arith) (omega
    (arith, c.requires.0))) ∙ resized_whole max_name c.args.name.now c.requires.1)
    c.put_bytes.auto.out (omega arith) (omega (arith, c.requires.0)))

pub returns : goal.returns
unfolding archive_field
returns c =
    done (named c.before.before.before).begun c.requires.0
