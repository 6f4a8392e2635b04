-- `journal_state::writing::put_out` meets its contract: a step for each part that is lent.
use native.Mathlib.Omega.{arith}
use lib.ListN.{get_or}
use Rattle.base_buffers.proofs.Segments.{Writing, packed, begin, lend_sized, done}
use Rattle.block_layout.specs.BigEndian.{be}
use Rattle.journal_state.specs.State.{out_field}
use Rattle.journal_state.proofs.writing.put_out.Lts as lts
use Rattle.journal_state.proofs.writing.put_out.Reads as reads
use Rattle.journal_state.proofs.writing.put_out.Tie as tie
use Rattle.journal_state.proofs.writing.put_out.Goals as goal

-- states on the way
abbrev After-put_number : Type 0
After-put_number = lts.After-put_number tie.the-claims reads.Pre reads.Post

abbrev After-put_number-2 : Type 0
After-put_number-2 = lts.After-put_number2 tie.the-claims reads.Pre reads.Post

abbrev After-put_number-3 : Type 0
After-put_number-3 = lts.After-put_number3 tie.the-claims reads.Pre reads.Post

abbrev After-put_number-4 : Type 0
After-put_number-4 = lts.After-put_number4 tie.the-claims reads.Pre reads.Post

-- what is written, after each number

abbrev step1 : After-put_number → Writing 1
step1 c =
    packed
    (lend_sized (begin c.args.out.now) _ (λ w. be w (get_or c.args.numbers.now 10 0)) 1
    c.put_number.ensures c.put_number.auto.out (omega (arith, c.requires)) (omega (arith, c.requires)))

abbrev step2 : After-put_number-2 → Writing 9
step2 c =
    let c_back3 = c.before.before.before in
    packed
    (lend_sized (step1 c_back3.before.before).begun _ (λ w. be w (get_or c.args.numbers.now 11 0)) 9
    c.put_number-2.ensures c.put_number-2.auto.out (omega (arith, c.requires)) (omega (arith, c.requires)))

abbrev step3 : After-put_number-3 → Writing 17
step3 c =
    let c_back3 = c.before.before.before in
    packed
    (lend_sized (step2 c_back3.before.before).begun _ (λ w. be w (get_or c.args.numbers.now 12 0)) 17
    c.put_number-3.ensures c.put_number-3.auto.out (omega (arith, c.requires)) (omega (arith, c.requires)))

abbrev step4 : After-put_number-4 → Writing 25
step4 c =
    let c_back3 = c.before.before.before in
    packed
    (lend_sized (step3 c_back3.before.before).begun _ (λ w. be w (get_or c.args.numbers.now 13 0)) 25
    c.put_number-4.ensures c.put_number-4.auto.out (omega (arith, c.requires)) (omega (arith, c.requires)))

pub returns : goal.returns
unfolding out_field
returns c =
    done (step4 c.before.before.before).begun c.requires
