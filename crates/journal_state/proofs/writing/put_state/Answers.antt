-- `journal_state::writing::put_state` meets its contract: the header, and three parts that are copied.
use mathlib.Core.Path.{ap, ◌∙◌}
use Prim.Native.Nat.{ℕ}
use native.Mathlib.Omega.{arith}
use Rattle.base_buffers.specs.Buffer.{resized}
use Rattle.base_buffers.proofs.Buffer.{resized_whole}
use Rattle.base_buffers.proofs.Segments.{Writing, packed, begin, lend, lent, done}
use Rattle.block_layout.specs.Block.{block_length}
use Rattle.collector_model.specs.Image.{image_length}
use Rattle.journal_state.specs.State.{Kept, kept, max_tail, state_header, state_bytes}
use Rattle.journal_state.proofs.Fields.{header_is}
use Rattle.journal_state.proofs.writing.put_state.Lts as lts
use Rattle.journal_state.proofs.writing.put_state.Reads as reads
use Rattle.journal_state.proofs.writing.put_state.Tie as tie
use Rattle.journal_state.proofs.writing.put_state.Goals as goal

-- states on the way
abbrev Start : Type 0
Start = lts.Start tie.the-claims reads.Pre reads.Post

abbrev After-put_header : Type 0
After-put_header = lts.After-put_header tie.the-claims reads.Pre reads.Post

abbrev After-put_bytes : Type 0
After-put_bytes = lts.After-put_bytes tie.the-claims reads.Pre reads.Post

abbrev After-put_bytes-2 : Type 0
After-put_bytes-2 = lts.After-put_bytes2 tie.the-claims reads.Pre reads.Post

abbrev After-put_bytes-3 : Type 0
After-put_bytes-3 = lts.After-put_bytes3 tie.the-claims reads.Pre reads.Post

abbrev said : Start → Kept
said s = kept s.args.numbers.now s.args.name.now s.args.last.now s.args.image.now s.args.tail.now

-- what is written, after each part

abbrev headed : After-put_header → Writing block_length
headed c =
    let c_back3 = c.before.before.before in
    let c_back6 = c_back3.before.before.before in
    packed
    (lend (begin c.args.out.now) _ (state_header (said c_back6.before.before) c.args.version) block_length
    (c.put_header.ensures ∙ header_is (said c_back6.before.before) c.args.version c.crc8_long-crc.result
    c.crc8_long-crc.ensures)
    c.put_header.auto.out (omega arith) (omega (arith, c.requires.0)))

abbrev copied : After-put_bytes → Writing 1024
copied c =
    let c_back3 = c.before.before.before in
    let b = (headed c_back3.before).begun in
    let xs = c.args.last.now in
    packed
    (lend b _ xs 1024
    (c.put_bytes.ensures ∙ ap (λ (n : ℕ). resized n xs) (lent b block_length 1024 (omega arith) (omega
    (arith, c.requires.0))) ∙ resized_whole block_length xs c.requires.1.last)
    c.put_bytes.auto.out (omega arith) (omega (arith, c.requires.0)))

abbrev imaged : After-put_bytes-2 → Writing 3584
imaged c =
    let c_back3 = c.before.before.before in
    let b = (copied c_back3.before).begun in
    let xs = c.args.image.now in
    packed
    (lend b _ xs 3584
    (c.put_bytes-2.ensures ∙ ap (λ (n : ℕ). resized n xs) (lent b image_length 3584 (omega arith) (omega
    (arith, c.requires.0))) ∙ resized_whole image_length xs c.requires.1.image)
    c.put_bytes-2.auto.out (omega arith) (omega (arith, c.requires.0)))

abbrev tailed : After-put_bytes-3 → Writing 4096
tailed c =
    let c_back3 = c.before.before.before in
    let b = (imaged c_back3.before).begun in
    let xs = c.args.tail.now in
    packed
    (lend b _ xs 4096
    (c.put_bytes-3.ensures ∙ ap (λ (n : ℕ). resized n xs) (lent b max_tail 4096 (omega arith) (omega
    (arith, c.requires.0))) ∙ resized_whole max_tail xs c.requires.1.tail)
    c.put_bytes-3.auto.out (omega arith) (omega (arith, c.requires.0)))

pub returns : goal.returns
unfolding state_bytes
returns c =
    done (tailed c.before.before.before).begun c.requires.0
