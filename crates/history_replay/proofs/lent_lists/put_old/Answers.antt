-- `history_replay::lent_lists::put_old` meets its contract: bytes are stored, and a part is lent.
use mathlib.Core.Path.{ap, ◌∙◌}
use mathlib.Core.List.{List, ◌∷◌}
use native.Mathlib.Omega.{arith}
use lib.ListN.{get_or}
use Rattle.base_buffers.specs.Buffer.{part, resized}
use Rattle.base_buffers.proofs.Segments.{Writing, packed, begin, begun_length, within, store, lend_sized, done}
use Rattle.history_replay.proofs.Records.{field_lent}
use Rattle.history_replay.proofs.lent_lists.put_old.Lts as lts
use Rattle.history_replay.proofs.lent_lists.put_old.Reads as reads
use Rattle.history_replay.proofs.lent_lists.put_old.Tie as tie
use Rattle.history_replay.proofs.lent_lists.put_old.Goals as goal

-- states on the way
abbrev After-shared_slice_known-3-1 : Type 0
After-shared_slice_known-3-1 = lts.After-shared_slice_known3 tie.the-claims reads.Pre reads.Post

abbrev After-put_bytes : Type 0
After-put_bytes = lts.After-put_bytes tie.the-claims reads.Pre reads.Post

-- what is written, after each step
abbrev step0 : After-shared_slice_known-3-1 → Writing 3
step0 c =
    let r = c.args.r.now in
    let l = c.requires.0 in
    packed (store (store (store (begin c.args.out.now) (get_or r 25 0) (omega arith)) 0 (omega arith))
    (get_or r 26 0) (omega arith))

abbrev step1 : After-put_bytes → Writing 24
step1 c =
    packed
    (lend_sized (step0 c.before.before.before).begun _ (λ w. resized w (part 27 21 c.args.r.now)) 24
    c.put_bytes.ensures c.put_bytes.auto.out (omega arith)
    (omega (arith, c.requires.0)))

pub returns : goal.returns
returns c =
    let r = c.args.r.now in
    done (step1 c.before.before.before).begun c.requires.0
    ∙ ap (λ (l : List _). get_or r 25 0 ∷ 0 ∷ get_or r 26 0 ∷ l) (field_lent r 27 (omega (arith, c.requires.1)))

pub slice_bounds-put_bytes-end : goal.slice_bounds-put_bytes-end
slice_bounds-put_bytes-end c = within (step0 c.before).begun 24 (omega (arith, c.requires.0))

pub shape_of-out : goal.shape_of-out
shape_of-out c = begun_length (step1 c.before.before.before).begun
