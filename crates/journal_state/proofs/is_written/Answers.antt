-- `journal_state::is_written` meets its contract: what the file says is written again and compared.
use mathlib.Core.Path.{◌≡◌, ap, ap₂, ◌∙◌}
use mathlib.Core.List.{List}
use Prim.Native.Nat.{ℕ, ◌-◌, ◌≤◌}
use native.Mathlib.Omega.{arith}
use borrow.Author.Rules.{rules}
use lib.ListN.{length, take}
use Rattle.base_lists.specs.Lists.{equal}
use Rattle.base_buffers.specs.Buffer.{part}
use Rattle.block_layout.specs.Block.{block_length}
use Rattle.collector_model.specs.Image.{image_length}
use Rattle.journal_state.specs.State.{Kept, kept, max_name, old_length, state_length, version_of, state_bytes, read_state}
use Rattle.journal_state.specs.Private.{Sized}
use Rattle.journal_state.proofs.Files.{lengths, sized}
use Rattle.journal_state.proofs.is_written.Lts as lts
use Rattle.journal_state.proofs.is_written.Reads as reads
use Rattle.journal_state.proofs.is_written.Tie as tie
use Rattle.journal_state.proofs.is_written.Goals as goal

-- states on the way
abbrev Start : Type 0
Start = lts.Start tie.the-claims reads.Pre reads.Post

-- at least as long as version 1, and at most as version 2
long : (s : Start) → (old_length ≤ length s.args.bytes.now) × (length s.args.bytes.now ≤ state_length)
long s = lengths (length s.args.bytes.now) s.requires.0

-- what is written again
abbrev said : Start → Kept
said s =
    let bytes = s.args.bytes.now in
    kept s.args.read.now (part 41 max_name bytes) (part block_length block_length bytes)
    (part 1024 image_length bytes) s.args.rest.now

same : (s : Start) → said s ≡ read_state s.args.bytes.now
same s =
    let bytes = s.args.bytes.now in
    ap₂ (λ (n r : List ℕ). kept n (part 41 max_name bytes) (part block_length block_length bytes)
    (part 1024 image_length bytes) r) s.requires.1 s.requires.2

pub put_state-requires : goal.put_state-requires
put_state-requires c =
    let c_back3 = c.before.before.before in
    let c_back6 = c_back3.before.before.before in
    let z : Sized (said c_back6.before.before) =
    rw (same c_back6.before.before) (sized c.args.bytes.now (long c_back6.before.before).0) in
    (search rules, z)

pub returns : goal.returns
returns c =
    let c_back3 = c.before.before.before in
    let c_back6 = c_back3.before.before.before in
    let c_back9 = c_back6.before.before.before in
    let bytes = c.args.bytes.now in
    let again : c.put_state.new.out ≡ state_bytes (read_state bytes) (version_of (length bytes)) =
    c.put_state.ensures ∙ ap₂ (λ (k : Kept) (n : ℕ). state_bytes k n)
    (same c_back9.before.before.before) c.version_of.ensures in
    let whole : length bytes - 0 ≡ length bytes = omega arith in
    c.equal.ensures ∙ ap (λ (l : List ℕ). equal (take (length bytes - 0) l) bytes) again
    ∙ ap (λ (n : ℕ). equal (take n (state_bytes (read_state bytes) (version_of (length bytes)))) bytes) whole

pub slice_bounds-put_state-end-2 : goal.slice_bounds-put_state-end-2
slice_bounds-put_state-end-2 c =
    let c_back3 = c.before.before.before in
    omega (arith, (long c_back3.before).0)

pub slice_bounds-put_state-end-3 : goal.slice_bounds-put_state-end-3
slice_bounds-put_state-end-3 c =
    let c_back3 = c.before.before.before in
    omega (arith, (long c_back3.before.before).0)

pub slice_bounds-put_state-end-4 : goal.slice_bounds-put_state-end-4
slice_bounds-put_state-end-4 c =
    let c_back3 = c.before.before.before in
    omega (arith, (long c_back3.before.before.before).0)

pub slice_bounds-equal-end : goal.slice_bounds-equal-end
slice_bounds-equal-end c =
    let c_back3 = c.before.before.before in
    let c_back6 = c_back3.before.before.before in
    let c_back9 = c_back6.before.before.before in
    omega (arith, (long c_back9.before).1, c.put_state.auto.out)
