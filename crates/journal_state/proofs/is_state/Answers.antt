-- `journal_state::is_state` meets its contract: each return is one case of `accepts_state`.
use mathlib.Core.Path.{◌≡◌, sym, ap, ap₂, ◌∙◌}
use mathlib.Core.Bool.{Bool, true, cond}
use mathlib.Core.List.{List, []}
use Prim.Native.Nat.{ℕ, ◌≤◌}
use native.Mathlib.Omega.{arith}
use borrow.Author.Tests.{not-true}
use lib.Dec.{eqb}
use lib.ListN.{length}
use Rattle.base_buffers.specs.Buffer.{part}
use Rattle.block_layout.specs.Block.{block_length}
use Rattle.collector_model.specs.Image.{image_length}
use Rattle.journal_state.specs.State.{Kept, kept, max_name, old_length, read_state}
use Rattle.journal_state.specs.Lawful.{is_lawful_state, is_plain}
use Rattle.journal_state.proofs.Files as files
use mathlib.Core.Bool.{not}
use Rattle.journal_state.proofs.is_state.Lts as lts
use Rattle.journal_state.proofs.is_state.Reads as reads
use Rattle.journal_state.proofs.is_state.Tie as tie
use Rattle.journal_state.proofs.is_state.Goals as goal

-- states on the way
abbrev Start : Type 0
Start = lts.Start tie.the-claims reads.Pre reads.Post

abbrev After-is_said : Type 0
After-is_said = lts.After-is_said tie.the-claims reads.Pre reads.Post

abbrev Else-not-is_said : Type 0
Else-not-is_said = lts.Else1 tie.the-claims reads.Pre reads.Post

abbrev After-is_lawful : Type 0
After-is_lawful = lts.After-is_lawful tie.the-claims reads.Pre reads.Post

long : (s : Start) → old_length ≤ length s.args.bytes.now
long s = (files.lengths (length s.args.bytes.now) s.requires.0).0

abbrev said : Start → Kept
said s =
    let bytes = s.args.bytes.now in
    kept s.args.read.now (part 41 max_name bytes) (part block_length block_length bytes)
    (part 1024 image_length bytes) s.args.rest.now

same : (s : Start) → said s ≡ read_state s.args.bytes.now
same s =
    let bytes = s.args.bytes.now in
    ap₂ (λ (n r : List ℕ). kept n (part 41 max_name bytes) (part block_length block_length bytes)
    (part 1024 image_length bytes) r) s.requires.1 s.requires.2

-- whether a file of its length can say its numbers
told : (c : After-is_said) → c.is_said.result ≡ files.said c.args.bytes.now
told c =
    let bytes = c.args.bytes.now in
    let plain : is_plain (kept c.args.read.now [] [] [] []) ≡ is_plain (read_state bytes) =
    ap (λ (n : List ℕ). is_plain (kept n [] [] [] [])) c.requires.1 ∙ files.plain-alone bytes in
    c.is_said.ensures ∙ ap (λ (b : Bool). cond (eqb (length bytes) old_length) b true) plain

pub returns-then-not-is_said : goal.returns-then-not-is_said
returns-then-not-is_said c = files.state_unsaid c.args.bytes.now (sym (told c.before.before) ∙ not-true _
    (ap not c.if-not-is_said.true))

yes : (c : Else-not-is_said) → files.said c.args.bytes.now ≡ true
yes c = sym (told c.before) ∙ c.if-not-is_said.false

pub is_lawful-requires : goal.is_lawful-requires
is_lawful-requires c =
    let c_back3 = c.before.before.before in
    let c_back6 = c_back3.before.before.before in
    rw (same c_back6.before.before) (files.sized c.args.bytes.now (long c_back6.before.before))

law_told : (c : After-is_lawful) → c.is_lawful.result ≡ is_lawful_state (read_state c.args.bytes.now)
law_told c =
    let c_back3 = c.before.before.before in
    let c_back6 = c_back3.before.before.before in
    c.is_lawful.ensures ∙ ap is_lawful_state (same c_back6.before.before)

pub returns-then-not-is_lawful : goal.returns-then-not-is_lawful
returns-then-not-is_lawful c =
    let c_back3 = c.before.before.before in
    let c_back6 = c_back3.before.before.before in
    files.state-unlawful c.args.bytes.now (yes c_back6.before)
    (sym (law_told c.before.before) ∙ c.if-not-is_lawful.true)

pub returns : goal.returns
returns c =
    let c_back3 = c.before.before.before in
    let c_back6 = c_back3.before.before.before in
    c.is_written.ensures ∙ files.state-written c.args.bytes.now (yes c_back6.before.before)
    (sym (law_told c.before.before.before)
    ∙ c.if-not-is_lawful.false)

pub slice_bounds-is_lawful-end : goal.slice_bounds-is_lawful-end
slice_bounds-is_lawful-end c =
    let c_back3 = c.before.before.before in
    omega (arith, long c_back3.before)

pub slice_bounds-is_lawful-end-2 : goal.slice_bounds-is_lawful-end-2
slice_bounds-is_lawful-end-2 c =
    let c_back3 = c.before.before.before in
    omega (arith, long c_back3.before.before)

pub slice_bounds-is_lawful-end-3 : goal.slice_bounds-is_lawful-end-3
slice_bounds-is_lawful-end-3 c =
    let c_back3 = c.before.before.before in
    omega (arith, long c_back3.before.before.before)

pub is_written-requires : goal.is_written-requires
is_written-requires c = c.requires
