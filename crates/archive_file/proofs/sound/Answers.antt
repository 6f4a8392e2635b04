-- `archive_file::sound` meets its contract: a sound block passes each test, and one that passes all is sound.
use mathlib.Core.Path.{◌≡◌, sym, ap, ◌∙◌}
use mathlib.Core.Bool.{Bool, true, false, cond}
use Prim.Native.Nat.{ℕ, ◌+◌, ◌-◌, ◌*◌}
use native.Mathlib.Omega.{arith}
use Rattle.base_lists.specs.Lists.{all}
use Rattle.base_buffers.specs.Buffer.{part}
use Rattle.block_layout.specs.Cell.{cell_length}
use Rattle.block_layout.specs.Block.{header_length, body_length}
use Rattle.archive_model.specs.Row.{row_count, is_blank}
use Rattle.archive_file.specs.Private.{is_written, cells_from}
use Rattle.archive_file.proofs.Tested.{other_length, count_low, count-high, not_sound, fails, sound_gap, sound_cells, sound_zeros, sound_crc, tested}
use Rattle.archive_file.proofs.sound.Lts as lts
use Rattle.archive_file.proofs.sound.Reads as reads
use Rattle.archive_file.proofs.sound.Tie as tie
use Rattle.archive_file.proofs.sound.Goals as goal

-- states on the way
abbrev After-is_blank : Type 0
After-is_blank = lts.After-is_blank tie.the-claims reads.Pre reads.Post

abbrev After-are_written : Type 0
After-are_written = lts.After-are_written tie.the-claims reads.Pre reads.Post

abbrev After-is_blank-2 : Type 0
After-is_blank-2 = lts.After-is_blank2 tie.the-claims reads.Pre reads.Post

-- ---- what was told of the zeros of the header, the cells, and the zeros behind them

gap-told : (c : After-is_blank) (b : Bool) → c.is_blank.result ≡ b
    → is_blank (part 5 19 c.args.block.now) ≡ b
gap-told c b e = sym c.is_blank.ensures ∙ e

cells_told : (c : After-are_written) (b : Bool) → c.are_written.result ≡ b
    → all is_written (cells_from c.args.block.now 0
    (row_count c.args.block.now)) ≡ b
cells_told c b e =
    ap (λ (n : ℕ). all is_written (cells_from c.args.block.now 0 n))
    (sym c.byte_at-used.ensures)
    ∙ sym c.are_written.ensures ∙ e

zeros-told : (c : After-is_blank-2) (b : Bool) → c.is_blank-2.result ≡ b
    → is_blank (part (header_length + cell_length * row_count c.args.block.now)
    (body_length - (header_length + cell_length * row_count c.args.block.now))
    c.args.block.now) ≡ b
zeros-told c b e =
    let block = c.args.block.now in
    ap (λ (n : ℕ). is_blank (part (header_length + cell_length * n)
    (body_length - (header_length + cell_length * n)) block))
    (sym c.byte_at-used.ensures)
    ∙ sym c.is_blank-2.ensures ∙ e

-- ---- a block that fails a test
pub returns-then-used-lt1 : goal.returns-then-used-lt1
returns-then-used-lt1 c = count_low c.args.block.now (omega (arith, c.byte_at-used.ensures))

pub returns-then-used-gt-CELLS_PER_BLOCK : goal.returns-then-used-gt-CELLS_PER_BLOCK
returns-then-used-gt-CELLS_PER_BLOCK c =
    count-high c.args.block.now (omega (arith, c.byte_at-used.ensures))

pub returns-then-not-is_blank : goal.returns-then-not-is_blank
returns-then-not-is_blank c =
    let block = c.args.block.now in
    fails block (is_blank (part 5 19 block)) (sound_gap block) (gap-told c.before.before false c.if-not-is_blank.true)

pub returns-then-not-are_written : goal.returns-then-not-are_written
returns-then-not-are_written c =
    let block = c.args.block.now in
    fails block (all is_written (cells_from block 0 (row_count block)))
    (sound_cells block) (cells_told c.before.before false c.if-not-are_written.true)

pub returns-then-not-is_blank-2 : goal.returns-then-not-is_blank-2
returns-then-not-is_blank-2 c =
    let block = c.args.block.now in
    let a = header_length + cell_length * row_count block in
    fails block (is_blank (part a (body_length - a) block)) (sound_zeros block)
    (zeros-told c.before.before false c.if-not-is_blank-2.true)

pub returns-then-crc8_long-block : goal.returns-then-crc8_long-block
returns-then-crc8_long-block c =
    let block = c.args.block.now in
    not_sound block (λ s. c.if-crc8_long-block.true (c.crc8_long.ensures ∙ sound_crc block s))

-- ---- and one that passes all
pub returns : goal.returns
returns c =
    let c_back3 = c.before.before.before in
    let c_back6 = c_back3.before.before.before in
    let c_back9 = c_back6.before.before.before in
    let block = c.args.block.now in
    let is =
    tested block (omega arith) (λ i. omega (arith, c.shared_slice_known-1.given i))
    (omega (arith, c.byte_at-used.ensures)) (omega (arith, c.byte_at-used.ensures))
    (gap-told c_back9.before.before true
    c.if-not-is_blank.false)
    (cells_told c_back6.before.before.before true c.if-not-are_written.false)
    (zeros-told c_back3.before.before.before true c.if-not-is_blank-2.false)
    (sym c.crc8_long.ensures ∙ c.if-crc8_long-block.false) in
    c.byte_at-used.ensures ∙ ap (λ (t : Bool). cond t (row_count block) 0) (sym is)

pub returns-then-block-ne-BLOCK_LENGTH : goal.returns-then-block-ne-BLOCK_LENGTH
returns-then-block-ne-BLOCK_LENGTH c = other_length _ c.if-block-ne-BLOCK_LENGTH.true

pub are_written-requires : goal.are_written-requires
are_written-requires c = (omega arith, omega arith)

pub bounds-block-511 : goal.bounds-block-511
bounds-block-511 c = omega arith
