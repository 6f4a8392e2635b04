-- `journal_recovery::find` meets its contract: each return is one case of `Found`.
use Prim.Native.Nat.{ℕ, ◌-◌, ◌*◌}
use native.Mathlib.Omega.{arith}
use mathlib.Core.Path.{◌≡◌, refl, sym, ap, ◌∙◌}
use mathlib.Core.Bool.{Bool, true, false, false≢true}
use mathlib.Core.List.{List}
use Rattle.base_buffers.proofs.Segments.{part-ends}
use Rattle.block_layout.specs.Block.{cells_per_block, block_length}
use Rattle.archive_model.specs.Buffer.{blocks_for}
use Rattle.archive_model.specs.Append.{block_at}
use Rattle.journal_calls.specs.Block.{judgement_of}
use Rattle.journal_recovery.specs.Private.{lost_at}
use Rattle.journal_recovery.proofs.Lost.{lost_there, found_none, found_lost, found-judged}
use Rattle.journal_recovery.proofs.find.Lts as lts
use Rattle.journal_recovery.proofs.find.Reads as reads
use Rattle.journal_recovery.proofs.find.Tie as tie
use Rattle.journal_recovery.proofs.find.Goals as goal

-- states on the way
abbrev After-is_lost : Type 0
After-is_lost = lts.After-is_lost tie.the-claims reads.Pre reads.Post

abbrev Else-is_lost : Type 0
Else-is_lost = lts.Else2 tie.the-claims reads.Pre reads.Post

pub returns-then-rows-eq0 : goal.returns-then-rows-eq0
returns-then-rows-eq0 c =
    let a = c.args in
    record {
      found = λ s says. found_none a.rows a.last.now a.file.now s says c.if-rows-eq0.true;
      none = λ z. refl;
      room = λ f. omega (arith, c.if-rows-eq0.true);
    }

abbrev n : After-is_lost → ℕ
n c = c.args.rows

abbrev copy : After-is_lost → List ℕ
copy c = c.args.last.now

abbrev file : After-is_lost → List ℕ
file c = c.args.file.now

told : (c : After-is_lost) (b : Bool) → c.is_lost.result ≡ b → lost_at (blocks_for (n c) - 1) (file c) ≡ b
told c b e = ap (λ (k : ℕ). lost_at k (file c)) (sym c.last_used-at.ensures) ∙ sym c.is_lost.ensures ∙ e

pub returns-then-is_lost : goal.returns-then-is_lost
returns-then-is_lost c =
    record {
      found = λ s says. found_lost (n c.before.before) (copy c.before.before)
          (file c.before.before) s says c.if-rows-eq0.false c.requires
          (told c.before.before true c.if-is_lost.true);
      none = λ z. absurd (c.if-rows-eq0.false z);
      room = λ f. absurd (false≢true (sym f));
    }

kept : (c : Else-is_lost) → lost_at (blocks_for (n c.before) - 1) (file c.before) ≡ false
kept c = told c.before false c.if-is_lost.false

pub slice_bounds-judge-end-2 : goal.slice_bounds-judge-end-2
slice_bounds-judge-end-2 c =
    omega (
      arith,
      lost_there (blocks_for (n c.before.before.before) - 1) (file c.before.before.before)
          (kept c.before.before),
      c.last_used-at.ensures,
    )

pub returns : goal.returns
returns c =
    let c_back3 = c.before.before.before in
    let at = c.last_used-at.result in
    let is : c.judge.result ≡ judgement_of (copy c_back3.before.before)
    (n c_back3.before.before - cells_per_block * (blocks_for (n c_back3.before.before) - 1))
    (block_at (blocks_for (n c_back3.before.before) - 1) (file c_back3.before.before)) =
    c.judge.ensures ∙ ap (judgement_of (copy c_back3.before.before) (n c_back3.before.before - cells_per_block * at))
    (part-ends (block_length * at) block_length (file c_back3.before.before))
    ∙ ap (λ (k : ℕ). judgement_of (copy c_back3.before.before) (n c_back3.before.before - cells_per_block * k)
    (block_at k (file c_back3.before.before)))
    c.last_used-at.ensures in
    record {
      found = λ s says. found-judged (n c_back3.before.before) (copy c_back3.before.before)
          (file c_back3.before.before) s says c.if-rows-eq0.false c.requires (kept c_back3.before)
          c.judge.result is;
      none = λ z. absurd (c.if-rows-eq0.false z);
      room = λ f. omega (
        arith,
        lost_there (blocks_for (n c_back3.before.before) - 1) (file c_back3.before.before)
            (kept c_back3.before),
      );
    }
