-- A run that is accepted is one that some blocks give: full ones, then a short one or one that is not sound.
use Prim.Native.Nat.{ℕ, zero, suc, ◌+◌, ◌-◌, ◌*◌, ◌%◌, ◌^◌, ◌≤◌, ◌<◌}
use native.Mathlib.Nat.{mod-eq_of_lt, mod_self}
use native.Mathlib.Omega.{arith}
use mathlib.Core.Path.{◌≡◌, refl, sym, ap, subst, ◌∙◌}
use mathlib.Core.Bool.{Bool, true, false, cond}
use mathlib.Core.List.{List, [], ◌∷◌, ◌++◌}
use lib.Dec.{ltb, eqb}
use lib.ListN.{length, replicate, length-replicate}
use borrow.Author.Tests.{eqb-true, eqb-false, eq-eqb, lt-ltb}
use Rattle.base_lists.proofs.Tests.{and-true, by_test, all_append}
use Rattle.radio_erp1.specs.Subtelegram.{check_of, hash_of}
use Rattle.block_layout.specs.Block.{cells_per_block, block_length}
use Rattle.archive_model.specs.Row.{Row, rows_block, block_number, row_count, is_row, is_sound}
use Rattle.archive_model.specs.Buffer.{max_blocks}
use Rattle.archive_model.proofs.Blocks.{Fits, rows-block-length, number-back, count-back, block_sound}
use Rattle.journal_calls.specs.Run.{Run, start_run, run_block, run_blocks}
use Rattle.journal_calls.specs.Claims.{RunAccepted, GivenByBlocks, RunGiven}
use Rattle.journal_calls.proofs.Claims.{run_joins}
use Rattle.journal_calls.proofs.Runs.{RunFacts, run_facts, run_is, block_next}

-- ---- accepted

facts_after : (blocks : List (List ℕ)) (r : Run) → RunFacts r → r.blocks + length blocks ≤ max_blocks
    → RunFacts (run_blocks r blocks)
unfolding run_blocks
facts_after [] r f h = f
facts_after (b ∷ bs) r f h =
    let n = block_next r b f (omega arith) in
    facts_after bs (run_block r b) n.facts (omega (arith, n.bound))

pub run-accepted : RunAccepted
run-accepted r blocks h room = run_is (run_blocks r blocks) (facts_after blocks r (run_facts r h) room)

-- ---- blocks

-- a subtelegram: D5 09 01 02 03 04 00 E8
abbrev row : Row
row = record { bytes = 213 ∷ 9 ∷ 1 ∷ 2 ∷ 3 ∷ 4 ∷ 0 ∷ 232 ∷ []; time = 0; loose = false }

row-valid : is_row row ≡ true
unfolding check_of hash_of
row-valid = refl

rows_fit : (n : ℕ) → Fits (replicate n row)
unfolding Fits
rows_fit zero i h = absurd (omega arith)
rows_fit (suc n) zero h = record { valid = row-valid; time = omega arith }
rows_fit (suc n) (suc i) h = rows_fit n i (omega arith)

-- block k of n rows
unfoldable rowed : ℕ → ℕ → List ℕ
rowed k n = rows_block k (replicate n row)

record Rowed (k n : ℕ) (b : List ℕ) : Type 0 where
  long : eqb (length b) block_length ≡ true
  sound : is_sound b ≡ true
  number : block_number b ≡ k
  count : row_count b ≡ n

is_rowed : (k n : ℕ) → 1 ≤ n → n ≤ cells_per_block → k < 2 ^ 32 → Rowed k n (rowed k n)
unfolding rowed
is_rowed k n some few low =
    let rows = replicate n row in
    let l : length rows ≡ n = length-replicate n row in
    let f = rows_fit n in
    let fit : length rows ≤ cells_per_block = omega arith in
    record {
      long = eq-eqb (length (rows_block k rows)) block_length (rows-block-length k rows f fit);
      sound = block_sound k rows f fit (omega arith) low;
      number = number-back k rows f fit low;
      count = count-back k rows f fit ∙ l;
    }

unfoldable empty : List ℕ
empty = replicate block_length 0

empty-long : eqb (length empty) block_length ≡ true
unfolding empty
empty-long = refl

empty-not : is_sound empty ≡ false
unfolding empty is_sound
empty-not = refl

-- ---- runs

module _ (limit : ℕ) (positive : 0 < limit) (small : limit ≤ max_blocks) where
  abbrev at : (place blocks rows : ℕ) → Bool → Run
  at place blocks rows ended =
      record { limit = limit; place = place; blocks = blocks; rows = rows; ended = ended }

  more : {r t : Run} → GivenByBlocks limit r → (b : List ℕ) → eqb (length b) block_length ≡ true → run_block r b ≡ t
      → GivenByBlocks limit t
  unfolding run_blocks
  more {r} {t} g b l e = record {
    k = g.k;
    blocks = g.blocks ++ (b ∷ []);
    long = all_append (λ x. eqb (length x) block_length) g.blocks (b ∷ []) g.long (and-true l refl);
    give = run_joins (start_run limit g.k) g.blocks (b ∷ []) ∙ ap (λ (x : Run). run_block x b) g.give ∙ e;
  }

  passes : (p b rows n : ℕ) (block : List ℕ) → Rowed p n block
      → run_block (at p b rows false) block ≡ at ((p + 1) % limit) (b + 1) (rows + n) (ltb n cells_per_block)
  unfolding run_block
  passes p b rows n block r = rw (r.sound, eq-eqb (block_number block) p r.number, r.count)

  stops : (p b rows : ℕ) → run_block (at p b rows false) empty ≡ at p b rows true
  unfolding run_block
  stops p b rows = rw empty-not

  -- the block before one
  abbrev prior : ℕ → ℕ
  prior p = cond (eqb p 0) (limit - 1) (p - 1)

  prior_low : (p : ℕ) → p < limit → prior p < limit
  prior_low p low =
      by_test {X = prior p < limit} (eqb p 0) (λ t. rw t (omega (arith, positive)))
      (λ f. rw f (omega (arith, low)))

  prior_next : (p : ℕ) → p < limit → (prior p + 1) % limit ≡ p
  prior_next p low =
      by_test {X = (prior p + 1) % limit ≡ p} (eqb p 0)
      (λ t.
      let z = eqb-true p 0 t in
      let e : limit - 1 + 1 ≡ limit = omega (arith, positive) in
      rw t (ap (λ (x : ℕ). x % limit) e ∙ mod_self limit ∙ sym z))
      (λ f.
      let u = eqb-false p 0 f in
      let e : p - 1 + 1 ≡ p = omega (arith, u) in
      rw f (ap (λ (x : ℕ). x % limit) e ∙ mod-eq_of_lt low))

  -- full blocks
  full : (b p : ℕ) → p < limit → GivenByBlocks limit (at p b (cells_per_block * b) false)
  unfolding run_blocks
  full zero p low = record {
    k = p;
    blocks = [];
    long = refl;
    give = ap (λ (x : ℕ). at x 0 0 false) (mod-eq_of_lt low);
  }
  full (suc b) p low =
      let q = prior p in
      let l = prior_low p low in
      let r = is_rowed q cells_per_block (omega arith) (omega arith) (omega (arith, l, small)) in
      let rows : cells_per_block * b + cells_per_block ≡ cells_per_block * suc b = omega arith in
      let count : b + 1 ≡ suc b = omega arith in
      more (full b q l) (rowed q cells_per_block) r.long
      (passes q b (cells_per_block * b) cells_per_block (rowed q cells_per_block) r
      ∙ (λ i. at (prior_next p low i) (count i) (rows i) false))

  -- full ones and a short one
  short : (b p c : ℕ) → p < limit → 1 ≤ c → c < cells_per_block
      → GivenByBlocks limit (at p (b + 1) (cells_per_block * b + c) true)
  short b p c low some less =
      let q = prior p in
      let l = prior_low p low in
      let r = is_rowed q c some (omega (arith, less)) (omega (arith, l, small)) in
      more (full b q l) (rowed q c) r.long
      (passes q b (cells_per_block * b) c (rowed q c) r
      ∙ (λ i. at (prior_next p low i) (b + 1) (cells_per_block * b + c) (lt-ltb c cells_per_block less i)))

module _ (r : Run) (f : RunFacts r) where
  abbrev positive : 0 < r.limit
  positive = omega (arith, f.placed)

  abbrev Has : ℕ → ℕ → Bool → Type 0
  Has blocks rows ended =
      GivenByBlocks r.limit
      (record { limit = r.limit; place = r.place; blocks = blocks; rows = rows; ended = ended })

  going : r.ended ≡ false → GivenByBlocks r.limit r
  going e =
      let rows : cells_per_block * r.blocks ≡ r.rows = omega (arith, f.dense, f.full e) in
      let g : Has r.blocks (cells_per_block * r.blocks) false =
      full r.limit positive f.limited r.blocks r.place f.placed in
      subst (λ (x : Bool). Has r.blocks r.rows x) (sym e)
      (subst (λ (n : ℕ). Has r.blocks n false) rows g)

  ended : r.ended ≡ true → GivenByBlocks r.limit r
  ended e =
      by_test {X = GivenByBlocks r.limit r} (eqb r.rows (cells_per_block * r.blocks))
      (λ t.
      let rows : cells_per_block * r.blocks ≡ r.rows = sym (eqb-true r.rows (cells_per_block * r.blocks) t) in
      let g = full r.limit positive f.limited r.blocks r.place f.placed in
      let h : Has r.blocks (cells_per_block * r.blocks) true =
      more r.limit positive f.limited g empty empty-long
      (stops r.limit positive f.limited r.place r.blocks (cells_per_block * r.blocks)) in
      subst (λ (x : Bool). Has r.blocks r.rows x) (sym e)
      (subst (λ (n : ℕ). Has r.blocks n true) rows h))
      (λ n.
      let u = eqb-false r.rows (cells_per_block * r.blocks) n in
      let some : 1 ≤ r.blocks = omega (arith, u, f.dense) in
      let b = r.blocks - 1 in
      let c = r.rows - cells_per_block * b in
      let blocks : b + 1 ≡ r.blocks = omega (arith, some) in
      let rows : cells_per_block * b + c ≡ r.rows = omega (arith, some, f.near) in
      let g : Has (b + 1) (cells_per_block * b + c) true =
      short r.limit positive f.limited b r.place c f.placed
      (omega (arith, some, f.near)) (omega (arith, some, u, f.dense)) in
      subst (λ (x : Bool). Has r.blocks r.rows x) (sym e)
      (subst (λ (m : ℕ). Has m r.rows true) blocks (subst (λ (m : ℕ). Has (b + 1) m true) rows g)))

pub run-given : RunGiven
run-given r h =
    let f = run_facts r h in
    by_test {X = GivenByBlocks r.limit r} r.ended (ended r f) (going r f)
