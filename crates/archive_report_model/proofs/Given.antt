-- A scan that is accepted is one that some blocks give: full ones, a short one, all-zero ones, and those that do not match.
--     rowed, odd, blank      blocks of some rows, of none, and of zeros only
--     Given                  a scan, and blocks that give it
--     scan-given             each accepted scan has them
use Prim.Native.Nat.{ℕ, zero, suc, ◌+◌, ◌-◌, ◌*◌, ◌≤◌, ◌<◌, ◌^◌}
use native.Mathlib.Decide.{dec_lt}
use native.Mathlib.Omega.{arith}
use mathlib.Core.Path.{◌≡◌, refl, sym, ap, subst, ◌∙◌}
use mathlib.Core.Bool.{Bool, true, false, cond, ◌&&◌}
use mathlib.Core.List.{List, [], ◌∷◌, ◌++◌}
use lib.Dec.{ltb, eqb}
use lib.ListN.{length, replicate, length-replicate}
use borrow.Author.Tests.{leb-true, ltb-true, lt-ltb, eq-eqb, eqb-true, ne_eqb}
use Rattle.base_lists.specs.Lists.{all}
use Rattle.base_lists.proofs.Choice.{both}
use Rattle.base_lists.proofs.Tests.{and-true, all_append}
use Rattle.radio_erp1.specs.Subtelegram.{check_of, hash_of}
use Rattle.block_layout.specs.Block.{cells_per_block, block_length}
use Rattle.archive_model.specs.Row.{Row, rows_block, block_number, row_count, is_row, is_sound, is_blank}
use Rattle.archive_model.specs.Buffer.{max_blocks, Stage, Filling, Short, Ended, Wrong, Scan, start_scan, stage_after, stage_blank, scan_block, scan_blocks}
use Rattle.archive_model.specs.Append.{is_stage, is_scan}
use Rattle.archive_model.proofs.Blocks.{Fits, rows-block-length, number-back, count-back, block_sound}
use Rattle.archive_model.proofs.Buffers.{not_blank}
use Rattle.archive_model.proofs.Pieces.{scan_append}
use Rattle.archive_model.proofs.Scans.{scan_facts}
use Rattle.base_numbers.specs.Bytes.{are_bytes}
use Rattle.archive_report_model.proofs.Bytes.{all_repeated}
use Rattle.archive_report_model.proofs.Written.{is_plain, block-bytes}

-- ---- the blocks

-- bytes of a block
abbrev pub is_block : List ℕ → Bool
is_block b = eqb (length b) block_length && are_bytes b

-- a subtelegram: D5 09 01 02 03 04 00 E8
abbrev row : Row
row = record { bytes = 213 ∷ 9 ∷ 1 ∷ 2 ∷ 3 ∷ 4 ∷ 0 ∷ 232 ∷ []; time = 0; loose = false }

row_plain : is_plain row ≡ true
unfolding check_of hash_of
row_plain = refl

rows_fit : (n : ℕ) → Fits (replicate n row)
unfolding Fits
rows_fit zero i h = absurd (omega arith)
rows_fit (suc n) zero h = record { valid = (both (is_row row) _ row_plain).0; time = omega arith }
rows_fit (suc n) (suc i) h = rows_fit n i (omega arith)

-- block k of n rows
unfoldable rowed : ℕ → ℕ → List ℕ
rowed k n = rows_block k (replicate n row)

record Rowed (k n : ℕ) (b : List ℕ) : Type 0 where
  block : is_block b ≡ true
  blank : is_blank b ≡ false
  sound : is_sound b ≡ true
  number : block_number b ≡ k
  count : row_count b ≡ n

is_rowed : (k n : ℕ) → 1 ≤ n → n ≤ cells_per_block → k < 2 ^ 32 → Rowed k n (rowed k n)
unfolding rowed
is_rowed k n some few low =
    let rows = replicate n row in
    let l : length rows ≡ n = length-replicate n row in
    let f = rows_fit n in
    let fit : length rows ≤ cells_per_block = omega arith in
    let c = count-back k rows f fit in
    let long = rows-block-length k rows f fit in
    record {
      block =
          and-true (eq-eqb (length (rows_block k rows)) block_length long)
          (block-bytes k rows fit (all_repeated is_plain n row row_plain));
      blank = not_blank (rows_block k rows) long (omega (arith, c));
      sound = block_sound k rows f fit (omega arith) low;
      number = number-back k rows f fit low;
      count = c ∙ l;
    }

-- a block that is neither sound nor all zero
unfoldable odd : List ℕ
odd = 1 ∷ replicate 511 0

odd_block : is_block odd ≡ true
unfolding odd
odd_block = refl

odd_not : (is_blank odd ≡ false) × (is_sound odd ≡ false)
unfolding odd is_sound
odd_not = (refl, refl)

unfoldable empty : List ℕ
empty = replicate block_length 0

empty_block : is_block empty ≡ true
unfolding empty
empty_block = refl

empty_is : (is_blank empty ≡ true) × (is_sound empty ≡ false)
unfolding empty is_sound
empty_is = (refl, refl)

-- ---- a block more

abbrev scan : ℕ → ℕ → Stage → Scan
scan n rows st = record { blocks = n; rows = rows; stage = st }

same : {n m rows more : ℕ} {st last : Stage} → n ≡ m → rows ≡ more → st ≡ last → scan n rows st ≡ scan m more last
same a b c = rw (a, b, c)

module _ (n rows : ℕ) (st : Stage) where
  scan_rowed : (k c : ℕ) (b : List ℕ) → Rowed k c b
      → scan_block (scan n rows st) b ≡ scan (n + 1) (rows + c) (stage_after st n b)
  unfolding scan_block
  scan_rowed k c b r = rw (r.blank, r.sound, r.count)

  scan_odd : scan_block (scan n rows st) odd ≡ scan (n + 1) (rows + 0) (stage_after st n odd)
  unfolding scan_block
  scan_odd = rw (odd_not.0, odd_not.1)

  scan-empty : scan_block (scan n rows st) empty ≡ scan (n + 1) (rows + 0) (stage_blank st)
  unfolding scan_block
  scan-empty = rw (empty_is.0, empty_is.1)

stage_next : (n c : ℕ) (b : List ℕ) → Rowed n c b → stage_after Filling n b ≡ cond (ltb c cells_per_block) Short Filling
stage_next n c b r = rw (r.sound, eq-eqb (block_number b) n r.number, r.count)

stage-other : (n k c : ℕ) (b : List ℕ) → Rowed k c b → (k ≡ n → ⊥) → stage_after Filling n b ≡ Wrong n
stage-other n k c b r h = rw (r.sound, ne_eqb (block_number b) n (λ e. h (sym r.number ∙ e)))

stage_odd : (n : ℕ) → stage_after Filling n odd ≡ Wrong n
stage_odd n = rw odd_not.1

-- a scan, and blocks that give it
pub record Given (s : Scan) : Type 0 where
  pub blocks : List (List ℕ)
  pub are : all is_block blocks ≡ true
  pub give : scan_blocks start_scan blocks ≡ s

given_next : {s t : Scan} → Given s → (b : List ℕ) → is_block b ≡ true → scan_block s b ≡ t → Given t
unfolding scan_blocks
given_next {s} {t} g b is e = record {
  blocks = g.blocks ++ (b ∷ []);
  are = all_append is_block g.blocks (b ∷ []) g.are (and-true is refl);
  give = scan_append start_scan g.blocks (b ∷ []) ∙ ap (λ (x : Scan). scan_blocks x (b ∷ [])) g.give ∙ e;
}

none : Given (scan 0 0 Filling)
unfolding scan_blocks
none = record { blocks = []; are = refl; give = refl }

-- ---- the stages, of n blocks

filling : (n : ℕ) → n ≤ max_blocks → Given (scan n (cells_per_block * n) Filling)
filling zero h = none
filling (suc n) h =
    let r = is_rowed n cells_per_block (omega arith) (omega arith) (omega arith) in
    given_next (filling n (omega arith)) (rowed n cells_per_block) r.block
    (scan_rowed n (cells_per_block * n) Filling n cells_per_block (rowed n cells_per_block) r
    ∙ same (omega arith) (omega arith) (stage_next n cells_per_block (rowed n cells_per_block) r))

short : (n rows : ℕ) → n ≤ max_blocks → rows < cells_per_block * n
    → cells_per_block * n < rows + cells_per_block → Given (scan n rows Short)
short zero rows h a b = absurd (omega arith)
short (suc n) rows h a b =
    let c = rows - cells_per_block * n in
    let few : c < cells_per_block = omega arith in
    let r = is_rowed n c (omega arith) (omega arith) (omega arith) in
    given_next (filling n (omega arith)) (rowed n c) r.block
    (scan_rowed n (cells_per_block * n) Filling n c (rowed n c) r
    ∙ same (omega arith) (omega arith)
    (stage_next n c (rowed n c) r ∙ ap (λ (t : Bool). cond t Short Filling) (lt-ltb c cells_per_block few)))

-- an all-zero block behind them
blank_next : (n rows : ℕ) (st : Stage) → Given (scan n rows st) → Given (scan (suc n) rows (stage_blank st))
blank_next n rows st g = given_next g empty empty_block (scan-empty n rows st ∙ same (omega arith) (omega arith) refl)

ended : (n rows : ℕ) → n ≤ max_blocks → rows + cells_per_block ≤ cells_per_block * n → Given (scan n rows Ended)
ended zero rows h a = absurd (omega arith)
ended (suc n) rows h a = elim (dec_lt (cells_per_block * n) (rows + cells_per_block)) [
  | yes b ↦
      elim (dec_lt rows (cells_per_block * n)) [
        | yes c ↦ blank_next n rows Short (short n rows (omega arith) c b)
        | no c ↦
            (let e : rows ≡ cells_per_block * n = omega arith in
            subst (λ (m : ℕ). Given (scan (suc n) m Ended)) (sym e)
            (blank_next n (cells_per_block * n) Filling (filling n (omega arith))))
      ]
  | no b ↦ blank_next n rows Ended (ended n rows (omega arith) (omega arith))
]

-- ---- a block that does not match, and those behind it

-- block k of c rows, or none
module _ (n rows c : ℕ) (few : c ≤ cells_per_block) where
  put : (st last : Stage) (k : ℕ) → k < 2 ^ 32 → Given (scan n rows st)
      → (1 ≤ c → stage_after st n (rowed k c) ≡ last) → stage_after st n odd ≡ last
      → Given (scan (suc n) (rows + c) last)
  put st last k low g a b = elim (dec_lt 0 c) [
    | yes h ↦
        (let r = is_rowed k c h few low in
        given_next g (rowed k c) r.block (scan_rowed n rows st k c (rowed k c) r ∙ same (omega arith) refl (a h)))
    | no h ↦ given_next g odd odd_block (scan_odd n rows st ∙ same (omega arith) (omega arith) b)
  ]

from-ended : (n rows c : ℕ) → c ≤ cells_per_block → Given (scan n rows Ended)
    → Given (scan (suc n) (rows + c) (Wrong n))
from-ended n rows c few g = put n rows c few Ended (Wrong n) 0 (omega arith) g (λ h. refl) refl

wrong_more : (n rows c j : ℕ) → c ≤ cells_per_block
    → Given (scan n rows (Wrong j)) → Given (scan (suc n) (rows + c) (Wrong j))
wrong_more n rows c j few g = put n rows c few (Wrong j) (Wrong j) 0 (omega arith) g (λ h. refl) refl

from_filling : (n rows c : ℕ) → c ≤ cells_per_block
    → Given (scan n rows Filling) → Given (scan (suc n) (rows + c) (Wrong n))
from_filling zero rows c few g =
    put 0 rows c few Filling (Wrong 0) 1 (omega arith) g
    (λ h. stage-other 0 1 c (rowed 1 c) (is_rowed 1 c h few (omega arith)) (λ e. omega arith)) (stage_odd 0)
from_filling (suc n) rows c few g =
    put (suc n) rows c few Filling (Wrong (suc n)) 0 (omega arith) g
    (λ h. stage-other (suc n) 0 c (rowed 0 c) (is_rowed 0 c h few (omega arith)) (λ e. omega arith)) (stage_odd (suc n))

-- the block that does not match is the last one
last_wrong : (n rows : ℕ) → n ≤ max_blocks → rows ≤ cells_per_block * suc n → Given (scan (suc n) rows (Wrong n))
last_wrong n rows h a = elim (dec_lt rows (cells_per_block * n)) [
  | no b ↦
      (let e : cells_per_block * n + (rows - cells_per_block * n) ≡ rows = omega arith in
      subst (λ (m : ℕ). Given (scan (suc n) m (Wrong n))) e
      (from_filling n (cells_per_block * n) (rows - cells_per_block * n) (omega arith) (filling n h)))
  | yes b ↦
      elim (dec_lt (cells_per_block * n) (rows + cells_per_block)) [
        | no c ↦
            (let e : rows + 0 ≡ rows = omega arith in
            subst (λ (m : ℕ). Given (scan (suc n) m (Wrong n))) e
            (from-ended n rows 0 (omega arith) (ended n rows h (omega arith))))
        | yes c ↦
            (let full = cells_per_block * n - cells_per_block in
            let e : full + (rows - full) ≡ rows = omega arith in
            subst (λ (m : ℕ). Given (scan (suc n) m (Wrong n))) e
            (from-ended n full (rows - full) (omega arith) (ended n full h (omega arith))))
      ]
]

wrong : (n rows j : ℕ) → n ≤ max_blocks → j < n → rows ≤ cells_per_block * n → Given (scan n rows (Wrong j))
wrong zero rows j h l a = absurd (omega arith)
wrong (suc n) rows j h l a = elim (dec_lt j n) [
  | yes b ↦
      elim (dec_lt rows (cells_per_block * n)) [
        | yes c ↦
            (let e : rows + 0 ≡ rows = omega arith in
            subst (λ (m : ℕ). Given (scan (suc n) m (Wrong j))) e
            (wrong_more n rows 0 j (omega arith) (wrong n rows j (omega arith) b (omega arith))))
        | no c ↦
            (let e : cells_per_block * n + (rows - cells_per_block * n) ≡ rows = omega arith in
            subst (λ (m : ℕ). Given (scan (suc n) m (Wrong j))) e
            (wrong_more n (cells_per_block * n) (rows - cells_per_block * n) j (omega arith)
            (wrong n (cells_per_block * n) j (omega arith) b (omega arith))))
      ]
  | no b ↦
      (let e : n ≡ j = omega arith in
      subst (λ (k : ℕ). Given (scan (suc n) rows (Wrong k))) e (last_wrong n rows (omega arith) a))
]

by_stage : (st : Stage) (n rows : ℕ) → n ≤ max_blocks → rows ≤ cells_per_block * n
    → is_stage st n rows ≡ true → Given (scan n rows st)
by_stage Filling n rows h a t =
    subst (λ (m : ℕ). Given (scan n m Filling)) (sym (eqb-true rows (cells_per_block * n) t)) (filling n h)
by_stage Short n rows h a t =
    let w = both (ltb rows (cells_per_block * n)) _ t in
    short n rows h (ltb-true rows (cells_per_block * n) w.0)
    (ltb-true (cells_per_block * n) (rows + cells_per_block) w.1)
by_stage Ended n rows h a t = ended n rows h (leb-true (rows + cells_per_block) (cells_per_block * n) t)
by_stage (Wrong j) n rows h a t = wrong n rows j h (ltb-true j n t) a

pub scan-given : (s : Scan) → is_scan s ≡ true → Given s
scan-given s h = let f = scan_facts s h in by_stage s.stage s.blocks s.rows f.0 f.1 f.2
