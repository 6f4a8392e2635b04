-- A start, from what its steps leave.
--     same_block                          a file whose block is written as it stands
--     whole_same, front_same, rest-same, blocks-after      a file with another block
--     foreign, settled                    the two answers of `settled_of`
use Prim.Native.Nat.{ℕ, suc, ◌+◌, ◌-◌, ◌*◌, ◌/◌, ◌≤◌, ◌<◌}
use native.Mathlib.Omega.{arith}
use mathlib.Core.Path.{◌≡◌, refl, sym, ap, ap₂, ◌∙◌}
use mathlib.Core.Bool.{Bool, true, false, cond}
use mathlib.Core.List.{List, [], ◌∷◌, ◌++◌, map, append_assoc}
use lib.Dec.{eqb}
use lib.ListN.{length, take, drop, length-take, length-append, length-drop, take-append-drop}
use lib.Seq.{take-add, take_at}
use borrow.Author.Tests.{eqb-true, eqb-false}
use Rattle.base_lists.specs.Lists.{padded, up_from}
use Rattle.base_lists.proofs.Tests.{by_test}
use Rattle.base_lists.proofs.UpFrom.{map_same}
use Rattle.base_refusal.specs.Number.{number_of}
use Rattle.base_refusal.specs.declared.Refusal.TheVariants.{Mismatch}
use Rattle.base_buffers.proofs.Segments.{part_length, left, last, Begun, begun_length, begun_after}
use Rattle.block_layout.specs.Block.{cells_per_block, block_length}
use Rattle.archive_model.specs.Row.{Row, is_sound}
use Rattle.archive_model.specs.Buffer.{blocks_for, max_blocks}
use Rattle.archive_model.specs.Append.{block_at}
use Rattle.archive_fill.specs.Claims.{with_block}
use Rattle.journal_model.specs.Disk.{State, Disk, counted, last_used, run_from, whole_blocks, blocks_on, tail_rows, blocks_from, recovery, is_foreign, leftovers}
use Rattle.journal_model.proofs.Counted.{tail_by_lem, tail_by, block_next}
use Rattle.journal_model.proofs.Destroyed.{blocks_there}
use Rattle.journal_calls.specs.declared.Judgement.{Judgement}
use Rattle.journal_calls.specs.declared.Judgement.TheVariants.{Same}
use Rattle.journal_calls.specs.Block.{judgement_number}
use Rattle.journal_calls.specs.Claims.{mended_by}
use Rattle.journal_recovery.specs.Start.{Start, disk_of, with_whole, settled_of}
use Rattle.journal_recovery.specs.Private.{Says, FoundAs, run_rows, swept_at, Sweeps}

pub same_block : (at : ℕ) (file : List ℕ) → with_block at (block_at at file) file ≡ file
same_block at file =
    ap (λ (l : List ℕ). l ++ drop (block_length * at + block_length) file)
    (sym (take-add (block_length * at) block_length file))
    ∙ take-append-drop (block_length * at + block_length) file

-- ---- a file with another block

module _ (at : ℕ) (block file : List ℕ) (long : length block ≡ block_length) (there : at < whole_blocks file) where
  abbrev changed : List ℕ
  changed = with_block at block file

  abbrev front : List ℕ
  front = take (block_length * at) file

  abbrev rest : List ℕ
  rest = drop (block_length * at + block_length) file

  front_long : length front ≡ block_length * at
  front_long = length-take (block_length * at) file ∙ omega (arith, there)

  begun : Begun file (front ++ block) (block_length * at + block_length) changed
  begun = record {
    is = refl;
    long = length-append front block ∙ omega (arith, front_long, long);
    bound = omega (arith, there);
  }

  pub whole_same : whole_blocks changed ≡ whole_blocks file
  whole_same = ap (λ (n : ℕ). n / block_length) (begun_length begun)

  pub front_same : take (block_length * at) changed ≡ front
  front_same =
      ap (take (block_length * at)) (append_assoc front block rest)
      ∙ take_at front (block ++ rest) (block_length * at) front_long

  pub rest_same : drop (block_length * whole_blocks file) changed ≡ drop (block_length * whole_blocks file) file
  rest_same = begun_after begun (block_length * whole_blocks file) (omega (arith, there))

  block_is : block_at at changed ≡ block
  block_is =
      left (front ++ block) rest (block_length * at + block_length) (block_length * at) block_length begun.long
      (omega arith)
      ∙ last front block (block_length * at) block_length front_long long

  pub blocks_after : blocks_on at changed ≡ block ∷ blocks_on (suc at) file
  unfolding blocks_on
  blocks_after =
      let n = whole_blocks file - suc at in
      block_next at changed (omega (arith, there, whole_same))
      ∙ ap₂ ◌∷◌ block_is
      (ap (λ (m : ℕ). map (λ j. block_at j changed) (up_from (suc at) (m - suc at))) whole_same
      ∙ map_same (λ j. block_at j changed) (λ j. block_at j file) (suc at) n
      (λ j l h. ap (take block_length) (begun_after begun (block_length * j) (omega (arith, l)))))

-- ---- the start

module _ (n : ℕ) (copy : List ℕ) (long : length copy ≡ block_length) (s : State) (says : Says n copy s) (file : List ℕ)
    (j : Judgement) (found : FoundAs s file j) (blank : n ≡ 0 → j ≡ Same) (left : ℕ) where
  abbrev d : Disk
  d = disk_of s file

  abbrev at : ℕ
  at = blocks_for n - 1

  abbrev block : List ℕ
  block = mended_by j copy (block_at at file)

  abbrev after : List ℕ
  after = with_block at block file

  abbrev answer : Bool → Start
  answer b = cond b (record { number = number_of Mismatch; archive = file; left = left }) (record {
    number = 0;
    archive = with_whole (cond b d (record { state = s; archive = recovery s file; aside = [] })).archive file;
    left = length (leftovers d);
  })

  answer_is : settled_of s file left ≡ answer (is_foreign d)
  unfolding settled_of
  answer_is = refl

  pub foreign : eqb (judgement_number j) 3 ≡ true
      → record { number = number_of Mismatch; archive = file; left = left } ≡ settled_of s file left
  foreign t = sym (answer_is ∙ ap answer (sym found.foreign ∙ t))

  module _ (ours : eqb (judgement_number j) 3 ≡ false) where
    not-foreign : is_foreign d ≡ false
    not-foreign = sym found.foreign ∙ ours

    room : blocks_for n ≤ whole_blocks file
    room = rw says.count at (blocks_there d not-foreign)

    -- what the mended file says
    record Mended : Type 0 where
      whole : whole_blocks after ≡ whole_blocks file
      front : take (block_length * at) after ≡ take (block_length * at) file
      rest : drop (block_length * whole_blocks file) after ≡ drop (block_length * whole_blocks file) file
      tail : run_rows at after ≡ tail_rows s file

    tail_is : tail_rows s file ≡ tail_by_lem max_blocks n copy file
    tail_is = tail_by s file max_blocks n says.limited says.count
        ∙ ap (λ (c : List ℕ). tail_by_lem max_blocks n c file) says.last

    none : eqb n 0 ≡ true → Mended
    none t =
        let z = eqb-true n 0 t in
        let e : 0 ≡ at = omega arith in
        let is : after ≡ file = ap (λ (k : Judgement). with_block at (mended_by k copy (block_at at file)) file)
        (blank z)
        ∙ same_block at file in
        record {
          whole = ap whole_blocks is;
          front = ap (take (block_length * at)) is;
          rest = ap (drop (block_length * whole_blocks file)) is;
          tail = ap (run_rows at) is ∙ ap (λ (k : ℕ). run_rows k file) (sym e) ∙ sym (tail_is ∙ rw t);
        }

    some : eqb n 0 ≡ false → Mended
    some f =
        let u = eqb-false n 0 f in
        let positive : 0 < counted s = omega (arith, says.count) in
        let there : at < whole_blocks file = omega (arith, room) in
        let sizes : length (block_at at file) ≡ block_length = part_length (block_length * at) block_length file
        (omega (arith, there)) in
        let is : block ≡ cond (is_sound (block_at at file)) (block_at at file) copy = mended_is positive in
        let size : length block ≡ block_length = ap length is
        ∙ one_long (is_sound (block_at at file)) (block_at at file) sizes in
        record {
          whole = whole_same at block file size there;
          front = front_same at block file size there;
          rest = rest_same at block file size there;
          tail =
              ap (run_from max_blocks at) (blocks_after at block file size there
              ∙ ap (λ (l : List ℕ). l ∷ blocks_on (suc at) file) is)
              ∙ sym (tail_is ∙ rw f);
        }
      where
        one_long : (b : Bool) (x : List ℕ) → length x ≡ block_length → length (cond b x copy) ≡ block_length
        one_long true x h = h
        one_long false x h = long

        mended_is : 0 < counted s → block ≡ cond (is_sound (block_at at file)) (block_at at file) copy
        mended_is positive =
            ap₂ (λ (c : List ℕ) (k : ℕ). mended_by j c (block_at (blocks_for k - 1) file)) (sym says.last)
            (sym says.count)
            ∙ found.mends ours positive
            ∙ ap₂ (λ (c : List ℕ) (k : ℕ). cond (is_sound (block_at (blocks_for k - 1) file))
            (block_at (blocks_for k - 1) file) c)
            says.last says.count

    mended_file : Mended
    mended_file = by_test {X = Mended} (eqb n 0) none some

    abbrev m : ℕ
    m = whole_blocks file

    bytes_are : swept_at at after ≡ with_whole (recovery s file) file
    unfolding swept_at
    bytes_are =
        ap (λ (k : ℕ). padded (block_length * k)
        (take (block_length * at) after ++ blocks_from max_blocks at (run_rows at after)) ++ drop
        (block_length * k) after)
        mended_file.whole
        ∙ ap₂ (λ (x y : List ℕ). padded (block_length * m) (x ++ blocks_from max_blocks at (run_rows at after)) ++ y)
        mended_file.front mended_file.rest
        ∙ ap (λ (r : List Row). with_whole
        (padded (block_length * m) (take (block_length * at) file ++ blocks_from max_blocks at r)) file)
        mended_file.tail
        ∙ ap₂ (λ (l k : ℕ). with_whole (padded (block_length * m)
        (take (block_length * (blocks_for k - 1)) file ++ blocks_from l (blocks_for k - 1) (tail_rows s file))) file)
        (sym says.limited) (sym says.count)

    pub settled : (r : ℕ) (end : List ℕ) → Sweeps n after r end
        → record { number = 0; archive = end; left = r } ≡ settled_of s file left
    settled r end sweeps =
        let bytes = sweeps.bytes ∙ bytes_are in
        let rows : r ≡ length (leftovers d) =
        sweeps.rows
        ∙ ap₂ (λ (l : List Row) (k : ℕ). length l - (k - cells_per_block * (blocks_for k - 1))) mended_file.tail
        (sym says.count)
        ∙ sym (length-drop (counted s - cells_per_block * last_used s) (tail_rows s file)) in
        (λ i. record { number = 0; archive = bytes i; left = rows i }) ∙ sym (answer_is ∙ ap answer not-foreign)
