-- A packer in pieces: the answers of `pack` and `finish`, each from the facts that its tests give.
--     packing-other, packing-many, packing-far, packing-rows      the test of a packer
--     pack-no, pack-odd, pack-far, pack-identities, pack-short, pack-list, pack-done     the answers to a piece
--     finish-no, finish-none, finish-short, finish-last     the answers at the end
use Prim.Native.Nat.{ℕ, ◌+◌, ◌*◌, ◌/◌, ◌%◌, ◌≤◌, ◌<◌}
use native.Mathlib.Omega.{arith}
use mathlib.Core.Path.{◌≡◌, sym, ap, ap₂, ◌∙◌}
use mathlib.Core.Bool.{true, false}
use mathlib.Core.List.{List, ◌++◌}
use lib.Dec.{leb, ltb, eqb}
use lib.ListN.{length, take, drop}
use borrow.Author.Tests.{eq-eqb, ne_eqb, eqb-true, ltb-true, leb-true, le-ltb, lt-ltb, le-leb, lt-leb, leb-false}
use Rattle.base_lists.proofs.Choice.{both}
use Rattle.base_refusal.specs.Number.{number_of}
use Rattle.base_refusal.specs.declared.Refusal.TheVariants.{ShortOutput, Argument, NotAccepted, Size}
use Rattle.block_layout.specs.Cell.{cell_length}
use Rattle.block_layout.specs.Block.{cells_per_block, block_length}
use Rattle.archive_model.specs.Buffer.{max_blocks, max_rows}
use Rattle.archive_repack_model.specs.Repack.{dropped, fronted, max_identities}
use Rattle.archive_repack_model.specs.Packer.{pending_length, packing, cells_block, pushed_blocks, pushed, waiting_block, kept_cells, has_blocks, is_packing, Packed, kept_as, packed_as, pack_of, finish_of}
use Rattle.archive_repack.proofs.Closing.{last_none, last_some, last_long}

module _ (next used : ℕ) (pending : List ℕ) where
  pub packing-other : (length pending ≡ pending_length → ⊥) → false ≡ is_packing next used pending
  unfolding is_packing
  packing-other h = rw (ne_eqb (length pending) pending_length h)

  pub packing_many : length pending ≡ pending_length → cells_per_block ≤ used → false ≡ is_packing next used pending
  unfolding is_packing
  packing_many l h = rw (eq-eqb (length pending) pending_length l, le-ltb used cells_per_block h)

  pub packing_far : length pending ≡ pending_length → used < cells_per_block
      → max_blocks < next → false ≡ is_packing next used pending
  unfolding is_packing
  packing_far l h o =
      rw (
        eq-eqb (length pending) pending_length l,
        lt-ltb used cells_per_block h,
        lt-leb (cells_per_block * next + used) max_rows (omega arith),
      )

  pub packing-rows : length pending ≡ pending_length → used < cells_per_block
      → has_blocks next used ≡ is_packing next used pending
  unfolding is_packing
  packing-rows l h = rw (eq-eqb (length pending) pending_length l, lt-ltb used cells_per_block h)

  pub packing_facts : is_packing next used pending ≡ true
      → (length pending ≡ pending_length) × (used < cells_per_block) × (next ≤ max_blocks)
  unfolding is_packing
  packing_facts e =
      let a = both (eqb (length pending) pending_length) _ e in
      let b = both (ltb used cells_per_block) _ a.1 in
      let few = leb-true (cells_per_block * next + used) max_rows b.1 in
      (eqb-true (length pending) pending_length a.0, ltb-true used cells_per_block b.0, omega arith)

  module _ (piece identities output positions : List ℕ) where
    abbrev answer : Packed
    answer = pack_of next used pending piece identities output positions

    abbrev kept : ℕ → Packed
    kept number = kept_as number next used pending output positions

    pub pack_no : is_packing next used pending ≡ false → kept (number_of NotAccepted) ≡ answer
    unfolding pack_of
    pack_no p = rw p

    module _ (p : is_packing next used pending ≡ true) where
      pub pack_odd : (length piece % block_length ≡ 0 → ⊥) → kept (number_of Size) ≡ answer
      unfolding pack_of
      pack_odd h = rw (p, ne_eqb (length piece % block_length) 0 h)

      module _ (even : length piece % block_length ≡ 0) where
        -- the rows that there can be with this piece
        abbrev most : ℕ
        most = cells_per_block * (next + length piece / block_length) + used

        pub pack_far : max_rows < most → kept (number_of Size) ≡ answer
        unfolding pack_of
        pack_far h = rw (p, eq-eqb (length piece % block_length) 0 even, lt-leb most max_rows h)

        module _ (near : most ≤ max_rows) where
          pub pack_identities : max_identities < length identities → kept (number_of Argument) ≡ answer
          unfolding pack_of
          pack_identities h = rw (
            p,
            eq-eqb (length piece % block_length) 0 even,
            le-leb most max_rows near,
            lt-ltb max_identities (length identities) h,
          )

          module _ (few : length identities ≤ max_identities) where
            pub pack_short : length output < length piece → kept (number_of ShortOutput) ≡ answer
            unfolding pack_of
            pack_short h =
                rw (
                  p,
                  eq-eqb (length piece % block_length) 0 even,
                  le-leb most max_rows near,
                  le-ltb max_identities (length identities) few,
                  lt-ltb (length output) (length piece) h,
                )

            module _ (fits : length piece ≤ length output) where
              pub pack_list : leb (length (dropped piece)) (length positions) ≡ false
                  → kept (number_of ShortOutput) ≡ answer
              unfolding pack_of
              pack_list f =
                  rw (
                    p,
                    eq-eqb (length piece % block_length) 0 even,
                    le-leb most max_rows near,
                    le-ltb max_identities (length identities) few,
                    le-ltb (length output) (length piece) fits,
                    lt-ltb (length positions) (length (dropped piece))
                        (leb-false (length (dropped piece)) (length positions) f),
                  )

              pub pack_done : length (dropped piece) ≤ length positions
                  → packed_as (length (dropped piece))
                  (pushed (packing next used pending) (kept_cells identities piece))
                  (fronted (pushed_blocks (packing next used pending) (kept_cells identities piece)) output)
                  (fronted (dropped piece) positions)
                  ≡ answer
              unfolding pack_of
              pack_done h =
                  rw (
                    p,
                    eq-eqb (length piece % block_length) 0 even,
                    le-leb most max_rows near,
                    le-ltb max_identities (length identities) few,
                    le-ltb (length output) (length piece) fits,
                    le-ltb (length positions) (length (dropped piece)) h,
                  )

  module _ (output : List ℕ) where
    pub finish_no : is_packing next used pending ≡ false
        → record { number = number_of NotAccepted; length = 0; output = output } ≡ finish_of next used pending output
    unfolding finish_of
    finish_no p = rw p

    module _ (p : is_packing next used pending ≡ true) where
      abbrev facts : (length pending ≡ pending_length) × (used < cells_per_block) × (next ≤ max_blocks)
      facts = packing_facts p

      pub finish_none : used ≡ 0
          → record { number = 0; length = 0; output = output } ≡ finish_of next used pending output
      unfolding finish_of
      finish_none z =
          let none = last_none next used pending facts.0 facts.1 z in
          let low : length (waiting_block (packing next used pending))
          ≤ length output = omega (arith, ap length none) in
          rw (p, le-ltb (length output) (length (waiting_block (packing next used pending))) low, none)

      module _ (some : used ≡ 0 → ⊥) where
        long : length (waiting_block (packing next used pending)) ≡ block_length
        long =
            ap length (last_some next used pending facts.0 facts.1 some)
            ∙ last_long next used pending facts.0 facts.1

        pub finish_short : length output < block_length
            → record { number = number_of ShortOutput; length = 0; output = output }
            ≡ finish_of next used pending output
        unfolding finish_of
        finish_short h =
            let low : length output < length (waiting_block (packing next used pending)) = omega (arith, long) in
            rw (p, lt-ltb (length output) (length (waiting_block (packing next used pending))) low)

        pub finish_last : block_length ≤ length output → (out2 : List ℕ)
            → out2 ≡ cells_block next (take (cell_length * used) pending) ++ drop block_length output
            → record { number = 0; length = block_length; output = out2 } ≡ finish_of next used pending output
        unfolding finish_of
        finish_last h out2 e =
            let low : length (waiting_block (packing next used pending)) ≤ length output = omega (arith, long) in
            let is : out2 ≡ fronted (waiting_block (packing next used pending)) output =
            e
            ∙ ap₂ (λ (b : List ℕ) (n : ℕ). b ++ drop n output)
            (sym (last_some next used pending facts.0 facts.1 some)) (sym long) in
            rw (p, le-ltb (length output) (length (waiting_block (packing next used pending))) low)
            (λ j. record { number = 0; length = sym long j; output = is j })
