-- An archive verified in pieces: together they answer what they answer as one buffer.
--     scan-back           a scan is read back from its numbers
--     pieces-verified     the claim
--     numbers-accepted, numbers-given     which numbers are accepted
use Prim.Native.Nat.{ℕ, ◌+◌, ◌*◌, ◌/◌, ◌%◌, ◌≤◌}
use native.Mathlib.Omega.{arith}
use mathlib.Core.Path.{◌≡◌, refl, sym, ap, ◌∙◌}
use mathlib.Core.Bool.{Bool, true, false, ◌&&◌}
use mathlib.Core.List.{List, [], ◌∷◌, ◌++◌, flatten, append_assoc, append-nil}
use lib.Dec.{leb, eqb}
use lib.ListN.{length, length-append}
use lib.Seq.{take_all}
use borrow.Author.Tests.{eqb-true, leb-true, eq-eqb, le-leb}
use Rattle.base_lists.specs.Lists.{all, up_from}
use Rattle.base_lists.proofs.Choice.{both}
use Rattle.base_lists.proofs.Members.{all_of, all_at}
use Rattle.base_lists.proofs.Tests.{by_test, and-true}
use Rattle.base_refusal.specs.Number.{number_of}
use Rattle.base_refusal.specs.declared.Refusal.TheVariants.{Size}
use Rattle.block_layout.specs.Block.{block_length}
use Rattle.archive_model.specs.Buffer.{Found, Stage, max_blocks, is_whole, blocks_in, Scan, start_scan, scan_block, scan_blocks, stage_found}
use Rattle.archive_model.specs.Append.{is_scan, feed_of, open_of}
use Rattle.archive_model.proofs.Pieces.{blocks-count, pieces_blocks, scan_append, scan-found, scan-rows}
use Rattle.archive_file.specs.Archive.{open_found}
use Rattle.archive_file.proofs.Calls.{open_whole}
use Rattle.archive_model.proofs.Scans.{scan_facts, scanned_next, blocks_after}
use Rattle.base_numbers.specs.Bytes.{are_bytes}
use Rattle.archive_report_model.proofs.Given.{is_block, scan-given}
use Rattle.c_pieces.specs.Scan.{stage_at, scan_at, scan_numbers, no_blocks, scan_end}
use Rattle.c_pieces.specs.Claims.{ScanBack, scan_all, scanned, PiecesVerified, NumbersAccepted, NumbersGiven}
use Rattle.c_pieces.proofs.Scans.{stage-back}

pub scan-back : ScanBack
scan-back s = ap (λ (t : Stage). record { blocks = s.blocks; rows = s.rows; stage = t }) (stage-back s.stage)

-- ---- the blocks of a piece

after_blocks : (bs : List (List ℕ)) (s : Scan) → is_scan s ≡ true → s.blocks + length bs ≤ max_blocks
    → (is_scan (scan_blocks s bs) ≡ true) × ((scan_blocks s bs).blocks ≡ s.blocks + length bs)
unfolding scan_blocks
after_blocks [] s t h = (t, omega arith)
after_blocks (b ∷ bs) s t h =
    let one = blocks_after b s in
    let more = after_blocks bs (scan_block s b) (scanned_next b s t (omega arith)) (omega (arith, one)) in
    (more.0, more.1 ∙ omega (arith, one))

-- whole blocks, and with those passed at most 2^32
abbrev fits : Scan → List ℕ → Bool
fits s piece = eqb (length piece % block_length) 0 && leb (s.blocks + length piece / block_length) max_blocks

module _ (s : Scan) (piece : List ℕ) (t : is_scan s ≡ true) where
  feed-taken : fits s piece ≡ true → feed_of s piece ≡ record { number = 0; next = scan_blocks s (blocks_in piece) }
  unfolding feed_of
  feed-taken h = rw (t, h)

  feed-not : fits s piece ≡ false → feed_of s piece ≡ record { number = number_of Size; next = s }
  unfolding feed_of
  feed-not h = rw (t, h)

-- ---- after the pieces that make `done`

record Reached (done numbers : List ℕ) : Type 0 where
  is : scan_at numbers ≡ scan_blocks start_scan (blocks_in done)
  goes : is_scan (scan_at numbers) ≡ true
  whole : is_whole (length done) ≡ true
  blocks : block_length * (scan_at numbers).blocks ≡ length done

first : Reached [] no_blocks
unfolding is_whole blocks_in scan_blocks up_from stage_at
first = record { is = refl; goes = refl; whole = refl; blocks = refl }

reached_end : (done numbers : List ℕ) → Reached done numbers → scan_end (scan_at numbers) ≡ open_of done
unfolding scan_end
reached_end done numbers r =
    let found = ap (λ (s : Scan). stage_found s.stage) r.is ∙ scan-found done in
    rw r.goes
    (ap (λ (f : Found). open_found f (scan_at numbers).rows) found
    ∙ open_whole done r.whole (scan_at numbers).rows
    (λ none. ap (λ (s : Scan). s.rows) r.is ∙ scan-rows done none))

-- the numbers of a scan that was reached
reached_as : (done : List ℕ) (s : Scan) → s ≡ scan_blocks start_scan (blocks_in done)
    → is_scan s ≡ true → is_whole (length done) ≡ true
    → block_length * s.blocks ≡ length done → Reached done (scan_numbers s)
reached_as done s is goes whole blocks = record {
  is = scan-back s ∙ is;
  goes = ap is_scan (scan-back s) ∙ goes;
  whole = whole;
  blocks = blocks;
}

reached_next : (done numbers p : List ℕ) → Reached done numbers → fits (scan_at numbers) p ≡ true
    → Reached (done ++ p) (scan_numbers (scan_blocks (scan_at numbers) (blocks_in p)))
unfolding is_whole
reached_next done numbers p r h =
    let s = scan_at numbers in
    let w = both (eqb (length p % block_length) 0) _ h in
    let even = eqb-true (length p % block_length) 0 w.0 in
    let few = leb-true (s.blocks + length p / block_length) max_blocks w.1 in
    let more = after_blocks (blocks_in p) s r.goes (omega (arith, blocks-count p)) in
    let long = length-append done p in
    let d : length done % block_length ≡ 0 = omega (arith, r.blocks) in
    let is : scan_blocks s (blocks_in p) ≡ scan_blocks start_scan (blocks_in (done ++ p)) =
    ap (λ (x : Scan). scan_blocks x (blocks_in p)) r.is ∙ sym (scan_append start_scan (blocks_in done) (blocks_in p))
    ∙ ap (scan_blocks start_scan) (sym (pieces_blocks done p d)) in
    let whole : is_whole (length (done ++ p)) ≡ true =
    and-true (eq-eqb (length (done ++ p) % block_length) 0 (omega (arith, long, d, even)))
    (le-leb (length (done ++ p) / block_length) max_blocks (omega (arith, long, r.blocks, few, even))) in
    reached_as (done ++ p) (scan_blocks s (blocks_in p)) is more.0 whole
    (omega (arith, more.1, blocks-count p, long, r.blocks, even))

-- a piece that is taken, and one that is not
taken : (numbers p : List ℕ) (ps : List (List ℕ)) (next : Scan)
    → feed_of (scan_at numbers) p ≡ record { number = 0; next = next }
    → (scan_all numbers (p ∷ ps) ≡ scan_all (scan_numbers next) ps)
    × (scanned numbers (p ∷ ps) ≡ p ∷ scanned (scan_numbers next) ps)
taken numbers p ps next e = (rw e, rw e)

not_taken : (numbers p : List ℕ) (ps : List (List ℕ)) (next : Scan)
    → feed_of (scan_at numbers) p ≡ record { number = number_of Size; next = next }
    → (scan_all numbers (p ∷ ps) ≡ scan_all numbers ps) × (scanned numbers (p ∷ ps) ≡ scanned numbers ps)
not_taken numbers p ps next e = (rw e, rw e)

pieces_from : (pieces : List (List ℕ)) (done numbers : List ℕ) → Reached done numbers
    → scan_end (scan_at (scan_all numbers pieces)) ≡ open_of (done ++ flatten (scanned numbers pieces))
unfolding flatten
pieces_from [] done numbers r = reached_end done numbers r ∙ ap open_of (sym (append-nil done))
pieces_from (p ∷ ps) done numbers r =
    let s = scan_at numbers in
    by_test {X = scan_end (scan_at (scan_all numbers (p ∷ ps))) ≡ open_of (done ++ flatten (scanned numbers (p ∷ ps)))}
    (fits s p)
    (λ t.
    let next = scan_blocks s (blocks_in p) in
    let one = taken numbers p ps next (feed-taken s p r.goes t) in
    ap (λ (l : List ℕ). scan_end (scan_at l)) one.0
    ∙ pieces_from ps (done ++ p) (scan_numbers next) (reached_next done numbers p r t)
    ∙ ap open_of (append_assoc done p (flatten (scanned (scan_numbers next) ps)))
    ∙ ap (λ (l : List (List ℕ)). open_of (done ++ flatten l)) (sym one.1))
    (λ f.
    let none = not_taken numbers p ps s (feed-not s p r.goes f) in
    ap (λ (l : List ℕ). scan_end (scan_at l)) none.0
    ∙ pieces_from ps done numbers r
    ∙ ap (λ (l : List (List ℕ)). open_of (done ++ flatten l)) (sym none.1))

pub pieces_verified : PiecesVerified
pieces_verified pieces = pieces_from pieces [] no_blocks first

-- ---- which numbers are accepted

accepted-from : (pieces : List (List ℕ)) (done numbers : List ℕ)
    → Reached done numbers → is_scan (scan_at (scan_all numbers pieces)) ≡ true
accepted-from [] done numbers r = r.goes
accepted-from (p ∷ ps) done numbers r =
    let s = scan_at numbers in
    by_test {X = is_scan (scan_at (scan_all numbers (p ∷ ps))) ≡ true} (fits s p)
    (λ t.
    let next = scan_blocks s (blocks_in p) in
    ap (λ (l : List ℕ). is_scan (scan_at l)) (taken numbers p ps next (feed-taken s p r.goes t)).0
    ∙ accepted-from ps (done ++ p) (scan_numbers next) (reached_next done numbers p r t))
    (λ f.
    ap (λ (l : List ℕ). is_scan (scan_at l)) (not_taken numbers p ps s (feed-not s p r.goes f)).0
    ∙ accepted-from ps done numbers r)

pub numbers-accepted : NumbersAccepted
numbers-accepted pieces = accepted-from pieces [] no_blocks first

-- a piece of one block
one_block : (b : List ℕ) → length b ≡ block_length → blocks_in b ≡ b ∷ []
unfolding blocks_in up_from
one_block b l =
    let e : length b / block_length ≡ 1 = omega arith in
    rw e (ap (λ (x : List ℕ). x ∷ []) (take_all block_length b (omega arith)))

-- blocks that are handed over one by one
by_blocks : (bs : List (List ℕ)) (s : Scan) → all is_block bs ≡ true
    → is_scan s ≡ true → s.blocks + length bs ≤ max_blocks
    → scan_at (scan_all (scan_numbers s) bs) ≡ scan_blocks s bs
unfolding scan_blocks
by_blocks [] s are t h = scan-back s
by_blocks (b ∷ bs) s are t h =
    let w = both (is_block b) (all is_block bs) are in
    let long : length b ≡ block_length =
    eqb-true (length b) block_length (both (eqb (length b) block_length) _ w.0).0 in
    let even : length b % block_length ≡ 0 = omega arith in
    let few : s.blocks + length b / block_length ≤ max_blocks = omega arith in
    let yes =
    and-true (eq-eqb (length b % block_length) 0 even)
    (le-leb (s.blocks + length b / block_length) max_blocks few) in
    let fed : feed_of (scan_at (scan_numbers s)) b ≡ record { number = 0; next = scan_block s b } =
    ap (λ (x : Scan). feed_of x b) (scan-back s) ∙ feed-taken s b t yes
    ∙ ap (λ (l : List (List ℕ)). record { number = 0; next = scan_blocks s l }) (one_block b long) in
    ap scan_at (taken (scan_numbers s) b bs (scan_block s b) fed).0
    ∙ by_blocks bs (scan_block s b) w.1 (scanned_next b s t (omega arith)) (omega (arith, blocks_after b s))

blocks-counted : (bs : List (List ℕ)) (s : Scan) → (scan_blocks s bs).blocks ≡ s.blocks + length bs
unfolding scan_blocks
blocks-counted [] s = omega arith
blocks-counted (b ∷ bs) s = blocks-counted bs (scan_block s b) ∙ omega (arith, blocks_after b s)

pub numbers-given : NumbersGiven
numbers-given numbers h =
    let g = scan-given (scan_at numbers) h in
    let few : length g.blocks ≤ max_blocks =
    omega (
      arith,
      blocks-counted g.blocks start_scan,
      ap (λ (s : Scan). s.blocks) g.give,
      (scan_facts (scan_at numbers) h).0,
    ) in (
      g.blocks,
      all_of are_bytes g.blocks (λ b m. (both (eqb (length b) block_length) _ (all_at is_block m g.are)).1),
      by_blocks g.blocks start_scan g.are refl (omega (arith, few)) ∙ g.give,
    )
