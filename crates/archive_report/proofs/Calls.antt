-- The calls: each of their ends is one case of its definition.
use Prim.Native.Nat.{ℕ, ◌+◌, ◌*◌, ◌/◌, ◌%◌, ◌≤◌, ◌<◌}
use native.Mathlib.Omega.{arith}
use mathlib.Core.Path.{◌≡◌, sym, ◌∙◌}
use mathlib.Core.Bool.{true, false, cond}
use mathlib.Core.List.{List}
use lib.Dec.{leb, eqb}
use lib.ListN.{length, get_or}
use borrow.Author.Tests.{lt-ltb, le-ltb, le-leb, lt-leb, eq-eqb, ne_eqb, eqb-true}
use Rattle.base_refusal.specs.Number.{number_of}
use Rattle.base_refusal.specs.declared.Refusal.{Refusal}
use Rattle.base_refusal.specs.declared.Refusal.TheVariants.{Argument, NotAccepted, Mismatch, Size, Transmitters}
use Rattle.base_refusal.proofs.Numbers.{refused-number}
use Rattle.base_lists.proofs.Tests.{by_test}
use Rattle.block_layout.specs.Block.{block_length}
use Rattle.archive_model.specs.Buffer.{Found, At, None, max_blocks, max_rows, is_whole, blocks_in, stage_found}
use Rattle.archive_model.specs.Append.{verdict, is_scan}
use Rattle.archive_report_model.specs.Report.{Report, max_archives, max_lines, is_tally, is_report, addition, add_of, share_of, line_of_report, no_line}
use Rattle.archive_report_model.specs.Pieces.{Tally, add_blocks, tally_addition, closing, Adding, adding, rows_so_far, is_adding, is_piece, piece_answer, add_piece_of, ended_of}

-- beside a refusal the lines stay
pub stay : {xs : List ℕ} (n : ℕ) (why : Refusal) (new old : List ℕ)
    → n ≡ number_of why → xs ≡ old → xs ≡ cond (eqb n 0) new old
stay n why new old e s = rw (ne_eqb n 0 (λ z. refused-number why (sym e ∙ z))) s

-- what they are where nothing was refused
pub done_as : (n : ℕ) (new also old : List ℕ) → (n ≡ 0 → new ≡ also) → cond (eqb n 0) new old ≡ cond (eqb n 0) also old
done_as n new also old f =
    by_test {X = cond (eqb n 0) new old ≡ cond (eqb n 0) also old}
    (eqb n 0) (λ t. rw t (f (eqb-true n 0 t))) (λ t. rw t)

-- where an archive is added, no transmitter was one too many, and its lines are those of the tally
pub closing-zero : (s : Report) (t : Tally) → (closing s t).number ≡ 0
    → (t.over ≡ false) × ((closing s t).next.lines ≡ t.lines)
unfolding closing
closing-zero s t z = go (stage_found t.scan.stage) z
  where
    go : (f : Found) → (tally_addition s t f).number ≡ 0
        → (t.over ≡ false) × ((tally_addition s t f).next.lines ≡ t.lines)
    go (At k) z = absurd (refused-number Mismatch z)
    go None z =
        by_test {X = (t.over ≡ false) × ((tally_addition s t None).next.lines ≡ t.lines)}
        (leb max_archives s.archives)
        (λ m. absurd (refused-number Argument (rw m at z)))
        (λ m.
        by_test {X = (t.over ≡ false) × ((tally_addition s t None).next.lines ≡ t.lines)} t.over
        (λ o. absurd (refused-number Transmitters (rw (m, o) at z)))
        (λ o. (o, rw (m, o))))

module _ (s : Report) (t : Tally) where
  pub closed_full : max_archives ≤ s.archives → addition (number_of Argument) 0 s ≡ tally_addition s t None
  closed_full h = rw (le-leb max_archives s.archives h)

  module _ (more : s.archives < max_archives) where
    pub closed_over : t.over ≡ true → addition (number_of Transmitters) 0 s ≡ tally_addition s t None
    closed_over h = rw (lt-leb max_archives s.archives more, h)

    pub closed-done : t.over ≡ false
        → addition 0 0 (record { archives = s.archives + 1; lines = t.lines; kept = t.kept; loose = t.loose })
        ≡ tally_addition s t None
    closed-done h = rw (lt-leb max_archives s.archives more, h)

-- ---- the test of a report

module _ (s : Report) where
  pub report-archives : max_archives < s.archives → false ≡ is_report s
  unfolding is_report
  report-archives h = rw (lt-leb s.archives max_archives h)

  module _ (few : s.archives ≤ max_archives) where
    pub report-lines : max_lines < length s.lines → false ≡ is_report s
    unfolding is_report
    report-lines h = rw (le-leb s.archives max_archives few, lt-leb (length s.lines) max_lines h)

    module _ (short : length s.lines ≤ max_lines) where
      pub report-rows : max_rows * s.archives < s.kept + s.loose → false ≡ is_report s
      unfolding is_report
      report-rows h =
          rw (
            le-leb s.archives max_archives few,
            le-leb (length s.lines) max_lines short,
            lt-leb (s.kept + s.loose) (max_rows * s.archives) h,
          )

      pub report-tally : s.kept + s.loose ≤ max_rows * s.archives
          → is_tally s.lines s.kept s.loose ≡ is_report s
      unfolding is_report
      report-tally h =
          rw (
            le-leb s.archives max_archives few,
            le-leb (length s.lines) max_lines short,
            le-leb (s.kept + s.loose) (max_rows * s.archives) h,
          )

-- ---- the calls

module _ (s : Report) (no : is_report s ≡ false) where
  pub add_not : (buffer : List ℕ) → addition (number_of NotAccepted) 0 s ≡ add_of s buffer
  unfolding add_of
  add_not buffer = rw no

  pub share_not : (received : ℕ) → record { number = number_of NotAccepted; thousandths = 0 } ≡ share_of s received
  unfolding share_of
  share_not received = rw no

  pub line-not : (i : ℕ) → record { number = number_of NotAccepted; line = no_line } ≡ line_of_report s i
  unfolding line_of_report
  line-not i = rw no

module _ (s : Report) (yes : is_report s ≡ true) where
  pub add_size : (buffer : List ℕ) → is_whole (length buffer) ≡ false → addition (number_of Size) 0 s ≡ add_of s buffer
  unfolding add_of verdict
  add_size buffer h = rw (yes, h)

  pub share_zero : (received : ℕ) → received ≡ 0
      → record { number = number_of Argument; thousandths = 0 } ≡ share_of s received
  unfolding share_of
  share_zero received h = rw (yes, eq-eqb received 0 h)

  pub share_few : (received : ℕ) → (received ≡ 0 → ⊥) → received < s.kept + s.loose
      → record { number = number_of Argument; thousandths = 0 } ≡ share_of s received
  unfolding share_of
  share_few received z h = rw (yes, ne_eqb received 0 z, lt-ltb received (s.kept + s.loose) h)

  pub share_done : (received : ℕ) → (received ≡ 0 → ⊥) → s.kept + s.loose ≤ received
      → record { number = 0; thousandths = 1000 * (s.kept + s.loose) / received } ≡ share_of s received
  unfolding share_of
  share_done received z h = rw (yes, ne_eqb received 0 z, le-ltb received (s.kept + s.loose) h)

  pub line_none : (i : ℕ) → length s.lines ≤ i
      → record { number = number_of Argument; line = no_line } ≡ line_of_report s i
  unfolding line_of_report
  line_none i h = rw (yes, le-leb (length s.lines) i h)

  pub line-found : (i : ℕ) → i < length s.lines
      → record { number = 0; line = get_or s.lines i no_line } ≡ line_of_report s i
  unfolding line_of_report
  line-found i h = rw (yes, lt-leb (length s.lines) i h)

-- ---- in pieces

module _ (a : Adding) where
  pub adding-report : is_report a.report ≡ false → false ≡ is_adding a
  unfolding is_adding
  adding-report h = rw h

  module _ (yes : is_report a.report ≡ true) where
    pub adding-scan : is_scan a.tally.scan ≡ false → false ≡ is_adding a
    unfolding is_adding
    adding-scan h = rw (yes, h)

    module _ (scanned : is_scan a.tally.scan ≡ true) where
      pub adding-lines : max_lines < length a.tally.lines → false ≡ is_adding a
      unfolding is_adding
      adding-lines h = rw (yes, scanned, lt-leb (length a.tally.lines) max_lines h)

      module _ (few : length a.tally.lines ≤ max_lines) where
        pub adding-rows : (a.tally.kept + a.tally.loose ≡ rows_so_far a → ⊥) → false ≡ is_adding a
        unfolding is_adding
        adding-rows h =
            rw (
              yes,
              scanned,
              le-leb (length a.tally.lines) max_lines few,
              ne_eqb (a.tally.kept + a.tally.loose) (rows_so_far a) h,
            )

        pub adding-tally : a.tally.kept + a.tally.loose ≡ rows_so_far a
            → is_tally a.tally.lines a.tally.kept a.tally.loose ≡ is_adding a
        unfolding is_adding
        adding-tally h =
            rw (
              yes,
              scanned,
              le-leb (length a.tally.lines) max_lines few,
              eq-eqb (a.tally.kept + a.tally.loose) (rows_so_far a) h,
            )

  module _ (no : is_adding a ≡ false) where
    pub feed-not : (piece : List ℕ) → piece_answer (number_of NotAccepted) a ≡ add_piece_of a piece
    unfolding add_piece_of
    feed-not piece = rw no

    pub end_not : addition (number_of NotAccepted) 0 a.report ≡ ended_of a
    unfolding ended_of
    end_not = rw no

  module _ (yes : is_adding a ≡ true) where
    pub feed-size : (piece : List ℕ) → is_piece a.tally.scan piece ≡ false
        → piece_answer (number_of Size) a ≡ add_piece_of a piece
    unfolding add_piece_of
    feed-size piece h = rw (yes, h)

    pub feed-done : (piece : List ℕ) → is_piece a.tally.scan piece ≡ true → (t : Tally)
        → t ≡ add_blocks a.tally (blocks_in piece) → piece_answer 0 (adding a.report t) ≡ add_piece_of a piece
    unfolding add_piece_of
    feed-done piece h t e = rw (yes, h, e)

    pub end_done : closing a.report a.tally ≡ ended_of a
    unfolding ended_of
    end_done = rw yes

module _ (blocks len : ℕ) where
  pub piece_odd : (len % block_length ≡ 0 → ⊥) → false ≡ is_whole (block_length * blocks + len)
  unfolding is_whole
  piece_odd h =
      let odd : (block_length * blocks + len) % block_length ≡ 0 → ⊥ = λ z. h (omega arith) in
      rw (ne_eqb ((block_length * blocks + len) % block_length) 0 odd)

  pub piece_whole : len % block_length ≡ 0
      → leb (blocks + len / block_length) max_blocks ≡ is_whole (block_length * blocks + len)
  unfolding is_whole
  piece_whole h =
      let even : (block_length * blocks + len) % block_length ≡ 0 = omega arith in
      let sum : (block_length * blocks + len) / block_length ≡ blocks + len / block_length = omega arith in
      rw (eq-eqb ((block_length * blocks + len) % block_length) 0 even, sum)
