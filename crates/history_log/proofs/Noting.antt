use Rattle.std.specs.Prelude.{Option, Some}
-- The tool's state after a log: it is lawful, so that it is written.
--     level-bad, all-archived, all-stands   a log's lines with the first one, which says no reception
--     lines-few, lines-counted              how many lines a text has
--     note-said, note-lawful                the state is one of the model of the disk, and lawful
--     note-is                               what is written is that state
use Prim.Native.Nat.{ℕ, zero, suc, ◌+◌, ◌-◌, ◌*◌, ◌/◌, ◌%◌, ◌^◌, ◌≤◌, ◌<◌, min}
use native.Mathlib.Nat.{mod-eq_of_lt}
use native.Mathlib.Omega.{arith}
use mathlib.Core.Path.{◌≡◌, refl, sym, ap, ap₂, ◌∙◌}
use mathlib.Core.Bool.{Bool, true, false, cond}
use mathlib.Core.List.{List, [], ◌∷◌, ◌++◌, map, append-nil}
use lib.Dec.{leb, ltb, eqb}
use lib.ListN.{
  length,
  get_or,
  take,
  drop,
  replicate,
  length-append,
  length-take,
  length-drop,
  length-replicate,
  take-append-drop,
  drop_of_length-le,
}
use lib.Seq.{take_all, drop-append_seam}
use borrow.Author.Tests.{le-leb, lt-leb, lt-ltb, ltb-false, leb-true, leb-false, eq-eqb, ne_eqb, eqb-false, ltb-true}
use Rattle.base_bytes.specs.Bytes.{index_of}
use Rattle.base_lists.specs.Lists.{equal}
use Rattle.base_lists.proofs.Choice.{neither}
use Rattle.base_lists.proofs.Equal.{equal_eq}
use Rattle.base_lists.proofs.Tests.{branch, by_test, and-true}
use Rattle.base_buffers.specs.Buffer.{part, resized}
use Rattle.base_buffers.proofs.Buffer.{resized-length, resized-padded, resized_whole}
use Rattle.base_buffers.proofs.Segments.{part_length, part-ends}
use Rattle.base_buffers.proofs.Stores.{take_rest}
use Rattle.block_layout.specs.Block.{cells_per_block, block_length}
use Rattle.collector_model.specs.View.{View, fresh}
use Rattle.collector_model.specs.Image.{image_length, image_of}
use Rattle.collector_model.specs.Reference.{log_of, model_view}
use Rattle.collector_model.proofs.Invariant.{good_fresh}
use Rattle.collector_model.proofs.Image.{fits_layout, image-length}
use Rattle.collector_model.proofs.Theorem.{fresh-model}
use Rattle.text_lines.specs.Ascii.{newline}
use Rattle.text_lines.specs.Reading.{Reading, bad, level_line, setting_of, line_reading, line_limit}
use Rattle.text_program.specs.Lines.{prepend, lines_of, text_of, output_of}
use Rattle.text_program.specs.Chunks.{at_line_start, feed_text}
use Rattle.text_program.specs.Collect.{Phase, over}
use Rattle.text_program.proofs.Segments.{Drained}
use Rattle.archive_model.specs.Row.{Row, is_blank}
use Rattle.archive_model.specs.Buffer.{max_blocks, max_rows, buffer_of, rows_in}
use Rattle.archive_model.specs.Append.{verdict, block_at}
use Rattle.archive_model.proofs.Blocks.{Fits}
use Rattle.archive_model.proofs.Buffers.{used-block}
use Rattle.archive_model.proofs.Claims.{exact}
use Rattle.archive_model.proofs.Cursor.{blocks_of}
use Rattle.archive_fill.specs.Fill.{rows_given}
use Rattle.text_collect.specs.Printed.{past_after_lines}
use Rattle.text_collect.specs.Session.{Receiver, running_at}
use Rattle.text_collect.specs.Rows.{row_times, row_records, line_ticks}
use Rattle.text_collect.proofs.Storing.{times_bounded, records_bounded, ticks_bounded}
use Rattle.journal_model.specs.Rows.{model_rows}
use Rattle.journal_model.specs.Claims.{last_block, IsPlant, rows_after, kept_state}
use Rattle.journal_model.proofs.Rows.{took_all}
use Rattle.journal_model.proofs.Kept.{rows_fit}
use Rattle.journal_model.proofs.Whole.{first_lines}
use Rattle.journal_model.proofs.Blocks.{block-long}
use Rattle.journal_state.specs.State as state
use Rattle.journal_state.specs.Lawful.{is_placed, is_printed, is_lawful_state}
use Rattle.journal_state.specs.Claims as claims
use Rattle.journal_recovery.specs.Claims.{IsSaid}
use Rattle.journal_recovery.proofs.Recovers.{law}
use Rattle.c_lines.specs.Calls.{level_number, first_number, first_used, SkippedTo}
use Rattle.history_archived.specs.Archived.{archived_of}
use Rattle.history_archived.specs.Claims.{rows_said}
use Rattle.history_archived.proofs.Archived.{lines_archived}
use Rattle.history_archived.proofs.Newlines.{newlines, ticks-count}
use Rattle.history_log.specs.Keep.{
  state_after_log,
  taken_of,
  state_numbers,
  tail_length_of,
  tail_of,
  note_of,
  capacity_of,
  is_no_name,
}
use Rattle.history_log.specs.Private.{last_in, note_with, states}
use Rattle.history_log.proofs.Said.{
  out-more,
  out_none,
  out_open,
  last_full,
  first_level,
  behind_line,
  first_said,
  none_said,
}
use Rattle.history_log.proofs.States.{
  states_bounded,
  no_text,
  first_after,
  first_state,
  none_state,
  state_whole,
}

-- ---- the first line says no reception

level_is : (n : ℕ) (l : List ℕ) → line_reading l ≡ get_or (map line_reading (map level_line (0 ∷ 1 ∷ 2 ∷ []))) n bad
    → get_or (bad ∷ bad ∷ bad ∷ []) n bad ≡ bad → line_reading l ≡ bad
level_is n l e z = e ∙ ap (λ (x : List Reading). get_or x n bad) first_lines ∙ z

level-bad : (l : List ℕ) (n : ℕ) → setting_of l ≡ Some n → line_reading l ≡ bad
unfolding setting_of
level-bad l n =
    branch (λ (x : (Option ℕ)). x ≡ Some n → line_reading l ≡ bad) (equal l (level_line 0))
    (λ t _. level_is 0 l (ap line_reading (equal_eq l (level_line 0) (rw t tt))) refl)
    λ _. branch (λ (x : (Option ℕ)). x ≡ Some n → line_reading l ≡ bad) (equal l (level_line 1))
    (λ t _. level_is 1 l (ap line_reading (equal_eq l (level_line 1) (rw t tt))) refl)
    λ _. branch (λ (x : (Option ℕ)). x ≡ Some n → line_reading l ≡ bad) (equal l (level_line 2))
    (λ t _. level_is 2 l (ap line_reading (equal_eq l (level_line 2) (rw t tt))) refl)
    λ _ e. let z : ◌≡◌ {A = ℕ} 0 1 = cc in absurd (omega arith)

-- ---- the lines of a log, with the first one

module _ (log : List ℕ) where
  abbrev end : ℕ
  end = index_of newline log

  abbrev line : List ℕ
  line = take end log

  abbrev lines : List (List ℕ)
  lines = lines_of (taken_of log)

  -- a right first line ends
  record Begun : Type 0 where
    setting : ℕ
    few : setting ≤ 2
    first : setting ≡ first_number log
    inside : end < length log
    used : first_used log ≡ end + 1
    quiet : line_reading line ≡ bad

  begun : first_number log ≤ 2 → Begun
  begun h =
      by_test (ltb end (length log))
      (λ t.
      let e : first_number log ≡ level_number (setting_of line) = rw t in
      let s = first_level (setting_of line) (first_number log) e h in
      record {
        setting = first_number log;
        few = h;
        first = refl;
        inside = ltb-true end (length log) t;
        used = rw t;
        quiet = level-bad line (first_number log) s;
      })
      (λ f. absurd (let q : first_number log ≡ 4 = rw f in omega arith))

  module _ (b : Begun) where
    abbrev here : Phase Receiver
    here = running_at b.setting fresh

    rest_is : drop (first_used log) log ≡ drop (end + 1) log
    rest_is = ap (λ (n : ℕ). drop n log) b.used

    -- it stays where it is, and gives nothing
    rows_behind : rows_said here log ≡ rows_said here (drop (first_used log) log)
    rows_behind =
        ap₂ rows_given (behind_line log row_times times_bounded here here (rw b.quiet) (rw b.quiet) b.inside)
        (behind_line log row_records records_bounded here here (rw b.quiet) (rw b.quiet) b.inside)
        ∙ ap (rows_said here) (sym rest_is)

    state_behind : output_of states here log ≡ output_of states here (drop (first_used log) log)
    state_behind =
        behind_line log states states_bounded here here refl (rw b.quiet) b.inside
        ∙ ap (output_of states here) (sym rest_is)

    begun_archived : model_rows [] (lines_of log) ≡ archived_of log
    unfolding past_after_lines
    begun_archived =
        sym (ap (λ (v : View). rows_said (running_at b.setting v) log) fresh-model
        ∙ lines_archived b.setting [] log)
        ∙ rows_behind ∙ sym (first_said log b.setting b.first b.few)

    begun_stands : image_of (model_view (log_of (past_after_lines [] (lines_of log)))) ≡ image_of (state_after_log log)
    unfolding output_of
    begun_stands =
        sym (first_after (Some b.setting) (lines_of log))
        ∙ sym (rw (no_text (lines_of log) here))
        ∙ state_behind ∙ sym (first_state log b.setting b.first b.few) ∙ state_whole log

  pub all_archived : model_rows [] lines ≡ archived_of log
  unfolding taken_of lines_of model_rows
  all_archived =
      by_test (leb (first_number log) 2)
      (λ t. rw t (begun_archived (begun (leb-true (first_number log) 2 t))))
      (λ f. rw f (sym (none_said log (leb-false (first_number log) 2 f))))

  pub all_stands : image_of (model_view (log_of (past_after_lines [] lines))) ≡ image_of (state_after_log log)
  unfolding taken_of lines_of past_after_lines
  all_stands =
      by_test (leb (first_number log) 2)
      (λ t. rw t (begun_stands (begun (leb-true (first_number log) 2 t))))
      (λ f.
      rw f
      (ap image_of (sym fresh-model) ∙ sym (none_state log (leb-false (first_number log) 2 f)) ∙ state_whole log))

-- ---- how much is taken

module _ (log : List ℕ) where
  pub none_taken : 2 < first_number log → 0 ≡ length (taken_of log)
  unfolding taken_of
  none_taken h = rw (lt-leb (first_number log) 2 h)

  pub all_text : first_number log ≤ 2 → length log ≡ length (taken_of log)
  unfolding taken_of
  all_text h = rw (le-leb (first_number log) 2 h)

  pub text-taken : take (length (taken_of log)) log ≡ taken_of log
  unfolding taken_of
  text-taken =
      by_test (leb (first_number log) 2) (λ t. rw t (take_all (length log) log (omega arith))) (λ f. rw f)

  pub text-within : length (taken_of log) ≤ length log
  unfolding taken_of
  text-within = by_test (leb (first_number log) 2) (λ t. rw t (omega arith)) (λ f. rw f (omega arith))

  pub tail_there : let n = length (taken_of log) in let k = tail_length_of (taken_of log) in
      take (n - (n - k)) (drop (n - k) log) ≡ drop (n - k) (taken_of log)
  unfolding taken_of
  tail_there =
      by_test (leb (first_number log) 2)
      (λ t. rw t (take_rest log (length log) (length log - tail_length_of log) refl))
      (λ f. rw f)

-- ---- how many lines

prepend_few : (c : ℕ) (ls : List (List ℕ)) → length (prepend c ls) ≤ length ls + 1
prepend_few c [] = omega arith
prepend_few c (l ∷ ls) = omega arith

pub lines_few : (x : List ℕ) → length (lines_of x) ≤ length x
unfolding lines_of
lines_few [] = omega arith
lines_few (c ∷ x) = go (eqb c newline) (lines_few x)
  where
    go : (t : Bool) → length (lines_of x) ≤ length x
        → length (cond t ([] ∷ lines_of x) (prepend c (lines_of x))) ≤ length (c ∷ x)
    go true h = omega arith
    go false h = omega (arith, prepend_few c (lines_of x))

newlines_few : (x : List ℕ) → newlines x ≤ length x
unfolding newlines
newlines_few [] = omega arith
newlines_few (c ∷ x) = go (eqb c newline) (newlines_few x)
  where
    go : (t : Bool) → newlines x ≤ length x → cond t 1 0 + newlines x ≤ length (c ∷ x)
    go true h = omega arith
    go false h = omega arith

ticks_of : (ls : List (List ℕ)) (s : Phase Receiver) → length (text_of line_ticks s ls) ≡ length ls
unfolding text_of
ticks_of [] s = refl
ticks_of (l ∷ ls) s = omega (arith, ticks_of ls (line_ticks.next s l))

module _ (text : List ℕ) {used lines : ℕ} (k : SkippedTo text (length text) used lines) where
  abbrev front : List ℕ
  front = take used text

  abbrev ticks : List ℕ
  ticks = feed_text line_ticks line_limit (at_line_start over) front

  split : length (lines_of text) ≡ lines + length (output_of line_ticks over (drop used text))
  unfolding output_of
  split =
      let d : Drained line_ticks line_limit over front over ticks = record { state = k.whole; text = refl } in
      let o = ap (output_of line_ticks over) (sym (take-append-drop used text))
      ∙ out-more line_ticks ticks_bounded (drop used text) d in
      let w = append-nil (text_of line_ticks over (lines_of text)) in
      omega (
        arith,
        ticks_of (lines_of text) over,
        ap length w,
        ap length o,
        length-append ticks (output_of line_ticks over (drop used text)),
        k.ticks,
      )

  pub lines_under : lines ≤ used
  lines_under =
      omega (
        arith,
        k.ticks,
        ticks-count front (at_line_start over),
        newlines_few front,
        length-take used text,
      )

  pub more-lines : used < length text → lines + 1 ≡ length (lines_of text)
  more-lines h =
      let y = drop used text in
      let o = k.rest (omega (arith, lines_under)) in
      let one = out_open line_ticks ticks_bounded over y o
      ∙ last_full line_ticks ticks_bounded over (take line_limit y)
      (omega (arith, length-take line_limit y, length-drop used text)) in
      omega (arith, split, ap length one)

  pub all_lines : length text ≤ used → lines ≡ length (lines_of text)
  all_lines h =
      let none = ap (output_of line_ticks over) (drop_of_length-le text {i = used} h)
      ∙ out_none line_ticks ticks_bounded over in
      omega (arith, split, ap length none)

-- ---- zeros behind

zeros_blank : (n : ℕ) → is_blank (replicate n 0) ≡ true
zeros_blank zero = refl
zeros_blank (suc n) = zeros_blank n

blank_behind : (m : ℕ) (xs : List ℕ) → length xs ≤ m → is_blank (drop (length xs) (resized m xs)) ≡ true
blank_behind m xs h =
    rw (resized-padded m xs h, drop-append_seam xs (replicate (m - length xs) 0)) (zeros_blank (m - length xs))

-- ---- the block with the last row

module _ (archive : List ℕ) (rows : ℕ) where
  pub none_last : rows ≡ 0 → resized block_length [] ≡ last_in archive rows
  none_last z = rw (z, resized-padded block_length [] (omega arith))

  pub some_last : (rows ≡ 0 → ⊥) → rows ≤ capacity_of (length archive)
      → let at = block_length * ((rows - 1) / cells_per_block) in
      resized block_length (part at (at + block_length - at) archive) ≡ last_in archive rows
  some_last some room =
      let at = block_length * ((rows - 1) / cells_per_block) in
      rw (ne_eqb rows 0 some, part-ends at block_length archive)
      (resized_whole block_length (part at block_length archive) (part_length at block_length archive (omega arith)))

-- ---- the state

module _ (log archive name : List ℕ) (right : (verdict archive).number ≡ 0)
    (room : length (rows_in archive ++ archived_of log) ≤ capacity_of (length archive)) (small : length log < 2 ^ 64)
    (named : is_no_name name ≡ false) where
  abbrev before : List Row
  before = rows_in archive

  abbrev rows : List Row
  rows = before ++ archived_of log

  abbrev text : List ℕ
  text = taken_of log

  abbrev count : ℕ
  count = length (lines_of text)

  abbrev note : state.Kept
  note = note_of log archive name

  plant : IsPlant max_blocks before
  plant = record { some = omega arith; most = omega arith; fit = (exact archive right).1 }

  all_taken : rows_after before (lines_of text) count ≡ rows
  all_taken =
      ap (λ (l : List (List ℕ)). before ++ model_rows [] l) (take_all count (lines_of text) (omega arith))
      ∙ ap (λ (l : List Row). before ++ l) (all_archived log)

  image_is : image_of (model_view (log_of (past_after_lines [] (take count (lines_of text)))))
      ≡ image_of (state_after_log log)
  image_is =
      ap (λ (l : List (List ℕ)). image_of (model_view (log_of (past_after_lines [] l))))
      (take_all count (lines_of text) (omega arith))
      ∙ all_stands log

  few : length rows ≤ max_rows
  few = omega (arith, (blocks_of archive right).1)

  text-small : length text < 2 ^ 64
  unfolding taken_of
  text-small = by_test (leb (first_number log) 2) (λ t. rw t small) (λ f. rw f (omega arith))

  name_some : (length name ≡ 0 → ⊥) × (length name ≤ state.max_name)
  name_some =
      let n = neither (eqb (length name) 0) (ltb state.max_name (length name)) named in
      (eqb-false (length name) 0 n.0, ltb-false state.max_name (length name) n.1)

  tail_long : length (drop (length text - tail_length_of text) text) ≡ tail_length_of text
  tail_long = omega (arith, length-drop (length text - tail_length_of text) text)

  fit-rows : Fits rows
  fit-rows = rw all_taken at (rows_fit max_blocks before (lines_of text) plant.fit count)

  last_long : length (last_block max_blocks rows) ≡ block_length
  unfolding last_block
  last_long =
      by_test (eqb (length rows) 0) (λ t. rw t (length-replicate {A = ℕ} block_length 0))
      (λ f. rw f (block-long max_blocks rows ((length rows - 1) / cells_per_block) fit-rows))

  image-long : length (image_of (state_after_log log)) ≡ image_length
  image-long =
      let good = (took_all (lines_of text) [] (rw fresh-model at good_fresh)).good in
      ap length (sym (all_stands log)) ∙ image-length 0 _ (fits_layout good)

  sized : claims.IsKept note
  unfolding note_of
  sized = record {
    count = refl;
    fit = rw (
      lt-ltb count (2 ^ 64) (omega (arith, lines_few text, text-small)),
      lt-ltb (length before) (2 ^ 64) (omega (arith, few, length-append before (archived_of log))),
      lt-ltb (length name) (2 ^ 64) (omega (arith, name_some.1)),
      lt-ltb (length text) (2 ^ 64) text-small,
      lt-ltb (tail_length_of text) (2 ^ 64) (omega arith),
    );
    name = resized-length state.max_name name;
    last = last_long;
    image = image-long;
    tail = resized-length state.max_tail (drop (length text - tail_length_of text) text);
  }

  placed : is_placed note ≡ true
  unfolding note_of is_placed
  placed =
      let n = tail_length_of text in
      let kept = drop (length text - n) text in
      let blank = blank_behind state.max_tail kept (omega (arith, tail_long)) in
      and-true (le-leb n state.max_tail (omega arith)) (and-true (rw tail_long at blank) (eq-eqb n n refl))

  pub note_said : IsSaid (kept_state max_blocks before (lines_of text) count) note
  unfolding note_of is_placed is_printed
  note_said = record {
    sized = sized;
    says = sym (λ i. record {
      lines = count;
      limit = max_blocks;
      had = length before;
      last = last_block max_blocks (all_taken i);
      image = image_is i;
    });
    named = omega (arith, name_some);
    short = name_some.1;
    clean = blank_behind state.max_name name name_some.1;
    first = refl;
    placed = placed;
    printed = refl;
  }

  pub note_lawful : is_lawful_state note ≡ true
  note_lawful = law before (lines_of text) plant count note note_said (rw all_taken few)

  -- the block with the last row
  last_is : last_in (buffer_of (length archive) rows) (length rows) ≡ last_block max_blocks rows
  unfolding last_block
  last_is =
      let m = length archive / block_length in
      let k = (length rows - 1) / cells_per_block in
      let low : k % max_blocks ≡ k = mod-eq_of_lt (omega (arith, few)) in
      let whole = ap (λ (n : ℕ). buffer_of n rows) (blocks_of archive right).0 in
      by_test (eqb (length rows) 0) (λ t. rw t)
      (λ f.
      let some = eqb-false (length rows) 0 f in
      rw (f, low) (ap (block_at k) whole
      ∙ used-block rows m fit-rows room k (omega arith) (omega (arith, some))))

  pub note_is : (image : List ℕ) → image ≡ image_of (state_after_log log)
      → note_with log (buffer_of (length archive) rows) (length before) (length rows) name image ≡ note
  unfolding note_of
  note_is image e = rw (e, last_is)

-- ---- what is written

module _ (log : List ℕ) {text lines : ℕ} (t : text ≡ length (taken_of log))
    (l : lines ≡ length (lines_of (take (text - 0) log))) where
  pub lines_are : lines ≡ length (lines_of (taken_of log))
  lines_are =
      let z : text - 0 ≡ length (taken_of log) = omega (arith, t) in
      l ∙ ap (λ (n : ℕ). length (lines_of (take n log))) z
      ∙ ap (λ (x : List ℕ). length (lines_of x)) (text-taken log)

  pub note_made : (archive name image : List ℕ) (had rows : ℕ) {kept : ℕ} {numbers field last tail : List ℕ}
      → kept ≡ min text state.max_tail
      → tail ≡ resized block_length (take (text - (text - kept)) (drop (text - kept) log))
      → field ≡ resized state.max_name name → last ≡ last_in archive rows
      → numbers ≡ state_numbers lines had (length name) text kept
      → state.kept numbers field last image tail ≡ note_with log archive had rows name image
  note_made archive name image had rows {kept} {numbers} {field} {last} {tail} k a f b n =
      let bytes : kept ≡ tail_length_of (taken_of log) = k ∙ ap (λ (x : ℕ). min x state.max_tail) t in
      let tail_is : tail ≡ tail_of (taken_of log) =
      a ∙ (λ i. resized block_length (take (t i - (t i - bytes i)) (drop (t i - bytes i) log)))
      ∙ ap (resized block_length) (tail_there log) in
      let numbers-are = n ∙ (λ i. state_numbers (lines_are i) had (length name) (t i) (bytes i)) in
      λ i. state.kept (numbers-are i) (f i) (b i) image (tail_is i)
