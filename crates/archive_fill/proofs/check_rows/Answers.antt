-- `archive_fill::check_rows` meets its contract.
use mathlib.Core.Path.{◌≡◌, refl, sym, ap, ◌∙◌}
use mathlib.Core.List.{List, ◌++◌}
use Prim.Native.Nat.{ℕ, ◌+◌, ◌*◌, ◌≤◌, ◌<◌}
use native.Mathlib.Omega.{arith}
use borrow.Author.Tests.{eq-eqb}
use lib.ListN.{length, get_or, drop, length-append, length-drop}
use lib.Seq.{take_at, drop_at, drop-drop}
use Rattle.base_refusal.specs.Number.{number_of}
use Rattle.base_refusal.specs.declared.Refusal.{Refusal}
use Rattle.radio_erp1.specs.Subtelegram.{check_of}
use Rattle.base_buffers.specs.Buffer.{part}
use Rattle.archive_model.specs.Row.{Row}
use Rattle.archive_model.specs.Append.{Verdict, no_row}
use Rattle.archive_fill.specs.Fill.{row_length, row_given, rows_given, check_rows}
use Rattle.archive_fill.proofs.Records.{rows-count, row_get}
use Rattle.archive_fill.proofs.Cases.{check_next, check-stop, check_end}
use Rattle.archive_fill.proofs.check_rows.Invariants.{Checking}
use Rattle.archive_fill.proofs.check_rows.Goals as goal

-- a turn
module _ (times rows all given left : List ℕ) (size i : ℕ) (sized : length rows ≡ row_length * length times)
    (t : Checking times rows size i all) (e : all ≡ given ++ left) (l : length given ≡ size) where
  long : length given ≡ row_length
  long = l ∙ t.sized

  low : i < length times
  low =
      omega (
        arith,
        ap length t.are,
        ap length e,
        length-append given left,
        length-drop (row_length * i) rows,
        long,
        sized,
        t.bounded,
      )

  -- the record is that of row i, so what its check tells is told of that row
  row_told : (n : ℕ) → n ≡ check_of (row_given 0 given).bytes
      → n ≡ check_of (get_or (rows_given times rows) i no_row).bytes
  row_told n told =
      told
      ∙ ap (λ (g : List ℕ). check_of (row_given 0 g).bytes)
      (sym (take_at given left row_length long) ∙ ap (λ (x : List ℕ). part 0 row_length x) (sym e ∙ t.are))
      ∙ sym (ap (λ (r : Row). check_of r.bytes) (row_get times rows i low))

  stop : (why : Refusal) → number_of why ≡ check_of (row_given 0 given).bytes
      → ◌≡◌ {A = Verdict} (record { number = number_of why; position = i }) (check_rows 0 (rows_given times rows))
  stop why told =
      check-stop (rows_given times rows) i (omega (arith, low, rows-count times rows)) why (row_told _ told) ∙ t.rest

  next : (size' : ℕ) → size' ≡ size → 0 ≡ check_of (row_given 0 given).bytes → Checking times rows size' (i + 1) left
  next size' s told =
      let valid = eq-eqb (check_of (get_or (rows_given times rows) i no_row).bytes) 0 (sym (row_told 0 told)) in
      let more : row_length * i + row_length ≡ row_length * (i + 1) = omega arith in
      record {
        sized = s ∙ t.sized;
        bounded = omega (arith, low);
        are =
            sym (drop_at given left row_length long) ∙ ap (drop row_length) (sym e ∙ t.are)
            ∙ drop-drop row_length (row_length * i) rows
            ∙ ap (λ (a : ℕ). drop a rows) more;
        rest = sym (check_next (rows_given times rows) i (omega (arith, low, rows-count times rows)) valid) ∙ t.rest;
      }

first : (times rows left : List ℕ) (size i : ℕ) → size ≡ row_length → i ≡ 0 → left ≡ rows
    → Checking times rows size i left
first times rows left size i s z e = rw z (record { sized = s; bounded = omega arith; are = e; rest = refl })

pub loop-i-init : goal.loop-i-init
loop-i-init c = first c.args.times.now c.args.rows.now _ _ _ (cc) (cc) (cc)

pub returns-in-Err : goal.returns-in-Err
returns-in-Err c =
    let s = c.in-Some.ensures.steps in
    rw s.1
    (stop c.args.times.now c.args.rows.now _ c.in-Some.given.now _ _ _ c.requires c.loop-i.invariant s.0.1.0 s.0.1.1
    c.in-Err.why c.in-Err.ensures)

pub loop-i-preserved : goal.loop-i-preserved
loop-i-preserved c =
    let s = c.in-Some.ensures.steps in
    rw s.2
    (next c.args.times.now c.args.rows.now _ c.in-Some.given.now _ _ _ c.requires c.loop-i.invariant s.0.1.0 s.0.1.1
    _ s.0.0 c.in_default.ensures)

pub returns : goal.returns
returns c =
    let a = c.args in
    let t = c.loop-i.invariant in
    let i = c.loop-i.i-iterator.count in
    let end : length a.times.now ≤ i =
    omega (
      arith,
      ap length t.are,
      length-drop (row_length * i) a.rows.now,
      c.in-None.ensures.steps.0.1.0,
      t.sized,
      c.requires,
    ) in
    check_end (rows_given a.times.now a.rows.now) i (omega (arith, end, rows-count a.times.now a.rows.now)) ∙ t.rest
