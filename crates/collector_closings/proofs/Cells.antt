-- The cells of what closes, one entry after the other, and when a reception closes anything.
use mathlib.Core.Path.{◌≡◌, refl, sym, ap, ◌∙◌}
use mathlib.Core.Bool.{Bool, true, false, cond, not, ◌&&◌}
use mathlib.Core.List.{List, [], ◌∷◌, ◌++◌, append-nil, append_assoc, flatten}
use Prim.Native.Nat.{ℕ, ◌+◌, ◌-◌, ◌≤◌}
use native.Mathlib.Omega.{arith}
use lib.Dec.{leb, ltb}
use lib.ListN.{length, take, drop}
use lib.Seq.{sets, sets-eq, length-sets, drop-drop}
use Rattle.base_buffers.specs.Printed.{Printed}
use Rattle.base_lists.proofs.Keep.{keep_append}
use Rattle.radio_erp1.specs.Subtelegram.{is_valid, check_of}
use Rattle.collector_model.specs.Answer.{Kept, Copy, Loose, Refused, is_accepted}
use Rattle.collector_model.specs.Acceptable.{acceptable}
use Rattle.collector_model.specs.View.{Entry, View, Reception, is_open}
use Rattle.collector_model.specs.Step.{max_count, is_known, is_crowded, classify, step}
use Rattle.collector_model.specs.Image.{entry_cell}
use Rattle.history_rows.specs.Closings.{closed_at}
use Rattle.collector_state.specs.Collector.{Columns, entry_at, entries_at}
use Rattle.collector_state.proofs.Arrays.{entries_none, entries-more}
use Rattle.collector_closings.specs.Cells.{entry_cells, closed_cells, is_taken}

-- ---- one entry after the other

cells_append : (xs ys : List Entry) → entry_cells (xs ++ ys) ≡ entry_cells xs ++ entry_cells ys
unfolding entry_cells flatten
cells_append [] ys = refl
cells_append (x ∷ xs) ys =
    ap (λ (l : List ℕ). entry_cell x ++ l) (cells_append xs ys)
    ∙ sym (append_assoc (entry_cell x) (entry_cells xs) (entry_cells ys))

one_cell : (e : Entry) (b : Bool) → entry_cells (cond b (e ∷ []) []) ≡ cond b (entry_cell e) []
unfolding entry_cells flatten
one_cell e true = append-nil (entry_cell e)
one_cell e false = refl

module _ (a : Columns) (t : ℕ) where
  pub none_past : [] ≡ entry_cells (closed_at t (entries_at a 0))
  unfolding entry_cells flatten
  none_past = rw (entries_none a)

  pub one_past : (i : ℕ)
      → entry_cells (closed_at t (entries_at a (i + 1)))
      ≡ entry_cells (closed_at t (entries_at a i))
      ++ cond (not (is_open t (entry_at a i))) (entry_cell (entry_at a i)) []
  one_past i =
      let p : Entry → Bool = λ e. not (is_open t e) in
      ap (λ (l : List Entry). entry_cells (closed_at t l)) (entries-more a i)
      ∙ ap entry_cells (keep_append p (entries_at a i) (entry_at a i ∷ []))
      ∙ cells_append (closed_at t (entries_at a i)) (closed_at t (entry_at a i ∷ []))
      ∙ ap (λ (l : List ℕ). entry_cells (closed_at t (entries_at a i)) ++ l)
      (one_cell (entry_at a i) (p (entry_at a i)))

-- ---- a part of the buffer that was lent, and came back as the text

pub lent-printed : (out ys text : List ℕ) (at : ℕ) → ys ≡ text → length text ≡ 32 → at + 32 ≤ length out
    → Printed out at text 32 (take at out ++ (ys ++ drop (at + 32 - at) (drop at out))) (at + 32)
lent-printed out ys text at e l h =
    let n : at + 32 - at ≡ 32 = omega arith in
    let w : sets out at text ≡ take at out ++ text ++ drop (at + 32) out =
    rw l at (sets-eq text out at (omega arith)) in
    record {
      bytes = rw (e, n, drop-drop 32 at out) (sym (w ∙ append_assoc (take at out) text (drop (at + 32) out)));
      next = omega arith;
      short = omega arith;
    }

pub printed-length : {out text out' : List ℕ} {at most r : ℕ}
    → Printed out at text most out' r → length out' ≡ length out
printed-length {out} {text} {at = at} w = ap length w.bytes ∙ length-sets out at text

-- ---- when a reception closes anything

accepts : (fits full valid late known crowded : Bool) (n m k : ℕ)
    → is_accepted (cond (not fits) (Refused n)
    (cond full (Refused m) (cond (not valid) (Refused k) (cond late (Refused 7)
    (cond known Copy (cond crowded Loose Kept))))))
    ≡ fits && (not full && (not late && valid))
accepts false full valid late known crowded n m k = refl
accepts true true valid late known crowded n m k = refl
accepts true false false true known crowded n m k = refl
accepts true false false false known crowded n m k = refl
accepts true false true true known crowded n m k = refl
accepts true false true false true crowded n m k = refl
accepts true false true false false true n m k = refl
accepts true false true false false false n m k = refl

module _ (v : View) (r : Reception) where
  abbrev taken : Bool
  taken = is_taken (acceptable v) v.totals.received v.latest r.bytes r.time

  is_accepted_lem : is_accepted (step v r).answer ≡ taken
  unfolding step classify
  is_accepted_lem =
      accepts (acceptable v) (leb max_count v.totals.received)
      (is_valid r.bytes) (ltb r.time v.latest) (is_known v r)
      (is_crowded v r) 11 8 (check_of r.bytes)

  pub none_closed : taken ≡ false → [] ≡ closed_cells v r
  unfolding closed_cells entry_cells flatten
  none_closed e = rw (is_accepted_lem, e)

  pub some_closed : taken ≡ true → entry_cells (closed_at r.time v.entries) ≡ closed_cells v r
  unfolding closed_cells
  some_closed e = rw (is_accepted_lem, e)
