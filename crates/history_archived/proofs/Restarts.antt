-- A restart changes no state, and every state on the way is good, so that its image is read back.
use Prim.Native.Nat.{ℕ}
use native.Mathlib.Omega.{arith}
use mathlib.Core.Path.{◌≡◌, refl, ap, ◌∙◌}
use mathlib.Core.Bool.{Bool, true, false, cond, ◌&&◌}
use mathlib.Core.List.{List, [], ◌∷◌, ◌++◌}
use lib.Dec.{eqb, ltb}
use lib.ListN.{length, take, drop}
use lib.Seq.{take_at}
use Rattle.base_lists.proofs.Tests.{by_test}
use Rattle.collector_model.specs.View.{View}
use Rattle.collector_model.specs.Step.{step}
use Rattle.collector_model.specs.Acceptable.{acceptable}
use Rattle.collector_model.specs.Image.{
  CheckpointResult,
  RestoreResult,
  image_length,
  image_of,
  parse,
  accepts,
  checkpoint_of,
  restore_of,
}
use Rattle.collector_model.proofs.Invariant.{Good, good_acceptable, good_advance, classified}
use Rattle.collector_model.proofs.Image.{fits_layout, image-length, parse-image}
use Rattle.text_lines.specs.Ascii.{newline}
use Rattle.text_lines.specs.Reading.{Reading, reception, bad, line_reading, line_limit}
use Rattle.text_program.specs.Chunks.{Position, in_line, at_line_start, feed}
use Rattle.text_program.specs.Collect.{Phase, running, after_line}
use Rattle.text_collect.specs.Printed.{reception_at}
use Rattle.text_collect.specs.Session.{Receiver, model_collector}
use Rattle.text_collect.specs.Rows.{row_times}
use Rattle.journal_model.proofs.Rows.{said-small}
use Rattle.c_collector.specs.State.{Arrays, state_at}
use Rattle.history_archived.specs.Runs.{GoesOn, same, restarted}

-- ---- states on the way

good_line : (c : Receiver) (l : List ℕ) → Good c.view → (a : Reading) → line_reading l ≡ a
    → Good (after_line model_collector c a).view
unfolding step
good_line c l g (reception t bs) e = let r = reception_at t bs in good_advance c.view r g (said-small l e)
    (classified c.view r)
good_line c l g bad e = g

good_from : (x : List ℕ) (c c' : Receiver) (l : List ℕ)
    → feed row_times line_limit (in_line (running c) l) x ≡ at_line_start (running c') → Good c.view → Good c'.view
unfolding feed
good_from [] c c' l e g = let q : running c ≡ running c' = ap
    (λ (a : Position (Phase Receiver)). a.state) e in let same : c ≡ c' = cc in rw same at g
good_from (k ∷ x) c c' l e g = go (eqb k newline) (λ d m f h. good_from x d c' m f h) e
  where
    go : (t : Bool) → ((d : Receiver) (m : List ℕ) → feed row_times line_limit (in_line (running d) m) x
        ≡ at_line_start (running c') → Good d.view → Good c'.view)
        → feed row_times line_limit (cond t (at_line_start (row_times.next (running c) l))
        (in_line (running c) (take line_limit (l ++ (k ∷ []))))) x ≡ at_line_start (running c')
        → Good c'.view
    go true ih f = ih (after_line model_collector c (line_reading l)) [] f (good_line c l g (line_reading l) refl)
    go false ih f = ih c (take line_limit (l ++ (k ∷ []))) f g

pub good_fed : (c c' : Receiver) (x : List ℕ) → feed row_times line_limit (at_line_start (running c)) x
    ≡ at_line_start (running c') → Good c.view → Good c'.view
good_fed c c' x = good_from x c c' []

-- ---- a restart

-- what a checkpoint wrote that was not refused
written : (v : View) (out out' : List ℕ) → Good v → record { number = 0; output = out' } ≡ checkpoint_of v out
    → take image_length out' ≡ image_of v
unfolding checkpoint_of
written v out out' g e =
    let ok = good_acceptable g in
    let long = image-length 0 v (fits_layout g) in
    by_test (ltb (length out) image_length)
    (λ s. absurd (let q : 0 ≡ 6 = ap (λ (r : CheckpointResult). r.number) e ∙ rw (ok, s) in omega arith))
    (λ s.
    let is : out' ≡ image_of v ++ drop image_length out = ap (λ (r : CheckpointResult). r.output) e ∙ rw (ok, s) in
    ap (take image_length) is ∙ take_at (image_of v) (drop image_length out) image_length long)

-- what a restore left that was not refused
read : (v v' : View) (image : List ℕ) → record { number = 0; next = v' } ≡ restore_of v image → v' ≡ parse image
unfolding restore_of
read v v' image e =
    by_test (acceptable v && accepts image)
    (λ s. ap (λ (r : RestoreResult). r.next) e ∙ rw s)
    (λ s. absurd (let q : 0 ≡ 11 = ap (λ (r : RestoreResult). r.number) e ∙ rw s in omega arith))

pub goes_on : {a b : Arrays} → GoesOn a b → Good (state_at a) → state_at b ≡ state_at a
goes_on same g = refl
goes_on (restarted {a} {b} {c} {d} out {out'} k w r) g =
    let e = goes_on k g in
    let h : Good (state_at b) = rw e g in
    read (state_at c) (state_at d) (take image_length out') r.result ∙ ap parse (written (state_at b) out out' h w)
    ∙ parse-image 0 (state_at b) (fits_layout h) ∙ e
