-- A scan in four numbers.
--     stage-short, stage_wrong     cases of `stage_at`
--     end-not, end-wrong, end-done                             those of `scan_end`
--     stage-back                                               a stage is read back
use Prim.Native.Nat.{ℕ, zero, suc, ◌≤◌, ◌<◌}
use native.Mathlib.Omega.{arith}
use mathlib.Core.Path.{◌≡◌, refl, sym, ap, ◌∙◌}
use mathlib.Core.Bool.{true, false}
use mathlib.Core.List.{List}
use lib.ListN.{get_or}
use borrow.Author.Tests.{ne_eqb}
use Rattle.base_refusal.specs.Number.{number_of}
use Rattle.base_refusal.specs.declared.Refusal.TheVariants.{Mismatch, NotAccepted}
use Rattle.archive_model.specs.Buffer.{Found, None, Stage, Filling, Short, Ended, Wrong, stage_found}
use Rattle.archive_model.specs.Append.{is_scan, Feeding}
use Rattle.archive_file.specs.Archive.{open_found}
use Rattle.c_pieces.specs.Scan.{stage_at, stage_number, stage_position, scan_at, scan_numbers, scan_shown, scan_end}

module _ (s p : ℕ) where
  pub stage-short : s ≡ 1 → Short ≡ stage_at s p
  unfolding stage_at
  stage-short e = rw e

  pub stage_wrong : (s ≡ 0 → ⊥) → (s ≡ 1 → ⊥) → (s ≡ 2 → ⊥) → Wrong p ≡ stage_at s p
  unfolding stage_at
  stage_wrong a b c = rw (ne_eqb s 0 a, ne_eqb s 1 b, ne_eqb s 2 c)

none_found : (s p : ℕ) → s ≤ 2 → stage_found (stage_at s p) ≡ None
unfolding stage_at
none_found zero p h = refl
none_found (suc zero) p h = refl
none_found (suc (suc zero)) p h = refl
none_found (suc (suc (suc s))) p h = absurd (omega arith)

module _ (numbers : List ℕ) where
  pub end_not : is_scan (scan_at numbers) ≡ false
      → (record { number = number_of NotAccepted; position = 0; rows = 0 }) ≡ scan_end (scan_at numbers)
  unfolding scan_end
  end_not f = rw f

  module _ (t : is_scan (scan_at numbers) ≡ true) where
    pub end_wrong : 2 < get_or numbers 2 0
        → (record { number = number_of Mismatch; position = get_or numbers 3 0; rows = 0 }) ≡ scan_end (scan_at numbers)
    unfolding scan_end
    end_wrong h =
        let w =
        stage_wrong (get_or numbers 2 0) (get_or numbers 3 0)
        (λ e. omega arith) (λ e. omega arith) (λ e. omega arith) in
        rw t (ap (λ (s : Stage). open_found (stage_found s) (get_or numbers 1 0)) w)

    pub end_done : get_or numbers 2 0 ≤ 2
        → (record { number = 0; position = 0; rows = get_or numbers 1 0 }) ≡ scan_end (scan_at numbers)
    unfolding scan_end
    end_done h =
        rw t
        (ap (λ (f : Found). open_found f (get_or numbers 1 0))
        (sym (none_found (get_or numbers 2 0) (get_or numbers 3 0) h)))

-- what is written of a stage is read back
pub stage-back : (s : Stage) → stage_at (stage_number s) (stage_position s) ≡ s
unfolding stage_at
stage-back Filling = refl
stage-back Short = refl
stage-back Ended = refl
stage-back (Wrong k) = refl
