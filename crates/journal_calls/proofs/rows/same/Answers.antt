-- `journal_calls::rows::same` meets its contract: each return is one case of `same_row`.
use mathlib.Core.Path.{◌≡◌, refl, sym, ap, ◌∙◌}
use mathlib.Core.Bool.{Bool, true, false, not, beq}
use Prim.Native.Nat.{ℕ, ◌+◌, ◌-◌, min}
use native.Mathlib.Omega.{arith}
use lib.ListN.{get_or}
use Rattle.base_lists.specs.Lists.{equal}
use Rattle.base_buffers.specs.Buffer.{part}
use Rattle.journal_model.specs.Disk.{same_loose}
use Rattle.journal_calls.proofs.Agreed as agreed
use Rattle.journal_calls.proofs.rows.same.Goals as goal
use Rattle.journal_calls.proofs.rows.same.Goals.{then-time-moment-via-then-time-moment, then-time-moment-via-else-time-moment+then-other-len}

pub returns-then-time-moment : goal.returns-then-time-moment
returns-then-time-moment c =
    let a = c.args in
    elim c.then-time-moment.branch [
      | then-time-moment-via-then-time-moment w ↦
          agreed.same_time a.time a.row.now a.moment a.other.now w.if-time-moment.true
      | then-time-moment-via-else-time-moment+then-other-len w ↦
          agreed.same_length a.time a.row.now a.moment a.other.now w.if-other-len.true
    ]

-- both are LOOSE, or neither is
loose : (a b : Bool) → not (beq a b) ≡ false → same_loose a b ≡ true
loose true true h = refl
loose true false h = sym h
loose false true h = sym h
loose false false h = refl

pub returns : goal.returns
returns c =
    let a = c.args in
    let e : c.min-end.result ≡ min (get_or a.row.now 1 0) 21 = omega (arith, c.min-end.ensures, c.from.ensures) in
    c.equal.ensures
    ∙ ap (λ (n : ℕ). equal (part 2 (2 + n - 2) a.row.now) (part 2 (2 + n - 2) a.other.now)) e
    ∙ agreed.same_bytes a.time a.row.now a.moment a.other.now (get_or a.row.now 1 0) c.requires.0 c.requires.1 refl
    c.if-time-moment.false c.if-other-len.false (loose _ _ c.if-row-other.false)
