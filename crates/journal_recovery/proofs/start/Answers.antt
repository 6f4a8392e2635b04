-- `journal_recovery::start` meets its contract: the state is accepted, and says the rows and the copy that the archive is
-- settled by.
use Prim.Native.Nat.{ℕ, ◌+◌}
use native.Mathlib.Omega.{arith}
use mathlib.Core.Path.{◌≡◌, refl, sym, ap, subst, ◌∙◌}
use mathlib.Core.Bool.{Bool, true, false}
use mathlib.Core.List.{List, []}
use lib.ListN.{length, get_or}
use Rattle.std.specs.Prelude.{Result, Ok, ⊤}
use Rattle.std.proofs.lemmas.Result.{err_from_is_err_and}
use Rattle.base_refusal.specs.Number.{number_of, outcome_number}
use Rattle.base_refusal.specs.declared.Refusal.{Refusal}
use Rattle.base_refusal.proofs.Numbers.{refused-number}
use Rattle.journal_model.specs.Disk.{counted}
use Rattle.journal_state.specs.State.{Kept, kept, read_state}
use Rattle.journal_state.specs.Lawful.{image_rows}
use Rattle.journal_state.specs.Calls.{Accepted, accept_of}
use Rattle.journal_state.specs.Claims.{state_of}
use Rattle.journal_recovery.specs.Start.{is_one_file, accept_number}
use Rattle.journal_recovery.specs.Private.{IsCounted}
use Rattle.journal_recovery.proofs.Started as started
use Rattle.journal_recovery.proofs.start.Goals as goal

-- the answer of `accept`
abbrev answered : Result ⊤ Refusal → Kept → Accepted
answered r next = record { number = outcome_number r; next = next }

pub returns-then-file-gt-MAX_BLOCKS : goal.returns-then-file-gt-MAX_BLOCKS
returns-then-file-gt-MAX_BLOCKS c =
    let a = c.args in
    started.start_large a.state.now a.file.now a.left.now c.if-file-gt-MAX_BLOCKS.true

pub returns-in_err-accept : goal.returns-in_err-accept
returns-in_err-accept c =
    let a = c.args in
    let l = c.accept.new in
    let p = err_from_is_err_and c.from_residual.result c.from_residual.ensures.1 in
    let why = c.in_err-accept.field-0.0 in
    let n : outcome_number c.accept.result ≡ number_of why = ap outcome_number c.in_err-accept.was in
    let m : outcome_number c.from_residual.result ≡ number_of why = ap outcome_number p.1 ∙ ap number_of p.2 in
    let accepted = started.accepts_as a.state.now _
    (answered c.accept.result (kept l.numbers l.name l.last l.image l.tail)) c.accept.ensures in
    (λ i. record { number = (m ∙ sym n ∙ accepted.number) i; archive = a.file.now; left = a.left.now })
    ∙ started.start_refused a.state.now a.file.now a.left.now c.if-file-gt-MAX_BLOCKS.false
    (λ z. refused-number why (sym n ∙ accepted.number ∙ z))

-- what an accepted file says
taken : (bytes : List ℕ) (r : Result ⊤ Refusal) (k next : Kept) → r ≡ Ok tt
    → answered r next ≡ accept_of k bytes → (accept_number bytes ≡ 0) × started.IsState bytes next
taken bytes r k next e h =
    let accepted = started.accepts_as bytes k (answered r next) h in
    let z : outcome_number r ≡ 0 = ap outcome_number e in
    (sym accepted.number ∙ z, accepted.state z)

one : (bytes : List ℕ) (next : Kept) (told b : Bool) → started.IsState bytes next
    → told ≡ is_one_file (kept next.numbers [] [] [] []) → told ≡ b → is_one_file (read_state bytes) ≡ b
one bytes next told b s h e = sym (ap (λ (k : Kept). is_one_file (kept k.numbers [] [] [] [])) s.is) ∙ sym h ∙ e

counts : (bytes : List ℕ) (next : Kept) → started.IsState bytes next → is_one_file (read_state bytes) ≡ true
    → IsCounted next.numbers next.image
counts bytes next s h =
    subst (λ (k : Kept). IsCounted k.numbers k.image) (sym s.is) (started.is_counted bytes s.law s.size h)

pub returns-then-not-is_one_file : goal.returns-then-not-is_one_file
returns-then-not-is_one_file c =
    let a = c.args in
    let l = c.accept.new in
    let next = kept l.numbers l.name l.last l.image l.tail in
    let t = taken a.state.now c.accept.result _ next c.in_ok-accept.was c.accept.ensures in
    started.start_other a.state.now a.file.now a.left.now c.if-file-gt-MAX_BLOCKS.false t.0
    (one a.state.now next c.is_one_file.result false t.1 c.is_one_file.ensures c.if-not-is_one_file.true)

pub counted-rows-requires : goal.counted-rows-requires
counted-rows-requires c =
    let bytes = c.args.state.now in
    let l = c.accept.new in
    let next = kept l.numbers l.name l.last l.image l.tail in
    let t = taken bytes c.accept.result _ next c.in_ok-accept.was c.accept.ensures in
    counts bytes next t.1
    (one bytes next c.is_one_file.result true t.1 c.is_one_file.ensures c.if-not-is_one_file.false)

pub settle-requires : goal.settle-requires
settle-requires c =
    let bytes = c.args.state.now in
    let l = c.accept.new in
    let next = kept l.numbers l.name l.last l.image l.tail in
    let t = taken bytes c.accept.result _ next c.in_ok-accept.was c.accept.ensures in
    let h = one bytes next c.is_one_file.result true t.1 c.is_one_file.ensures c.if-not-is_one_file.false in
    let few = (counts bytes next t.1 h).few in (
      omega (arith, c.counted-rows.ensures, few),
      c.if-file-gt-MAX_BLOCKS.false,
      ap (λ (x : Kept). length x.last) t.1.is ∙ t.1.size.last,
    )

pub returns : goal.returns
returns c =
    let a = c.args in
    let bytes = a.state.now in
    let l = c.accept.new in
    let next = kept l.numbers l.name l.last l.image l.tail in
    let t = taken bytes c.accept.result _ next c.in_ok-accept.was c.accept.ensures in
    let s = t.1 in
    let h = one bytes next c.is_one_file.result true s c.is_one_file.ensures c.if-not-is_one_file.false in
    let rows : c.counted-rows.result ≡ counted (state_of (read_state bytes)) =
    c.counted-rows.ensures ∙ ap (λ (k : Kept). get_or k.numbers 2 0 + image_rows k.image) s.is
    ∙ sym (started.rows_are bytes s.law s.size h) in
    c.settle.ensures (state_of (read_state bytes))
    (record { count = sym rows; limited = refl; last = sym (ap (λ (x : Kept). x.last) s.is) })
    ∙ started.start_settled bytes a.file.now a.left.now c.if-file-gt-MAX_BLOCKS.false t.0 h
