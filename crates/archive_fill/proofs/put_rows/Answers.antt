-- `archive_fill::put_rows` meets its contract: each return is one case of `put_rows_given`.
use mathlib.Core.Path.{sym, ap, ◌∙◌}
use mathlib.Core.List.{List}
use Prim.Native.Nat.{ℕ}
use native.Mathlib.Omega.{arith}
use lib.ListN.{length}
use Rattle.std.proofs.lemmas.Result.{err_from_is_err_and}
use Rattle.base_refusal.proofs.Numbers.{refused-number}
use Rattle.archive_model.specs.Append.{Verdict, Appended}
use Rattle.archive_file.proofs.Puts.{next_told}
use Rattle.archive_fill.specs.Fill.{rows_given}
use Rattle.archive_fill.proofs.Cases.{given_facts, check-valid, put-size, put_other, put-invalid, put_many, put-done, put_none}
use Rattle.archive_fill.proofs.put_rows.Goals as goal

-- a verdict beside a block
abbrev beside : List ℕ → Verdict → Appended
beside block v = record { number = v.number; position = v.position; buffer = block }

-- the returns
pub returns-then-not-is_given : goal.returns-then-not-is_given
returns-then-not-is_given c =
    let a = c.args in
    put-size a.block.now a.n a.times.now a.rows.now (sym c.is_given.ensures ∙ c.if-not-is_given.true)

pub returns-then-not-is_next : goal.returns-then-not-is_next
returns-then-not-is_next c =
    let a = c.args in
    let h = given_facts _ _ _ _ (sym c.is_given.ensures ∙ c.if-not-is_given.false) in
    put_other a.block.now a.n a.times.now a.rows.now h
    (next_told a.n a.block.now h.0 (sym c.is_next.ensures ∙ c.if-not-is_next.true))

pub returns-in_err-check_rows : goal.returns-in_err-check_rows
returns-in_err-check_rows c =
    let a = c.args in
    let p = err_from_is_err_and c.from_residual.result c.from_residual.ensures.1 in
    let h = given_facts _ _ _ _ (sym c.is_given.ensures ∙ c.if-not-is_given.false) in
    rw (p.1, p.2)
    (ap (beside a.block.now) c.in_err-check_rows.ensures
    ∙ put-invalid a.block.now a.n a.times.now a.rows.now h
    (next_told a.n a.block.now h.0 (sym c.is_next.ensures ∙ c.if-not-is_next.false))
    (λ z. refused-number c.in_err-check_rows.field-0.0.why
    (ap (λ (v : Verdict). v.number) c.in_err-check_rows.ensures ∙ z)))

pub returns-then-n-count : goal.returns-then-n-count
returns-then-n-count c =
    let a = c.args in
    let h = given_facts _ _ _ _ (sym c.is_given.ensures ∙ c.if-not-is_given.false) in
    put_many a.block.now a.n a.times.now a.rows.now h
    (next_told a.n a.block.now h.0 (sym c.is_next.ensures ∙ c.if-not-is_next.false))
    (sym (ap (λ (v : Verdict). v.number) c.in_ok-check_rows.ensures)) (omega (arith, c.if-n-count.true))

pub returns-then-count-eq0 : goal.returns-then-count-eq0
returns-then-count-eq0 c =
    let a = c.args in
    let h = given_facts _ _ _ _ (sym c.is_given.ensures ∙ c.if-not-is_given.false) in
    put_none a.block.now a.n a.times.now a.rows.now h
    (next_told a.n a.block.now h.0 (sym c.is_next.ensures ∙ c.if-not-is_next.false))
    (sym (ap (λ (v : Verdict). v.number) c.in_ok-check_rows.ensures)) c.if-count-eq0.true

pub write_rows-requires : goal.write_rows-requires
write_rows-requires c =
    let a = c.args in
    let h = given_facts _ _ _ _ (sym c.is_given.ensures ∙ c.if-not-is_given.false) in
    record {
      long = h.0;
      sized = h.2;
      some = omega (arith, c.if-count-eq0.false);
      few = omega (arith, c.if-n-count.false);
      valid = check-valid 0 (rows_given a.times.now a.rows.now)
          (sym (ap (λ (v : Verdict). v.number) c.in_ok-check_rows.ensures));
    }

pub returns : goal.returns
returns c =
    let a = c.args in
    let h = given_facts _ _ _ _ (sym c.is_given.ensures ∙ c.if-not-is_given.false) in
    ap (λ (b : List ℕ). record { number = 0; position = 0; buffer = b }) c.write_rows.ensures
    ∙ put-done a.block.now a.n a.times.now a.rows.now h
    (next_told a.n a.block.now h.0 (sym c.is_next.ensures ∙ c.if-not-is_next.false))
    (sym (ap (λ (v : Verdict). v.number) c.in_ok-check_rows.ensures))
    (omega (arith, c.if-n-count.false))

pub check_rows-requires : goal.check_rows-requires
check_rows-requires c =
    let a = c.args in
    (given_facts (length a.block.now) a.n (length a.times.now) (length a.rows.now)
    (sym c.is_given.ensures ∙ c.if-not-is_given.false)).2
