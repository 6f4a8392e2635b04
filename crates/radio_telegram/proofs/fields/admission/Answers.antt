-- `radio_telegram::fields::admission` meets its contract: each return is one case of `admission_of`.
use Rattle.std.specs.Prelude.{◌≤◌}
use mathlib.Core.Path.{sym}
use native.Mathlib.Omega.{arith}
use borrow.Author.Rules.{rules}
use Rattle.radio_telegram.specs.Fields.{Shaped}
use Rattle.radio_telegram.proofs.Building.{no_data, much_data, outer_rorg, too_long, admitted, bytes-addressed, bytes-plain}
use Rattle.radio_telegram.proofs.fields.admission.Goals as goal
use Rattle.radio_telegram.proofs.fields.admission.Goals.{then-t-lt1-via-then-t-lt1, then-t-lt1-via-else-t-lt1+then-t-gt-MAX_DATA, then-t-lt1-via-else-t-lt1+else-t-gt-MAX_DATA+then-t, else-is_some-via-then-is_some+else-t-gt-MAX_ADDRESSED_DATA, else-is_some-via-else-is_some}

pub returns-then-t-lt1 : goal.returns-then-t-lt1
returns-then-t-lt1 c =
    let t = c.args.t in
    elim c.then-t-lt1.branch [
      | then-t-lt1-via-then-t-lt1 w ↦ no_data t (omega arith)
      | then-t-lt1-via-else-t-lt1+then-t-gt-MAX_DATA w ↦ much_data t (omega arith) (omega arith)
      | then-t-lt1-via-else-t-lt1+else-t-gt-MAX_DATA+then-t w ↦ outer_rorg t (omega arith) (omega arith) w.if-t.true
    ]

pub returns-then-t-gt-MAX_ADDRESSED_DATA : goal.returns-then-t-gt-MAX_ADDRESSED_DATA
returns-then-t-gt-MAX_ADDRESSED_DATA c =
    let t = c.args.t in
    let shape : Shaped t = record { payload = search rules; destid = search rules; txid = search rules } in
    too_long t (omega arith) (omega arith) c.if-t.false
    (omega (arith, bytes-addressed t shape (omega arith) (sym c.if-is_some.ensures)))

pub returns : goal.returns
returns c =
    let t = c.args.t in
    let shape : Shaped t = record { payload = search rules; destid = search rules; txid = search rules } in
    let low : 1 ≤ t.len = omega arith in
    let high : t.len ≤ 14 = omega arith in
    elim c.else-is_some.branch [
      | else-is_some-via-then-is_some+else-t-gt-MAX_ADDRESSED_DATA w ↦
          admitted t low high c.if-t.false (omega (arith, bytes-addressed t shape high (sym w.if-is_some.ensures)))
      | else-is_some-via-else-is_some w ↦
          admitted t low high c.if-t.false (omega (arith, bytes-plain t shape high (sym w.if-is_some.ensures)))
    ]
