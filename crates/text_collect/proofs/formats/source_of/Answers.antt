-- `text_collect::formats::source_of` meets its contract: the fields that were read, or a refusal, whose number is not 0.
use Rattle.std.specs.Prelude.{Option, Some, None, Err, cond, eqb}
use mathlib.Core.Path.{◌≡◌, sym, ap, ◌∙◌}
use mathlib.Core.List.{List}
use Prim.Native.Nat.{ℕ}
use borrow.Author.Tests.{ne_eqb}
use Rattle.base_refusal.specs.Number.{number_of}
use Rattle.base_refusal.proofs.Numbers.{refused-number}
use Rattle.radio_erp1.specs.Status.{split_of}
use Rattle.radio_telegram.specs.Fields.{Read, shown_reading, read_of}
use Rattle.text_rows.specs.declared.formats.Source.{Source}
use Rattle.text_collect.specs.Formats.{source_of}
use Rattle.text_collect.proofs.formats.source_of.Goals as goal

abbrev source_by : Read → Option Source
source_by x =
    let t = x.telegram in
    cond (eqb x.number 0) (Some (record { txid = t.txid; rorg = t.rorg; level = (split_of t.status).level })) None

read_by : (bytes : List ℕ) {x : Read} → x ≡ read_of bytes → source_by x ≡ source_of bytes
unfolding source_of read_of
read_by bytes e = ap source_by e

pub returns-in_default : goal.returns-in_default
returns-in_default c =
    let why = c.in_default.field-0 in
    let none : source_by (shown_reading (Err why)) ≡ None = rw (ne_eqb (number_of why) 0 (refused-number why)) in
    sym none ∙ read_by c.args.bytes.now (rw c.in_default.is at c.read.ensures)

pub returns : goal.returns
returns c =
    rw c.split-status.ensures (read_by c.args.bytes.now (rw c.in-Ok.is at c.read.ensures))
