-- `journal_state::lawful::is_lawful` meets its contract: each return is one case of `is_lawful_state`.
use mathlib.Core.Path.{◌≡◌, sym, ap, ◌∙◌}
use mathlib.Core.List.{[]}
use Prim.Native.Nat.{ℕ}
use Rattle.journal_state.specs.State.{Kept, kept}
use Rattle.journal_state.specs.Lawful.{image_rows, is_attached}
use Rattle.journal_state.proofs.Laws.{law_image, law_archive, law_log, law_out, attached_alone, placed-alone, printed-alone, counted-some, counted-none}
use Rattle.journal_state.proofs.lawful.is_lawful.Goals as goal

-- what was said of the archive, with the rows of the image
attached : (k : Kept) (n : ℕ) → n ≡ image_rows k.image
    → is_attached (kept k.numbers k.name k.last [] []) n ≡ is_attached k (image_rows k.image)
attached k n e = ap (is_attached (kept k.numbers k.name k.last [] [])) e ∙ attached_alone k (image_rows k.image)

pub returns-in_default : goal.returns-in_default
returns-in_default c =
    let a = c.args in
    let k = kept a.numbers.now a.name.now a.last.now a.image.now a.tail.now in
    law_image k (counted-none k.image (sym c.rows_of.ensures ∙ c.in_default.is))

pub returns-then-not-is_attached : goal.returns-then-not-is_attached
returns-then-not-is_attached c =
    let a = c.args in
    let k = kept a.numbers.now a.name.now a.last.now a.image.now a.tail.now in
    let rows = counted-some k.image c.in-Some.counted (sym c.rows_of.ensures ∙ c.in-Some.is) in
    law_archive k rows.0
    (sym (attached k c.in-Some.counted rows.1) ∙ sym c.is_attached.ensures ∙ c.if-not-is_attached.true)

pub returns-then-not-is_placed : goal.returns-then-not-is_placed
returns-then-not-is_placed c =
    let a = c.args in
    let k = kept a.numbers.now a.name.now a.last.now a.image.now a.tail.now in
    let rows = counted-some k.image c.in-Some.counted (sym c.rows_of.ensures ∙ c.in-Some.is) in
    law_log k rows.0
    (sym (attached k c.in-Some.counted rows.1) ∙ sym c.is_attached.ensures ∙ c.if-not-is_attached.false)
    (sym (placed-alone k) ∙ sym c.is_placed.ensures ∙ c.if-not-is_placed.true)

pub returns : goal.returns
returns c =
    let a = c.args in
    let k = kept a.numbers.now a.name.now a.last.now a.image.now a.tail.now in
    let rows = counted-some k.image c.in-Some.counted (sym c.rows_of.ensures ∙ c.in-Some.is) in
    c.is_printed.ensures ∙ printed-alone k ∙ law_out k rows.0
    (sym (attached k c.in-Some.counted rows.1) ∙ sym c.is_attached.ensures ∙ c.if-not-is_attached.false)
    (sym (placed-alone k) ∙ sym c.is_placed.ensures ∙ c.if-not-is_placed.false)

pub is_attached-requires : goal.is_attached-requires
is_attached-requires c = c.requires.name

pub is_placed-requires : goal.is_placed-requires
is_placed-requires c = c.requires.tail
