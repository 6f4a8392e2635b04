-- `archive_report::lines::fits` meets its contract: what is tested of the line that was read is so of the line in the array.
use mathlib.Core.Path.{◌≡◌, sym, ap, ap₂, ◌∙◌}
use mathlib.Core.Bool.{Bool, ◌&&◌}
use mathlib.Core.List.{List}
use Prim.Native.Nat.{ℕ, ◌+◌, ◌-◌}
use Rattle.archive_report_model.specs.Report.{Line}
use Rattle.archive_report.specs.Lines.{lines_from}
use Rattle.archive_report.specs.Report.{line_shown}
use Rattle.archive_report.specs.Private.{is_before, line_fits}
use Rattle.archive_report.proofs.Testing.{fits_kept, fits-loose, fits_both}
use Rattle.archive_report.proofs.lines.fits.Goals as goal

-- the lines behind line i
abbrev others : List ℕ → ℕ → ℕ → List Line
others xs count i = lines_from xs (i + 1) (count - (i + 1))

-- what is tested of a line that was read
read : {x : Bool} {a b : Line} (lines : List Line) (kept loose : ℕ) → a ≡ b
    → x ≡ line_fits a lines kept loose → x ≡ line_fits b lines kept loose
read lines kept loose e h = h ∙ ap (λ (l : Line). line_fits l lines kept loose) e

pub returns-then-kept-line : goal.returns-then-kept-line
returns-then-kept-line c =
    let a = c.args in
    read (others a.lines.now a.count a.i) a.kept a.loose c.line_in-line.ensures
    (fits_kept (line_shown c.line_in-line.result) (others a.lines.now a.count a.i) a.kept a.loose c.if-kept-line.true)

pub returns-then-loose-line : goal.returns-then-loose-line
returns-then-loose-line c =
    let a = c.args in
    read (others a.lines.now a.count a.i) a.kept a.loose c.line_in-line.ensures
    (fits-loose (line_shown c.line_in-line.result) (others a.lines.now a.count a.i) a.kept a.loose
    c.if-kept-line.false c.if-loose-line.true)

pub returns : goal.returns
returns c =
    let a = c.args in
    read (others a.lines.now a.count a.i) a.kept a.loose c.line_in-line.ensures
    (ap₂ ◌&&◌ c.is_line.ensures
    (c.is_before.ensures
    ∙ ap (λ (l : Line). is_before l (others a.lines.now a.count a.i)) (sym c.line_in-line.ensures))
    ∙ fits_both (line_shown c.line_in-line.result) (others a.lines.now a.count a.i) a.kept a.loose
    c.if-kept-line.false c.if-loose-line.false)
