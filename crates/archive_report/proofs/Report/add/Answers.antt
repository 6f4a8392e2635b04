-- `archive_report::Report::add` meets its contract: the tally of all blocks is what the definition answers by.
use native.Mathlib.Omega.{arith}
use borrow.Author.Rules.{rules}
use mathlib.Core.Path.{◌≡◌, refl, sym, ap, ◌∙◌}
use mathlib.Core.List.{List}
use lib.ListN.{length}
use Rattle.archive_model.specs.Buffer.{blocks_in}
use Rattle.archive_file.proofs.Calls.{whole_facts}
use Rattle.base_refusal.specs.declared.Refusal.TheVariants.{NotAccepted, Size}
use Rattle.archive_report_model.specs.Report.{Line, Addition, add_of}
use Rattle.archive_report_model.specs.Pieces.{Tally, add_blocks, closing}
use Rattle.archive_report_model.proofs.Pieces.{closing_is}
use Rattle.archive_report.specs.Lines.{with_lines}
use Rattle.archive_report.specs.Report.{report_of, lines_ended}
use Rattle.archive_report.specs.Private.{tally_of}
use Rattle.archive_report.proofs.Arrays.{lines_new}
use Rattle.archive_report.proofs.Blocks.{sane_as, start_sane}
use Rattle.archive_report.proofs.Calls.{stay, done_as, closing-zero, add_not, add_size}
use Rattle.archive_report.proofs.Report.add.Goals as goal

pub returns-then-not-is_report : goal.returns-then-not-is_report
returns-then-not-is_report c =
    let a = c.args in
    let is =
    add_not (report_of a.self)
    (sym c.is_report.ensures ∙ c.if-not-is_report.true) a.buffer.now in record {
      result_value = is;
      lines_value = stay _ NotAccepted _ a.self.lines (sym (ap (λ (x : Addition). x.number) is)) refl;
    }

pub returns-then-not-is_whole : goal.returns-then-not-is_whole
returns-then-not-is_whole c =
    let a = c.args in
    let is =
    add_size (report_of a.self) (sym c.is_report.ensures ∙ c.if-not-is_report.false) a.buffer.now
    (sym c.is_whole.ensures ∙ c.if-not-is_whole.true) in record {
      result_value = is;
      lines_value = stay _ Size _ a.self.lines (sym (ap (λ (x : Addition). x.number) is)) refl;
    }

pub add_blocks-t-requires : goal.add_blocks-t-requires
add_blocks-t-requires c =
    let xs = c.args.self.lines in
    let long : length xs ≡ 1280 = search rules in
    let is = c.start.ensures xs in (
      long,
      omega (
        arith,
        ap (λ (t : Tally). t.scan.blocks) is,
        (whole_facts _ (sym c.is_whole.ensures ∙ c.if-not-is_whole.false)).1,
      ),
      sane_as is (start_sane (report_of c.args.self) (sym c.is_report.ensures ∙ c.if-not-is_report.false)),
    )

pub returns : goal.returns
returns c =
    let long : length c.args.self.lines ≡ 1280 = search rules in
    let a = c.args in
    let report = report_of a.self in
    let buffer = a.buffer.now in
    let old = a.self.lines in
    let new = c.add_blocks-t.new.lines in
    let t = c.add_blocks-t.result in
    let cl : closing report (tally_of t new) ≡ add_of report buffer =
    ap (closing report)
    (c.add_blocks-t.ensures.lines_after ∙ ap (λ (t : Tally). add_blocks t (blocks_in buffer)) (c.start.ensures old))
    ∙ closing_is report buffer (sym c.is_report.ensures ∙ c.if-not-is_report.false)
    (sym c.is_whole.ensures ∙ c.if-not-is_whole.false) in
    let is = c.close.ensures.0 ∙ cl in record {
      result_value = is;
      lines_value = c.close.ensures.1 ∙ ap (λ (x : Addition). lines_ended x new old) is
          ∙ done_as (add_of report buffer).number new (with_lines (add_of report buffer).next.lines old) old
          (λ z.
          let w = closing-zero report (tally_of t new) (ap (λ (x : Addition). x.number) cl ∙ z) in
          lines_new c.start.result t old new c.add_blocks-t.ensures.grows
          long (c.add_blocks-t.auto.lines ∙ long) w.0
          ∙ ap (λ (l : List Line). with_lines l old) (sym w.1 ∙ ap (λ (x : Addition). x.next.lines) cl));
    }
