-- `c_pieces::adding::end` meets its contract: the answer is settled, and where it is done, the lines are those that were added to.
use mathlib.Core.Path.{◌≡◌, sym, ap, ◌∙◌}
use Prim.Native.Nat.{ℕ}
use borrow.Author.Tests.{eq-eqb}
use Rattle.std.specs.Result.{result_unwrap_or}
use Rattle.archive_report_model.specs.Report.{Addition}
use Rattle.archive_report_model.specs.Pieces.{Adding, ended_of}
use Rattle.archive_report.specs.Report.{added_result, adding_of}
use Rattle.c_layout.specs.Lent.{if_mismatch}
use Rattle.c_report.specs.Calls.{report_numbers}
use Rattle.c_pieces.specs.Adding.{adding_at}
use Rattle.c_pieces.proofs.adding.end.Goals as goal

-- the position that an answer leaves
abbrev place : ℕ → Addition → ℕ
place old x = if_mismatch x.number x.position old

pub returns : goal.returns
returns c =
    let was = adding_at c.args.numbers.now c.args.lines.now c.args.adding.now c.args.tally.now in
    let a = c.adding_in-a.result in
    let same = c.adding_in-a.ensures.0 in
    let s = c.settle_report.ensures a.before (ap (λ (x : Adding). x.report) same) in
    let is : added_result a.before c.end.result ≡ ended_of was =
    c.end.ensures.result_value ∙ ap (λ (x : Adding). ended_of x) same in
    -- where it is added, the lines of the report are those that were added to
    let lines : ((ended_of (adding_of a)).number ≡ 0
    → (result_unwrap_or c.end.result a.before).lines ≡ c.args.tally.now) =
    λ n. c.end.ensures.lines_value ∙ (rw (eq-eqb (ended_of (adding_of a)).number 0 n) c.adding_in-a.ensures.1) in
    record {
      told = s.told ∙ ap (λ (x : Addition). x.number) is;
      place = s.place ∙ ap (place c.args.position.now) is;
      next = s.next ∙ ap (λ (x : Addition). x.next) is;
      numbers_stay = s.numbers_stay;
      lines_stay = s.lines_stay;
      numbers_are = λ z. s.numbers_are z ∙ ap (λ (x : Addition). report_numbers x.next) is;
      lines_are = λ z.
          s.lines_are z
          ∙ lines (sym (s.told ∙ ap (λ (x : Addition). x.number) c.end.ensures.result_value) ∙ z);
    }
