-- `c_pieces::adding::feed` meets its contract: beside a refusal nothing is stored, and what is answered is what was handed in.
use mathlib.Core.Path.{◌≡◌, refl, sym, ap, ap₂, ◌∙◌}
use Prim.Native.Nat.{ℕ}
use mathlib.Core.List.{List}
use Rattle.base_refusal.specs.Number.{number_of}
use Rattle.base_refusal.proofs.Numbers.{refused-number}
use Rattle.archive_report_model.specs.Pieces.{Tally, Adding, adding, piece_answer, PieceAdded, add_piece_of}
use Rattle.archive_report.specs.Report.{adding_of, lines_fed}
use Rattle.c_report.specs.Calls.{report_at}
use Rattle.c_pieces.specs.Adding.{adding_at, tally_numbers}
use Rattle.c_pieces.proofs.Addings.{feed-report, feed-kept}
use Rattle.c_pieces.proofs.adding.feed.Goals as goal

pub returns-in-Err : goal.returns-in-Err
returns-in-Err c =
    let a = c.args in
    let why = c.in-Err.why in
    let was = adding_at a.numbers.now a.lines.now a.adding.now a.tally.now in
    let expected = add_piece_of was a.piece.now in
    let is : piece_answer (number_of why) (adding_of c.adding_in-a.result) ≡ expected =
    c.in-Err.ensures.result_value
    ∙ ap (λ (x : Adding). add_piece_of x a.piece.now) c.adding_in-a.ensures.0 in
    let told : number_of why ≡ expected.number = ap (λ (x : PieceAdded). x.number) is in
    let other : c.number.result ≡ 0 → ⊥ = λ z. refused-number why (sym c.number.ensures ∙ z) in
    record {
      result =
          ap₂ piece_answer (c.number.ensures ∙ told)
          (sym (feed-kept was a.piece.now (λ z. refused-number why (told ∙ z))));
      numbers_stay = λ n. refl;
      lines_stay = λ n. refl;
      numbers_are = λ z. absurd (other z);
      lines_are = λ z. absurd (other z);
    }

pub returns-in-Ok : goal.returns-in-Ok
returns-in-Ok c =
    let a = c.args in
    let was = adding_at a.numbers.now a.lines.now a.adding.now a.tally.now in
    let expected = add_piece_of was a.piece.now in
    let is : piece_answer 0 (adding_of c.in-Ok.next) ≡ expected =
    c.in-Ok.ensures.result_value
    ∙ ap (λ (x : Adding). add_piece_of x a.piece.now) c.adding_in-a.ensures.0 in
    record {
      result =
          ap₂ (λ (n : ℕ) (t : Tally). piece_answer n (adding (report_at a.numbers.now a.lines.now) t))
          (ap (λ (x : PieceAdded). x.number) is)
          (c.store.ensures.0 ∙ ap (λ (x : PieceAdded). x.next.tally) is)
          ∙ ap (λ r. piece_answer expected.number (adding r expected.next.tally))
          (sym (feed-report was a.piece.now));
      numbers_stay = λ n. absurd (n refl);
      lines_stay = λ n. absurd (n refl);
      numbers_are = λ z. c.store.ensures.1 ∙ ap (λ (x : PieceAdded). tally_numbers x.next.tally) is;
      lines_are = λ z.
          c.store.ensures.2
          ∙ c.in-Ok.ensures.before_value.1
          ∙ ap₂ (λ (x : Adding) (l : List ℕ). lines_fed (add_piece_of x a.piece.now) l)
          c.adding_in-a.ensures.0 c.adding_in-a.ensures.1;
    }
