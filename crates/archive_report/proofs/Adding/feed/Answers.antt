-- `archive_report::Adding::feed` meets its contract: each return is one case of `add_piece_of`.
use native.Mathlib.Omega.{arith}
use borrow.Author.Rules.{rules}
use mathlib.Core.Path.{◌≡◌, refl, sym, ap, ◌∙◌}
use mathlib.Core.List.{List}
use Prim.Native.Nat.{ℕ}
use lib.ListN.{length}
use borrow.Author.Tests.{eq-eqb}
use Rattle.archive_model.specs.Buffer.{blocks_in}
use Rattle.archive_model.proofs.Scans.{scan_facts}
use Rattle.archive_file.proofs.Calls.{whole_facts}
use Rattle.base_refusal.specs.declared.Refusal.TheVariants.{NotAccepted, Size}
use Rattle.archive_report_model.specs.Pieces.{Tally, add_blocks, adding, PieceAdded, piece_answer, add_piece_of}
use Rattle.archive_report_model.proofs.Adding.{going}
use Rattle.archive_report.specs.Report.{report_of, adding_of, lines_fed}
use Rattle.archive_report.specs.Lines.{with_lines}
use Rattle.archive_report.specs.Private.{tally_of}
use Rattle.archive_file.specs.Archive.{scan_of}
use Rattle.archive_report.proofs.Arrays.{lines_new, lines-held}
use Rattle.archive_report.proofs.Blocks.{sane_as, going_sane}
use Rattle.archive_report.proofs.Calls.{stay, feed-not, feed-size, feed-done}
use Rattle.archive_report.proofs.Adding.feed.Goals as goal

-- the lines after a piece
fed-lines : {xs : List ℕ} (f : PieceAdded) (old : List ℕ) → f.number ≡ 0
    → xs ≡ with_lines f.next.tally.lines old → xs ≡ lines_fed f old
fed-lines f old z h = rw (eq-eqb f.number 0 z) h

pub returns-then-not-is_adding : goal.returns-then-not-is_adding
returns-then-not-is_adding c =
    let a = c.args in
    let is = feed-not (adding_of a.self) (sym c.is_adding.ensures ∙ c.if-not-is_adding.true) a.piece.now in
    record {
      result_value = is;
      before_value = (refl, stay _ NotAccepted _ a.self.lines (sym (ap (λ (x : PieceAdded). x.number) is)) refl);
    }

pub is_piece-requires : goal.is_piece-requires
is_piece-requires c =
    let a = adding_of c.args.self in
    (scan_facts a.tally.scan (going a (sym c.is_adding.ensures ∙ c.if-not-is_adding.false)).scanned).0

pub returns-then-not-is_piece : goal.returns-then-not-is_piece
returns-then-not-is_piece c =
    let a = c.args in
    let is =
    feed-size (adding_of a.self) (sym c.is_adding.ensures ∙ c.if-not-is_adding.false) a.piece.now
    (sym c.is_piece.ensures ∙ c.if-not-is_piece.true) in
    record {
      result_value = is;
      before_value = (refl, stay _ Size _ a.self.lines (sym (ap (λ (x : PieceAdded). x.number) is)) refl);
    }

pub add_blocks-t-requires : goal.add_blocks-t-requires
add_blocks-t-requires c =
    let long : length c.args.self.lines ≡ 1280 = search rules in
    let a = c.args.self in
    let is = c.so_far.ensures in (
      long,
      omega (
        arith,
        ap (λ (t : Tally). t.scan.blocks) is,
        (whole_facts _ (sym c.is_piece.ensures ∙ c.if-not-is_piece.false)).1,
      ),
      sane_as is (going_sane (adding_of a) (sym c.is_adding.ensures ∙ c.if-not-is_adding.false)),
    )

pub returns-then-t : goal.returns-then-t
returns-then-t c =
    let long : length c.args.self.lines ≡ 1280 = search rules in
    let known : (xs : List ℕ)
    → tally_of c.add_blocks-t.result xs ≡ tally_of c.add_blocks-t.result c.add_blocks-t.new.lines
    → piece_answer 0 (adding (report_of c.args.self.before) (tally_of c.add_blocks-t.result xs))
    ≡ add_piece_of (adding_of c.args.self) c.args.piece.now =
    λ xs same.
    feed-done (adding_of c.args.self) (sym c.is_adding.ensures ∙ c.if-not-is_adding.false) c.args.piece.now
    (sym c.is_piece.ensures ∙ c.if-not-is_piece.false) _
    (same ∙ c.add_blocks-t.ensures.lines_after
    ∙ ap (λ (t : Tally). add_blocks t (blocks_in c.args.piece.now)) c.so_far.ensures) in
    let old = c.args.self.lines in
    let t = c.add_blocks-t.result in
    let g = c.add_blocks-t.ensures.grows in
    let h = g.held c.if-t.true in
    let is =
    known old
    (λ i.
    record { lines = sym h i; kept = t.kept; loose = t.loose; over = t.over; scan = scan_of t.scan }) in record {
      result_value = ap (piece_answer 0) c.taken.ensures.0 ∙ is;
      before_value = (
        c.taken.ensures.1,
        fed-lines (add_piece_of (adding_of c.args.self) c.args.piece.now) old
            (sym (ap (λ (f : PieceAdded). f.number) is))
            (c.taken.ensures.2 ∙ lines-held c.so_far.result t old c.add_blocks-t.new.lines g long
            ∙ ap (λ (f : PieceAdded). with_lines f.next.tally.lines old) is),
      );
    }

pub returns : goal.returns
returns c =
    let long : length c.args.self.lines ≡ 1280 = search rules in
    let known : (xs : List ℕ)
    → tally_of c.add_blocks-t.result xs ≡ tally_of c.add_blocks-t.result c.add_blocks-t.new.lines
    → piece_answer 0 (adding (report_of c.args.self.before) (tally_of c.add_blocks-t.result xs))
    ≡ add_piece_of (adding_of c.args.self) c.args.piece.now =
    λ xs same.
    feed-done (adding_of c.args.self) (sym c.is_adding.ensures ∙ c.if-not-is_adding.false) c.args.piece.now
    (sym c.is_piece.ensures ∙ c.if-not-is_piece.false) _
    (same ∙ c.add_blocks-t.ensures.lines_after
    ∙ ap (λ (t : Tally). add_blocks t (blocks_in c.args.piece.now)) c.so_far.ensures) in
    let old = c.args.self.lines in
    let new = c.add_blocks-t.new.lines in
    let t = c.add_blocks-t.result in
    let g = c.add_blocks-t.ensures.grows in
    let is = known new refl in record {
      result_value = ap (piece_answer 0) c.taken-2.ensures.0 ∙ is;
      before_value = (
        c.taken-2.ensures.1,
        fed-lines (add_piece_of (adding_of c.args.self) c.args.piece.now) old
            (sym (ap (λ (f : PieceAdded). f.number) is))
            (c.taken-2.ensures.2
            ∙ lines_new c.so_far.result t old new g long
            (c.add_blocks-t.auto.lines ∙ long) c.if-t.false
            ∙ ap (λ (f : PieceAdded). with_lines f.next.tally.lines old) is),
      );
    }
