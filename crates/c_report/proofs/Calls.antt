-- Answers by their fields; a line and a share, by the number.
use mathlib.Core.Path.{◌≡◌, refl, sym, ap, ◌∙◌, subst}
use Rattle.std.specs.Prelude.{Result, Ok, Err}
use mathlib.Core.List.{List, []}
use Prim.Native.Nat.{ℕ}
use borrow.Author.Tests.{ne_eqb}
use Rattle.base_refusal.specs.Number.{number_of}
use Rattle.base_refusal.specs.declared.Refusal.{Refusal}
use Rattle.base_refusal.specs.declared.Refusal.TheVariants.{Mismatch}
use Rattle.base_refusal.proofs.Numbers.{refused-number}
use Rattle.archive_file.specs.declared.ArchiveError.{ArchiveError}
use Rattle.archive_file.specs.Archive.{append_result}
use Rattle.archive_report_model.specs.Report as model
use Rattle.archive_report.specs.declared.Report.{Report}
use Rattle.archive_report.specs.Report.{report_of, added_result}
use Rattle.c_layout.specs.Lent.{if_mismatch}
use Rattle.c_report.specs.Calls.{report_at, report_numbers, Adds, SettlesReport, LineCall, answered_line, share_call}

abbrev pub looked : ℕ → List ℕ → LineCall
looked number values = record { number = number; values = values }

module _ (n : ℕ) (a : model.LineAnswer) (old : List ℕ) (is : n ≡ a.number) where
  pub line-not : (n ≡ 0 → ⊥) → looked n old ≡ answered_line a old
  line-not h = rw (ne_eqb a.number 0 (λ z. h (is ∙ z)), is)

abbrev pub sharing : ℕ → ℕ → model.Share
sharing number thousandths = record { number = number; thousandths = thousandths }

pub share_not : (why : Refusal) (n old : ℕ) → n ≡ number_of why
    → sharing n old ≡ share_call (sharing (number_of why) 0) old
share_not why n old is = rw (ne_eqb (number_of why) 0 (refused-number why), is)

-- ---- an answer that is settled

-- the same arrays, by another name of the answer
pub adds_as : {e f : model.Addition} {done also numbers lines numbers' lines' : List ℕ} {position number position' : ℕ}
    → e ≡ f → (f.number ≡ 0 → done ≡ also)
    → Adds e done numbers lines position number position' numbers' lines'
    → Adds f also numbers lines position number position' numbers' lines'
adds_as {e} {f} {done} {also} {numbers} {lines} {numbers'} {lines'} {position} {number} {position'} is same a = record {
  told = told;
  place = a.place ∙ ap (λ (x : model.Addition). if_mismatch x.number x.position position) is;
  next = a.next ∙ ap (λ (x : model.Addition). x.next) is;
  numbers_stay = a.numbers_stay;
  lines_stay = a.lines_stay;
  numbers_are = λ z. a.numbers_are z ∙ ap (λ (x : model.Addition). report_numbers x.next) is;
  lines_are = λ z. a.lines_are z ∙ same (sym told ∙ z);
}
  where
    told : number ≡ f.number
    told = a.told ∙ ap (λ (x : model.Addition). x.number) is

module _ (numbers lines : List ℕ) (position : ℕ) (answer : Result Report ArchiveError) where
  -- a report is stored
  pub settled_done : (next : Report) (numbers' lines' : List ℕ) → answer ≡ Ok next
      → (report_at numbers' lines' ≡ report_of next)
      × (numbers' ≡ report_numbers (report_of next)) × (lines' ≡ next.lines)
      → SettlesReport answer numbers lines position 0 position numbers' lines'
  settled_done next numbers' lines' is s =
      subst (λ (r : Result Report ArchiveError). SettlesReport r numbers lines position 0 position numbers' lines')
      (sym is)
      (λ old e.
      record {
        told = refl;
        place = refl;
        next = s.0;
        numbers_stay = λ n. absurd (n refl);
        lines_stay = λ n. absurd (n refl);
        numbers_are = λ z. s.1;
        lines_are = λ z. s.2;
      })

  module _ (number position' : ℕ) where
    -- nothing is stored beside a refusal
    kept : (why : Refusal) (k : ℕ)
        → ((old : Report) → added_result old answer ≡ model.addition (number_of why) k (report_of old))
        → (number ≡ number_of why) × (position' ≡ if_mismatch (number_of why) k position)
        → SettlesReport answer numbers lines position number position' numbers lines
    kept why k is r old e =
        adds_as {done = lines} (sym (is old))
        (λ z. absurd (refused-number why (ap (λ (x : model.Addition). x.number) (sym (is old)) ∙ z)))
        (record {
          told = r.0;
          place = r.1;
          next = sym e;
          numbers_stay = λ n. refl;
          lines_stay = λ n. refl;
          numbers_are = λ z. absurd (refused-number why (sym r.0 ∙ z));
          lines_are = λ z. absurd (refused-number why (sym r.0 ∙ z));
        })

    pub settled_not : (e : ArchiveError) → answer ≡ Err e
        → (number ≡ (append_result (Err e) []).number)
        × (position' ≡ if_mismatch (append_result (Err e) []).number (append_result (Err e) []).position position)
        → SettlesReport answer numbers lines position number position' numbers lines
    settled_not (ArchiveError.Damaged k) is r = kept Mismatch k (λ old. ap (added_result old) is) r
    settled_not (ArchiveError.Refused why) is r = kept why 0 (λ old. ap (added_result old) is) r
