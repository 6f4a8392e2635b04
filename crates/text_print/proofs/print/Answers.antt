-- `text_print::print` meets its contract: the first pass says whether the text fits, the second writes it.
use Rattle.std.specs.Prelude.{Result as Answer, Ok, Err}
use mathlib.Core.Path.{◌≡◌, refl, sym, ◌∙◌}
use mathlib.Core.Bool.{true, false}
use mathlib.Core.List.{List}
use Prim.Native.Nat.{ℕ}
use native.Mathlib.Omega.{arith}
use native.Mathlib.Nat.{zero-add}
use borrow.Author.Rules.{rules}
use lib.Dec.{leb}
use lib.ListN.{length}
use lib.Seq.{sets-eq}
use borrow.Author.Tests.{leb-true, leb-false, lt-ltb, le-ltb}
use Rattle.base_lists.proofs.Choice.{cond_no, cond_yes}
use Rattle.base_refusal.specs.declared.Refusal.{Refusal}
use Rattle.base_refusal.specs.declared.Refusal.TheVariants.{ShortOutput}
use Rattle.radio_telegram.specs.Output.{result_of}
use Rattle.text_collect.specs.Printed.{printed_of}
use Rattle.text_print.specs.Print.{print_result}
use Rattle.text_print.specs.Private.{Passed}
use Rattle.text_print.proofs.print.Goals as goal

module _ (input out : List ℕ) {out₁ : List ℕ} {r : Answer ℕ Refusal} (p : Passed false input out out₁ r) where
  too_short : {why : Refusal} → r ≡ Err why → result_of (Err why) out₁ ≡ print_result input out
  unfolding print_result
  too_short {why} e =
      let text = printed_of input in
      let y = cond_no (leb (length text) (length out)) (λ z. cc) (sym p.answer ∙ e) in
      let same : why ≡ ShortOutput = let z = y.1 in cc in
      rw (same, lt-ltb (length out) (length text) (leb-false (length text) (length out) y.0), p.quiet refl)

  printed : {n : ℕ} → r ≡ Ok n → {out₂ : List ℕ} {q : Answer ℕ Refusal} → Passed true input out₁ out₂ q
      → result_of q out₂ ≡ print_result input out
  unfolding print_result
  printed e {out₂} {q} w =
      let text = printed_of input in
      let y = cond_yes (leb (length text) (length out)) (λ z. cc) (sym p.answer ∙ e) in
      let h = leb-true (length text) (length out) y.0 in
      let v = rw (p.quiet refl) at w in
      let f : q ≡ Ok (length text) = v.answer ∙ rw y.0 in
      let o = v.text refl (rw f) ∙ rw (zero-add (length text)) at (sets-eq text out 0 (omega arith)) in
      rw (f, le-ltb (length out) (length text) h, o)

pub returns-in_err-go_through : goal.returns-in_err-go_through
returns-in_err-go_through c =
    let e : c.from_residual.result ≡ Err c.in_err-go_through.field-0.0 = search rules in
    rw e (too_short c.args.input.now c.args.out.now c.go_through.ensures c.in_err-go_through.was)

pub returns : goal.returns
returns c =
    printed c.args.input.now c.args.out.now c.go_through.ensures c.in_ok-go_through.was c.go_through-2.ensures
