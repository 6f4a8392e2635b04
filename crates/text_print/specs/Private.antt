-- What the contracts of private functions say. No public contract cites these.
use Rattle.std.specs.Prelude.{ℕ, ◌≤◌, ◌≡◌, Bool, true, false, cond, List, leb, length, take, drop, Result, Ok, Err, is_ok}
use Rattle.std.proofs.lemmas.List.Edits.{sets}
use Rattle.text_program.specs.Collect.{Phase, collect}
use Rattle.text_program.specs.Buffer.{is_unended, Fed}
use Rattle.text_collect.specs.Printed.{printed_of}
use Rattle.text_collect.specs.Session.{Receiver, model_collector, phase_of}
use Rattle.text_print.specs.declared.Drain.{Drain}
use Rattle.base_refusal.specs.declared.Refusal.{Refusal}
use Rattle.base_refusal.specs.declared.Refusal.TheVariants.{ShortOutput}

-- all whole lines of the input were taken, from phase s on
pub record Drained (s : Phase Receiver) (input out out' : List ℕ) (r : Drain) : Type 0 where
  pub within : r.used ≤ length input
  pub fed : Fed (collect model_collector) s (take r.used input) out (phase_of r.session) out' r.written
  pub rest : is_unended (drop r.used input) ≡ true

-- how long the text of an input is, if it fits the output
abbrev pub length_that_fits : List ℕ → List ℕ → Result ℕ Refusal
length_that_fits input out =
    let n = length (printed_of input) in
    cond (leb n (length out)) (Ok n) (Err ShortOutput)

-- a pass over the input: whether its text fits the output, and the text, if it was to be written
pub record Passed (write : Bool) (input out out' : List ℕ) (r : Result ℕ Refusal) : Type 0 where
  pub answer : r ≡ length_that_fits input out
  pub quiet : write ≡ false → out' ≡ out
  pub text : write ≡ true → is_ok r ≡ true → out' ≡ sets out 0 (printed_of input)
