-- `text_print::go_through` meets its contract. The invariant: the input up to `at` was gone through, and what is kept of a line stands at the front of the
-- buffer. The measure is what is left of the input.
use mathlib.Core.Path.{◌≡◌}
use mathlib.Core.Bool.{Bool}
use mathlib.Core.List.{List}
use Prim.Native.Nat.{ℕ, ◌-◌, ◌≤◌}
use lib.ListN.{length, take}
use Rattle.text_collect.specs.declared.Session.{Session}
use Rattle.text_collect.specs.Session.{phase_of}
use Rattle.text_print.specs.Step.{chunk, output_capacity}
use Rattle.text_print.proofs.Turning.{Passing}
use Rattle.text_print.proofs.go_through.Given as goal

pub record Going (write : Bool) (input out₀ out buffer text : List ℕ) (s : Session) (at kept to : ℕ) : Type 0 where
  pub passing : Passing write input out₀ out (phase_of s) (take kept buffer) at to
  pub few : kept ≤ 150
  pub buffer_long : length buffer ≡ chunk
  pub text_long : length text ≡ output_capacity
  pub out_long : length out ≡ length out₀

abbrev pub invariant-loop-out : goal.invariant-loop-out
invariant-loop-out l =
    Going l.write l.input l.initial.out l.out l.buffer l.text l.s l.at l.kept l.to

abbrev pub decreases-loop-out : goal.decreases-loop-out
decreases-loop-out l = length l.input - l.at
