-- `collector_state::acceptable::is_repeated` meets its contract: nothing is searched where the mark was not seen.
use mathlib.Core.Path.{◌≡◌, refl, sym, ap, ◌∙◌}
use mathlib.Core.Bool.{false≢true}
use Prim.Native.Nat.{ℕ, ◌*◌}
use native.Mathlib.Omega.{arith}
use lib.ListN.{length, get_or}
use Rattle.radio_erp1.specs.Subtelegram.{max_length}
use Rattle.base_buffers.specs.Buffer.{part, resized}
use Rattle.base_buffers.proofs.Buffer.{resized-length}
use Rattle.collector_state.specs.Private.{shown_at}
use Rattle.collector_state.proofs.Classifying.{some_known}
use Rattle.collector_state.proofs.acceptable.is_repeated.Goals as goal
use Rattle.collector_state.proofs.acceptable.is_repeated.Goals.{After-telegram-telegram}

-- the bytes that the entry shows
shown : (c : After-telegram-telegram)
    → c.telegram-telegram.result.now ≡ shown_at c.args.lens.now c.args.bytes.now c.args.i
shown c =
    let a = c.args in
    c.telegram-telegram.ensures
    ∙ ap (λ (n : ℕ). resized n (part (max_length * a.i) max_length a.bytes.now))
    c.from-len.ensures

pub returns-then-not-seen : goal.returns-then-not-seen
returns-then-not-seen c copies = record { new = λ _. refl; old = λ n. absurd (false≢true (sym c.if-not-seen.true ∙ n)) }

pub find-requires : goal.find-requires
find-requires c =
    let a = c.args in
    let long =
    ap length (shown (goal.at.find-requires c).After-telegram-telegram)
    ∙ resized-length (get_or a.lens.now a.i 0) (part (max_length * a.i) max_length a.bytes.now) in (
      omega arith,
      omega arith,
      omega (arith, c.requires.1, long),
      omega (arith, c.requires.2, long),
    )

pub returns : goal.returns
returns c copies =
    record {
      new = λ e. absurd (false≢true (sym e ∙ c.if-not-seen.false));
      old = λ _.
          rw (c.is_some.ensures, c.find.ensures copies, shown (goal.at.returns c).After-telegram-telegram)
          (some_known _ _);
    }
