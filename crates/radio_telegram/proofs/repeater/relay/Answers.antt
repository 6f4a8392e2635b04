-- `radio_telegram::repeater::relay` meets its contract: each return is one case of `relay_of`.
use mathlib.Core.Path.{◌≡◌, sym, ap, ◌∙◌}
use mathlib.Core.List.{List}
use Prim.Native.Nat.{ℕ}
use native.Mathlib.Omega.{arith}
use Rattle.radio_erp1.specs.declared.status.Status.{Status}
use Rattle.radio_telegram.specs.Output.{written}
use Rattle.radio_telegram.specs.Repeater.{level_of, repeats}
use Rattle.radio_telegram.proofs.Repeating.{level_at, relay_short, relay_long, relay_none, relay_sent, raised_length}
use Rattle.radio_telegram.proofs.repeater.relay.Goals as goal
use Rattle.radio_telegram.proofs.repeater.relay.Goals.{After-repeats, then-n-lt-MIN_LEN-via-then-n-lt-MIN_LEN, then-n-lt-MIN_LEN-via-else-n-lt-MIN_LEN+then-n-gt-MAX_LEN}

-- what `repeats` answers, of the level that the definition reads
repeated : (c : After-repeats)
    → repeats c.args.setting (level_of c.args.bytes.now) ≡ c.repeats.result
repeated c =
    let level =
    ap (λ (s : Status). s.level) c.split-received.ensures
    ∙ level_at c.args.bytes.now (omega arith) in
    sym (c.repeats.ensures ∙ ap (λ (n : ℕ). repeats c.args.setting n) level)

pub returns-then-n-lt-MIN_LEN : goal.returns-then-n-lt-MIN_LEN
returns-then-n-lt-MIN_LEN c =
    ap (λ (xs : List ℕ). written xs c.args.out.now)
    (elim c.then-n-lt-MIN_LEN.branch [
      | then-n-lt-MIN_LEN-via-then-n-lt-MIN_LEN w ↦ relay_short _ _ w.if-n-lt-MIN_LEN.true
      | then-n-lt-MIN_LEN-via-else-n-lt-MIN_LEN+then-n-gt-MAX_LEN w ↦ relay_long _ _ w.if-n-gt-MAX_LEN.true
    ])

pub returns-then-not-repeats : goal.returns-then-not-repeats
returns-then-not-repeats c =
    ap (λ (xs : List ℕ). written xs c.args.out.now)
    (relay_none _ _ (omega arith) (omega arith) (repeated (goal.at.returns-then-not-repeats c).After-repeats
    ∙ c.if-not-repeats.true))

pub returns : goal.returns
returns c =
    let s = c.args.bytes.now in
    let sent =
    relay_sent c.args.setting s (omega arith) (omega arith)
    (repeated (goal.at.returns c).After-repeats ∙ c.if-not-repeats.false) in
    rw (← sent, c.put_raised.ensures, raised_length s (omega arith))
