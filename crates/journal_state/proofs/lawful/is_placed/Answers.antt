-- `journal_state::lawful::is_placed` meets its contract: each return is one case of `is_placed`.
use mathlib.Core.Path.{◌≡◌, sym, ap, ◌∙◌}
use native.Mathlib.Omega.{arith}
use mathlib.Core.Bool.{◌&&◌}
use mathlib.Core.List.{[]}
use Prim.Native.Nat.{ℕ, ◌-◌}
use lib.Dec.{eqb}
use lib.ListN.{drop, length-drop}
use lib.Seq.{take_all}
use Rattle.archive_model.specs.Row.{is_blank}
use Rattle.journal_state.specs.State.{Kept, kept, logged, tail_length, max_tail}
use Rattle.journal_state.proofs.Laws.{tail_long, tail_dirty, tail_none, tail_some}
use Rattle.journal_state.proofs.lawful.is_placed.Lts as lts
use Rattle.journal_state.proofs.lawful.is_placed.Reads as reads
use Rattle.journal_state.proofs.lawful.is_placed.Tie as tie
use Rattle.journal_state.proofs.lawful.is_placed.Goals as goal

-- states on the way
abbrev Start : Type 0
Start = lts.Start tie.the-claims reads.Pre reads.Post

abbrev After-is_blank : Type 0
After-is_blank = lts.After-is_blank tie.the-claims reads.Pre reads.Post

abbrev said : Start → Kept
said s = kept s.args.numbers.now [] [] [] s.args.tail.now

pub returns-then-numbers : goal.returns-then-numbers
returns-then-numbers c =
    let c_back3 = c.before.before.before in
    tail_long (said c_back3.before.before) c.if-numbers.true

-- what stands behind the bytes that are kept
told : (c : After-is_blank)
    → (
    let c_back3 = c.before.before.before in
    let c_back6 = c_back3.before.before.before in
    c.is_blank.result ≡ is_blank (drop (tail_length (said c_back6.before)) c.args.tail.now))
told c =
    let c_back3 = c.before.before.before in
    let c_back6 = c_back3.before.before.before in
    c.is_blank.ensures
    ∙ ap is_blank
    (take_all (max_tail - tail_length (said c_back6.before)) (drop (tail_length (said c_back6.before)) c.args.tail.now)
    (rw (length-drop (tail_length (said c_back6.before)) c.args.tail.now) (omega (arith, c.requires))))

pub returns-then-not-is_blank : goal.returns-then-not-is_blank
returns-then-not-is_blank c =
    let c_back3 = c.before.before.before in
    let c_back6 = c_back3.before.before.before in
    tail_dirty (said c_back6.before.before.before) c.if-numbers.false
    (sym (told c.before.before) ∙ c.if-not-is_blank.true)

pub returns-then-numbers-eq0 : goal.returns-then-numbers-eq0
returns-then-numbers-eq0 c =
    let c_back3 = c.before.before.before in
    let c_back6 = c_back3.before.before.before in
    let c_back9 = c_back6.before.before.before in
    let c_back12 = c_back9.before.before.before in
    tail_none (said c_back12.before.before.before) c.if-numbers.false
    (sym (told c_back6.before.before) ∙ c.if-not-is_blank.false) c.if-numbers-eq0.true

pub returns : goal.returns
returns c =
    let c_back3 = c.before.before.before in
    let c_back6 = c_back3.before.before.before in
    let c_back9 = c_back6.before.before.before in
    let c_back12 = c_back9.before.before.before in
    let k = said c_back12.before.before.before in
    ap (λ (n : ℕ). eqb (logged k) 1 && eqb (tail_length k) n) c.min.ensures
    ∙ tail_some k c.if-numbers.false (sym (told c_back6.before.before) ∙ c.if-not-is_blank.false) c.if-numbers-eq0.false
