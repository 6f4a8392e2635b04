-- `journal_state::lawful::is_attached` meets its contract: each return is one case of `is_attached`.
use mathlib.Core.Path.{◌≡◌, sym, ap, ◌∙◌}
use native.Mathlib.Omega.{arith}
use mathlib.Core.Bool.{Bool, ◌&&◌}
use mathlib.Core.List.{[]}
use Prim.Native.Nat.{◌-◌}
use lib.Dec.{eqb}
use lib.ListN.{drop, length-drop}
use lib.Seq.{take_all}
use Rattle.archive_model.specs.Row.{is_blank}
use Rattle.journal_state.specs.State.{Kept, kept, began, had, file_number, name_length, max_name}
use Rattle.journal_state.proofs.Laws.{name-long, name_dirty, name_none, name_some, file-alone}
use Rattle.journal_state.proofs.lawful.is_attached.Lts as lts
use Rattle.journal_state.proofs.lawful.is_attached.Reads as reads
use Rattle.journal_state.proofs.lawful.is_attached.Tie as tie
use Rattle.journal_state.proofs.lawful.is_attached.Goals as goal

-- states on the way
abbrev Start : Type 0
Start = lts.Start tie.the-claims reads.Pre reads.Post

abbrev After-is_blank : Type 0
After-is_blank = lts.After-is_blank tie.the-claims reads.Pre reads.Post

abbrev said : Start → Kept
said s = kept s.args.numbers.now s.args.name.now s.args.last.now [] []

pub returns-then-numbers : goal.returns-then-numbers
returns-then-numbers c =
    let c_back3 = c.before.before.before in
    name-long (said c_back3.before.before.before) c.args.counted c.if-numbers.true

-- what stands behind the name
told : (c : After-is_blank)
    → (
    let c_back3 = c.before.before.before in
    let c_back6 = c_back3.before.before.before in
    c.is_blank.result ≡ is_blank (drop (name_length (said c_back6.before.before)) c.args.name.now))
told c =
    let c_back3 = c.before.before.before in
    let c_back6 = c_back3.before.before.before in
    c.is_blank.ensures
    ∙ ap is_blank
    (take_all (max_name - name_length (said c_back6.before.before))
    (drop (name_length (said c_back6.before.before)) c.args.name.now)
    (rw (length-drop (name_length (said c_back6.before.before)) c.args.name.now) (omega (arith, c.requires))))

pub returns-then-not-is_blank : goal.returns-then-not-is_blank
returns-then-not-is_blank c =
    let c_back3 = c.before.before.before in
    let c_back6 = c_back3.before.before.before in
    let c_back9 = c_back6.before.before.before in
    name_dirty (said c_back9.before) c.args.counted c.if-numbers.false
    (sym (told c.before.before) ∙ c.if-not-is_blank.true)

pub returns-then-used-eq0 : goal.returns-then-used-eq0
returns-then-used-eq0 c =
    let c_back3 = c.before.before.before in
    let c_back6 = c_back3.before.before.before in
    let c_back9 = c_back6.before.before.before in
    let c_back12 = c_back9.before.before.before in
    ap (λ (x : Bool). eqb (began (said c_back12.before.before.before)) 0 && eqb
    (had (said c_back12.before.before.before)) 0 && eqb (file_number (said c_back12.before.before.before)) 0 && x)
    c.is_blank-then-used-eq0.ensures
    ∙ name_none (said c_back12.before.before.before) c.args.counted c.if-numbers.false
    (sym (told c_back6.before) ∙ c.if-not-is_blank.false) c.if-used-eq0.true

pub returns : goal.returns
returns c =
    let c_back3 = c.before.before.before in
    let c_back6 = c_back3.before.before.before in
    let c_back9 = c_back6.before.before.before in
    let c_back12 = c_back9.before.before.before in
    c.is_file.ensures ∙ file-alone (said c_back12.before.before) c.args.counted
    ∙ name_some (said c_back12.before.before) c.args.counted c.if-numbers.false
    (sym (told c_back3.before.before.before) ∙ c.if-not-is_blank.false) c.if-used-eq0.false
