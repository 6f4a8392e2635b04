-- `history_log::keep` meets its contract: the test of the archive and of the name, a pass that says whether the rows and
-- the closings fit, a pass that puts them, and the state.
use mathlib.Core.Path.{◌≡◌}
use mathlib.Core.Bool.{false}
use Prim.Native.Nat.{◌^◌, ◌<◌}
use native.Mathlib.Omega.{arith}
use lib.ListN.{length}
use borrow.Author.Rules.{rules}
use borrow.Author.Tests.{not-true, not-false}
use Rattle.history_log.specs.Keep.{is_no_name}
use Rattle.history_log.specs.Private.{Holds}
use Rattle.history_log.proofs.Keeping.{is_refused, is_held, no_name, held-still, too_many, rows-room, all_kept}
use Rattle.history_log.proofs.keep.Lts as lts
use Rattle.history_log.proofs.keep.Reads as reads
use Rattle.history_log.proofs.keep.Tie as tie
use Rattle.history_log.proofs.keep.Goals as goal

-- states on the way
abbrev Else-number-ne0 : Type 0
Else-number-ne0 = lts.Else1 tie.the-claims reads.Pre reads.Post

abbrev Else-name : Type 0
Else-name = lts.Else2 tie.the-claims reads.Pre reads.Post

abbrev Start : Type 0
Start = lts.Start tie.the-claims reads.Pre reads.Post

held : (c : Else-number-ne0) → Holds c.args.archive.now c.verify-number.new.rows
held c = is_held c.args.archive.now c.verify-number.ensures c.if-number-ne0.false

named : (c : Else-name) → is_no_name c.args.name.now ≡ false
named c = c.if-name.false

small : (s : Start) → length s.args.log.now < 2 ^ 64
small s = search rules

-- ---- the needs
pub returns-then-number-ne0 : goal.returns-then-number-ne0
returns-then-number-ne0 c =
    let a = c.args in
    rw c.refused.ensures
    (is_refused a.archive.now c.verify-number.ensures a.log.now a.heard.now a.name.now a.state.now
    c.if-number-ne0.true)

pub returns-then-name : goal.returns-then-name
returns-then-name c =
    let c_back3 = c.before.before.before in
    let a = c.args in
    rw (c.refused-then-name.ensures, c.number.ensures)
    (no_name a.log.now a.archive.now a.heard.now a.name.now a.state.now (held c_back3.before)
    c.if-name.true)

pub go_through-p-requires : goal.go_through-p-requires
go_through-p-requires c =
    let c_back3 = c.before.before.before in
    (held c_back3.before.before.before, omega (arith, c.blank_image-image.ensures))

pub returns-then-not-p : goal.returns-then-not-p
returns-then-not-p c =
    let c_back3 = c.before.before.before in
    let c_back6 = c_back3.before.before.before in
    let c_back9 = c_back6.before.before.before in
    let c_back12 = c_back9.before.before.before in
    let c_back15 = c_back12.before.before.before in
    let a = c.args in
    rw (c.refused-then-not-p.ensures, c.number-then-not-p.ensures)
    (too_many a.log.now a.archive.now a.heard.now a.name.now a.state.now (held c_back15.before)
    (named c_back12.before.before.before) c.blank_image-image.result c.blank_image-image.ensures
    c.go_through-p.result c.go_through-p.ensures
    (not-true c.go_through-p.result.fits c.if-not-p.true))

pub go_through-q-requires : goal.go_through-q-requires
go_through-q-requires c =
    let c_back3 = c.before.before.before in
    let c_back6 = c_back3.before.before.before in
    let c_back9 = c_back6.before.before.before in
    let c_back12 = c_back9.before.before.before in
    let c_back15 = c_back12.before.before.before in
    let a = c.args in
    held-still a.log.now a.archive.now a.heard.now a.name.now a.state.now (held c_back15.before.before)
    (named c_back15.before) c.blank_image-image.result c.blank_image-image.ensures c.go_through-p.result
    c.go_through-p.ensures

pub put_state-lines-requires : goal.put_state-lines-requires
put_state-lines-requires c =
    let c_back3 = c.before.before.before in
    let c_back6 = c_back3.before.before.before in
    let c_back9 = c_back6.before.before.before in
    let c_back12 = c_back9.before.before.before in
    let c_back15 = c_back12.before.before.before in
    let c_back18 = c_back15.before.before.before in
    let c_back21 = c_back18.before.before.before in
    let c_back24 = c_back21.before.before.before in
    let a = c.args in
    rows-room a.log.now a.archive.now a.heard.now a.name.now a.state.now (held c_back24.before)
    (named c_back21.before.before.before) c.blank_image-image.result c.blank_image-image.ensures
    c.go_through-p.result c.go_through-p.ensures
    (not-false c.go_through-p.result.fits c.if-not-p.false) c.go_through-q.result c.go_through-q.ensures

pub returns : goal.returns
returns c =
    let c_back3 = c.before.before.before in
    let c_back6 = c_back3.before.before.before in
    let c_back9 = c_back6.before.before.before in
    let c_back12 = c_back9.before.before.before in
    let c_back15 = c_back12.before.before.before in
    let c_back18 = c_back15.before.before.before in
    let c_back21 = c_back18.before.before.before in
    let c_back24 = c_back21.before.before.before in
    let c_back27 = c_back24.before.before.before in
    let c_back30 = c_back27.before.before.before in
    let c_back33 = c_back30.before.before.before in
    let a = c.args in
    all_kept a.log.now a.archive.now a.heard.now a.name.now a.state.now (held c_back24.before.before)
    (named c_back24.before) c.blank_image-image.result c.blank_image-image.ensures c.go_through-p.result
    c.go_through-p.ensures
    (not-false c.go_through-p.result.fits c.if-not-p.false) c.go_through-q.result c.go_through-q.ensures
    (small c_back33.before) c.put_state-lines.result c.put_state-lines.ensures
