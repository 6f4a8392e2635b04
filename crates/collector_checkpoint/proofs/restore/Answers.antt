-- `collector_checkpoint::restore` meets its contract: a case for each answer, in the order of the tests.
use native.Mathlib.Omega.{arith}
use mathlib.Core.Path.{◌≡◌, refl, sym, ap, ap₂, ◌∙◌}
use mathlib.Core.Bool.{true, false}
use Prim.Native.Nat.{ℕ, ◌≤◌}
use lib.ListN.{length}
use Rattle.base_lists.specs.Lists.{equal}
use Rattle.base_lists.proofs.Choice.{both}
use Rattle.radio_telegram.specs.Repeater.{max_setting}
use Rattle.collector_model.specs.View.{View, capacity}
use Rattle.collector_model.specs.Acceptable.{acceptable}
use Rattle.collector_model.specs.Image.{image_length, image_with, setting_in, count_in, parse}
use Rattle.collector_model.proofs.Returns.{restore_unacceptable}
use Rattle.collector_state.specs.Collector.{view_of}
use Rattle.collector_checkpoint.specs.Private.{is_image_of}
use Rattle.collector_checkpoint.proofs.Restoring.{restored_with, readable, restore_unreadable, restore_other, restore_done, stayed}
use Rattle.collector_checkpoint.proofs.Spelled.{spelled}
use Rattle.collector_checkpoint.proofs.restore.Goals as goal
use Rattle.collector_checkpoint.proofs.restore.Goals.{Then-not-is_acceptable, Else-not-is_acceptable, Else-not-is_readable, After-is_image_of}

-- what the test says of the state that is handed in
failed : (c : Then-not-is_acceptable) → acceptable (view_of c.args.c) ≡ false
unfolding view_of
failed c = sym (c.is_acceptable.ensures _) ∙ c.if-not-is_acceptable.true

passed : (c : Else-not-is_acceptable) → acceptable (view_of c.args.c) ≡ true
unfolding view_of
passed c = sym (c.is_acceptable.ensures _) ∙ c.if-not-is_acceptable.false

pub returns-then-not-is_acceptable : goal.returns-then-not-is_acceptable
returns-then-not-is_acceptable c =
    stayed _ _ (restore_unacceptable _ (failed (goal.at.returns-then-not-is_acceptable c).Then-not-is_acceptable) _)

pub returns-then-not-is_readable : goal.returns-then-not-is_readable
returns-then-not-is_readable c =
    stayed _ _
    (restore_unreadable _ _ (passed (goal.at.returns-then-not-is_readable c).Else-not-is_acceptable)
    (sym c.is_readable.ensures ∙ c.if-not-is_readable.true))

read : (c : Else-not-is_readable) →
    let image = c.args.image.now in
    (length image ≡ image_length) × (count_in image ≤ capacity) × (setting_in image ≤ max_setting)
read c = readable c.args.image.now (sym c.is_readable.ensures ∙ c.if-not-is_readable.false)

compared : (c : After-is_image_of) → (
    let image = c.args.image.now in
    c.is_image_of.result ≡ is_image_of (setting_in image) (parse image) image)
unfolding view_of
compared c =
    let image = c.args.image.now in
    c.is_image_of.ensures
    ∙ ap₂ (λ (n : ℕ) (v : View). is_image_of n v image) c.second_in-setting.ensures c.parse-next.ensures.state

pub returns-then-not-is_image_of : goal.returns-then-not-is_image_of
returns-then-not-is_image_of c =
    let at = goal.at.returns-then-not-is_image_of c in
    let r = read at.Else-not-is_readable in
    stayed _ _
    (restore_other _ _ (passed at.Else-not-is_acceptable) r.0 r.2
    (sym (compared at.After-is_image_of) ∙ c.if-not-is_image_of.true))

pub returns : goal.returns
returns c =
    let at = goal.at.returns c in
    let r = read at.Else-not-is_readable in
    let same = sym (compared at.After-is_image_of) ∙ c.if-not-is_image_of.false in
    let image = c.args.image.now in
    record {
      result =
          ap restored_with c.parse-next.ensures.state
          ∙ restore_done _ _ (passed at.Else-not-is_acceptable) r.0 r.2 same;
      elements = λ _.
          let w = both (acceptable (parse image)) (equal (image_with (setting_in image) (parse image)) image) same in
          c.parse-next.ensures.elements ∙ spelled image w.0 w.1;
      stays = λ n. absurd (n refl);
    }

pub second_in-setting-requires : goal.second_in-setting-requires
second_in-setting-requires c = ((read (goal.at.second_in-setting-requires c).Else-not-is_readable).0, omega arith)

pub parse-next-requires : goal.parse-next-requires
parse-next-requires c =
    let r = read (goal.at.parse-next-requires c).Else-not-is_readable in (r.0, r.1)
