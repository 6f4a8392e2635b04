-- Restores by their cases, in the order of the code's tests.
--     readable                                           what the first test says
--     restore-unreadable, restore-other, restore-done    what each return has to show
--     stayed                                             a refusal
use Prim.Native.Nat.{ℕ, ◌≤◌}
use mathlib.Core.Path.{◌≡◌, refl, sym, ◌∙◌}
use Rattle.std.specs.Prelude.{Err}
use mathlib.Core.Bool.{true, false, false≢true}
use mathlib.Core.List.{List}
use lib.Dec.{leb, eqb}
use lib.ListN.{length, length-map}
use borrow.Author.Tests.{le-leb, leb-true, eq-eqb, eqb-true}
use Rattle.base_lists.specs.Lists.{up_from}
use Rattle.base_lists.proofs.Choice.{both}
use Rattle.base_lists.proofs.Tests.{and-true}
use Rattle.base_lists.proofs.UpFrom.{length-up_from}
use Rattle.base_refusal.specs.Number.{number_of}
use Rattle.base_refusal.specs.declared.Refusal.TheVariants.{NotAccepted}
use Rattle.base_refusal.proofs.Numbers.{refused-number}
use Rattle.radio_telegram.specs.Repeater.{max_setting}
use Rattle.collector_model.specs.View.{View, capacity}
use Rattle.collector_model.specs.Acceptable.{acceptable}
use Rattle.collector_model.specs.Image.{RestoreResult, image_length, setting_in, count_in, entry_in, parse, accepts, restore_of}
use Rattle.collector_checkpoint.specs.Checkpoint.{Restores}
use Rattle.collector_checkpoint.specs.Private.{is_image_of, is_readable, entries_in}
use Rattle.collector_state.specs.declared.Collector.{Collector}
use Rattle.collector_state.specs.Collector.{view_of}
use Rattle.collector_state.proofs.Inside.{fails}

-- "11: .. the collector stays as it was"
abbrev pub refused_with : View → RestoreResult
refused_with v = record { number = number_of NotAccepted; next = v }

-- done, with what is handed back
abbrev pub restored_with : View → RestoreResult
restored_with v = record { number = 0; next = v }

module _ (image : List ℕ) where
  pub readable : is_readable image ≡ true
      → (length image ≡ image_length) × (count_in image ≤ capacity) × (setting_in image ≤ max_setting)
  readable e =
      let a = both (eqb (length image) image_length) _ e in
      let b = both (leb (count_in image) capacity) (leb (setting_in image) max_setting) a.1 in (
        eqb-true (length image) image_length a.0,
        leb-true (count_in image) capacity b.0,
        leb-true (setting_in image) max_setting b.1,
      )

  accepted_readable : accepts image ≡ true → is_readable image ≡ true
  unfolding accepts acceptable parse
  accepted_readable e =
      let a = both (eqb (length image) image_length) _ e in
      let b = both (leb (setting_in image) max_setting) _ a.1 in
      let c =
      both (leb (length (entries_in image (count_in image))) capacity) _
      (both (acceptable (parse image)) _ b.1).0 in
      and-true a.0
      (and-true (rw (length-map (up_from 0 (count_in image)) (entry_in image), length-up_from 0 (count_in image)) at
      c.0)
      b.0)

  unreadable : is_readable image ≡ false → accepts image ≡ false
  unreadable e = fails (accepts image) (λ ok. false≢true (sym e ∙ accepted_readable ok))

  accepts_is : length image ≡ image_length → setting_in image ≤ max_setting
      → accepts image ≡ is_image_of (setting_in image) (parse image) image
  unfolding accepts
  accepts_is l s = rw (eq-eqb (length image) image_length l, le-leb (setting_in image) max_setting s)

  -- each return of a restore, of a state that is acceptable
  module _ (v : View) (ok : acceptable v ≡ true) where
    not-accepted : accepts image ≡ false → refused_with v ≡ restore_of v image
    unfolding restore_of
    not-accepted e = rw (ok, e)

    pub restore_unreadable : is_readable image ≡ false → refused_with v ≡ restore_of v image
    restore_unreadable e = not-accepted (unreadable e)

    module _ (long : length image ≡ image_length) (small : setting_in image ≤ max_setting) where
      pub restore_other : is_image_of (setting_in image) (parse image) image ≡ false
          → refused_with v ≡ restore_of v image
      restore_other e = not-accepted (accepts_is long small ∙ e)

      pub restore_done : is_image_of (setting_in image) (parse image) image ≡ true
          → restored_with (parse image) ≡ restore_of v image
      unfolding restore_of
      restore_done e = rw (ok, accepts_is long small ∙ e)

-- a refusal leaves what was handed in
pub stayed : (c : Collector) (image : List ℕ) → refused_with (view_of c) ≡ restore_of (view_of c) image
    → Restores c image (Err NotAccepted)
stayed c image e = record { result = e; elements = λ z. absurd (refused-number NotAccepted z); stays = λ _. refl }
