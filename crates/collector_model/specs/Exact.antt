-- "Reload accepts exactly ..": an image that a checkpoint writes, or wrote when images still had the setting, and
-- nothing else (document 01, "Parked collector"; document 02, A7).
use Rattle.std.specs.Prelude.{ℕ, ◌*◌, ◌^◌, ◌≤◌, ◌<◌, ◌≡◌, Bool, true, false, ◌&&◌, List, leb, ltb, length}
use Rattle.base_lists.specs.Lists.{all}
use Rattle.radio_telegram.specs.Repeater.{max_setting}
use Rattle.block_layout.specs.Cell.{cell_capacity}
use Rattle.block_layout.specs.Block.{cells_per_block}
use Rattle.collector_model.specs.View.{Entry, View, ceiling}
use Rattle.collector_model.specs.Acceptable.{acceptable}
use Rattle.collector_model.specs.Image.{image_with, setting_in, parse, accepts}

-- numbers of 64 bits, and counts of 16 bits, as the types of every state say; in an acceptable view the other numbers
-- are not greater
pub record Fits (v : View) : Type 0 where
  pub latest : v.latest < 2 ^ 64
  pub received : v.totals.received < 2 ^ 64
  pub copies : all (λ e. leb e.copies ceiling) v.entries ≡ true

-- a view that the layout can hold, acceptable or not: numbers of 64 bits, and no more entries, bytes and copies than
-- there is room for
abbrev pub fits_cell : Entry → Bool
fits_cell e = ltb e.time (2 ^ 64) && (leb (length e.bytes) cell_capacity && leb e.copies ceiling)

-- the same for a whole view
pub record FitsLayout (v : View) : Type 0 where
  pub latest : v.latest < 2 ^ 64
  pub received : v.totals.received < 2 ^ 64
  pub kept : v.totals.kept < 2 ^ 64
  pub copies : v.totals.copies < 2 ^ 64
  pub loose : v.totals.loose < 2 ^ 64
  pub damaged : v.totals.damaged < 2 ^ 64
  pub late : v.totals.late < 2 ^ 64
  pub few : length v.entries ≤ 5 * cells_per_block
  pub entries : all fits_cell v.entries ≡ true

-- Exact (THE CLAIM): a restore accepts exactly these images
pub record Exact : Type 0 where
  -- the image of every acceptable view, with 0, 1 or 2 as the setting, is accepted, and reads back as that view
  pub accepted : (setting : ℕ) → setting ≤ max_setting → (v : View) → acceptable v ≡ true → Fits v
      → accepts (image_with setting v) ≡ true
  pub read_back : (setting : ℕ) → setting ≤ max_setting → (v : View) → acceptable v ≡ true → Fits v
      → parse (image_with setting v) ≡ v
  -- the image of a view that is not acceptable is refused, with any number as the setting: from it "no image that
  -- reload accepts could be parked"
  pub refused : (setting : ℕ) (v : View) → acceptable v ≡ false → FitsLayout v → accepts (image_with setting v) ≡ false
  -- no image that is accepted gives a view that is not acceptable, also if the layout cannot hold that view
  pub not_said : (v : View) → acceptable v ≡ false → (image : List ℕ) → accepts image ≡ true → parse image ≡ v → ⊥
  -- an image that is accepted is that of an acceptable view, with 0, 1 or 2 as the setting
  pub small_setting : (image : List ℕ) → accepts image ≡ true → setting_in image ≤ max_setting
  pub acceptable_view : (image : List ℕ) → accepts image ≡ true → acceptable (parse image) ≡ true
  pub written : (image : List ℕ) → accepts image ≡ true → image_with (setting_in image) (parse image) ≡ image
