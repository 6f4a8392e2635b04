-- The repeaters of a site as bytes, for callers in C. Each has nine bytes: rule, level, duration in four bytes from the
-- highest on, first, second and third slot. The papers do not define this layout.
use Rattle.std.specs.Prelude.{cond, List, map, ℕ, ◌+◌, ◌*◌, ◌/◌, ◌%◌, min, eqb, length, get_or, take, drop}
use Rattle.base_lists.specs.Lists.{up_from}
use Rattle.base_refusal.specs.Number.{number_of}
use Rattle.base_refusal.specs.declared.Refusal.TheVariants.{Argument}
use Rattle.plan_slots.specs.Plan.{plan}
use Rattle.plan_site.specs.declared.Assignment.{Assignment}
use Rattle.plan_site.specs.Site.{max_repeaters, SiteAnswer, site_answer, site_of}

-- the number of bytes of one repeater
abbrev pub size : ℕ
size = 9

-- the repeater in nine bytes
abbrev pub assignment_of : List ℕ → Assignment
assignment_of b = record {
  rule = get_or b 0 0;
  level = get_or b 1 0;
  duration = get_or b 2 0 * 16_777_216 + get_or b 3 0 * 65_536 + get_or b 4 0 * 256 + get_or b 5 0;
  slots = plan (get_or b 6 0) (get_or b 7 0) (get_or b 8 0);
}

-- repeater i: its bytes begin at 9 * i
abbrev pub assignment_at : List ℕ → ℕ → Assignment
assignment_at s i = assignment_of (take size (drop (size * i) s))

-- how many whole repeaters there are, at most 32
abbrev pub repeater_count : List ℕ → ℕ
repeater_count s = min (length s / size) max_repeaters

-- the repeaters in these bytes
abbrev pub assignments_in : List ℕ → List Assignment
assignments_in s = map (assignment_at s) (up_from 0 (repeater_count s))

-- also 10 if the bytes are not whole repeaters
abbrev pub site_in : List ℕ → SiteAnswer
site_in s = cond (eqb (length s % size) 0) (site_of (length s / size) (assignments_in s))
    (site_answer (number_of Argument) 0 0)
