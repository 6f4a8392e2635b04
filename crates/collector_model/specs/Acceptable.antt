-- The conditions on a state or an image (document 01, "Parked collector": "Reload accepts exactly ..").
use Rattle.std.specs.Prelude.{ℕ, ◌+◌, ◌-◌, Bool, not, ◌&&◌, ◌||◌, leb, eqb, length}
use Rattle.base_lists.specs.Lists.{all, pairwise}
use Rattle.radio_erp1.specs.Subtelegram.{is_valid}
use Rattle.radio_erp1.specs.Same.{is_same}
use Rattle.radio_telegram.specs.Repeater.{level_of}
use Rattle.collector_model.specs.declared.Totals.{Totals}
use Rattle.collector_model.specs.View.{Reception, Entry, View, opened_by, tx_maturity, capacity, is_open}

-- r is not an original that came after the sender of e had finished (document 02, A6: "a valid level 0 reception more
-- than 40 ms after the opening")
abbrev pub is_echo : Entry → Reception → Bool
is_echo e r = not (eqb (level_of r.bytes) 0) || leb (r.time - e.time) tx_maturity

-- r is a copy of the telegram that e opened, as long as that telegram is open: the same telegram, and an echo
unfoldable pub is_copy_of : Entry → Reception → Bool
is_copy_of e r = is_same e.bytes r.bytes && is_echo e r

-- "entries are valid, .. open at the latest time, none later than it"
abbrev pub is_entry : ℕ → Entry → Bool
is_entry latest e = is_valid e.bytes && (leb e.time latest && is_open latest e)

-- "in order of time (equal times allowed)", "no two the same telegram"
abbrev pub may_follow : Entry → Entry → Bool
may_follow e later = leb e.time later.time && not (is_copy_of e (opened_by later))

-- "received equals the other five summed without wrapping"
abbrev pub is_summed : Totals → Bool
is_summed n = eqb n.received (n.kept + n.copies + n.loose + n.damaged + n.late)

-- "entries are .., at most 64; received equals ..; kept is at least the entries"
unfoldable pub acceptable : View → Bool
acceptable v =
    leb (length v.entries) capacity
    && (all (is_entry v.latest) v.entries
    && (pairwise may_follow v.entries
    && (is_summed v.totals
    && leb (length v.entries) v.totals.kept)))
