-- Document 02, A6, on reload, in its own words: "several entries of one telegram if each was opened more than 40 ms
-- after the one before and all but the first have level 0". `may_follow` is tested for every two entries. In order of
-- time, both mean the same.
use Rattle.std.specs.Prelude.{◌-◌, ◌≡◌, Bool, true, ◌&&◌, List, [], ◌∷◌, ◌++◌, leb, ltb, eqb}
use Rattle.base_lists.specs.Lists.{all, pairwise}
use Rattle.radio_telegram.specs.Repeater.{level_of}
use Rattle.collector_model.specs.View.{Entry, opened_by, tx_maturity}
use Rattle.collector_model.specs.Acceptable.{may_follow}
use Rattle.collector_model.specs.Latest.{latest_same}

-- "in order of time (equal times allowed)"
abbrev pub in_time : Entry → Entry → Bool
in_time e later = leb e.time later.time

-- e has level 0, and was opened more than 40 ms after x
abbrev pub is_second : Entry → Entry → Bool
is_second x e = eqb (level_of e.bytes) 0 && ltb tx_maturity (e.time - x.time)

-- each entry is second to the entry of the same telegram before it, if there is one
abbrev pub are_second : List Entry → List Entry → Bool
are_second before [] = true
are_second before (e ∷ l) = all (λ x. is_second x e) (latest_same before (opened_by e)) && are_second (before ++ (e ∷ [])) l

-- THE CLAIM: `may_follow` on every two entries is order of time, and this condition
abbrev pub SeveralEntries : Type 0
SeveralEntries = (l : List Entry) → pairwise may_follow l ≡ (pairwise in_time l && are_second [] l)
