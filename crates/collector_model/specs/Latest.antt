-- Document 02, A6, in its own words: "a valid level 0 reception more than 40 ms after the opening of the latest open
-- same telegram is not a COPY of it", and "Every COPY, at level 0 too, belongs to the latest opening". The definitions
-- ask more: `is_copy_of` is tested for each open telegram, and `credit` picks the last of which r is a copy. In opening
-- order, both agree with the latest open telegram that is the same.
use Rattle.std.specs.Prelude.{◌≡◌, ℕ, true, false, List, [], ◌∷◌, ◌++◌}
use Rattle.base_lists.specs.Lists.{keep, any}
use Rattle.radio_erp1.specs.Same.{is_same}
use Rattle.collector_model.specs.View.{Reception, Entry, recount}
use Rattle.collector_model.specs.Acceptable.{is_echo, is_copy_of}
use Rattle.collector_model.specs.Step.{credit}
use Rattle.collector_model.specs.Reference.{open_at, log_of}

-- the last element, if there is one
abbrev pub last_of : {A : Type 0} → List A → List A
last_of [] = []
last_of (x ∷ []) = x ∷ []
last_of (x ∷ y ∷ l) = last_of (y ∷ l)

-- of open telegrams in opening order, the latest that is the same telegram as r
abbrev pub latest_same : List Entry → Reception → List Entry
latest_same l r = last_of (keep (λ e. is_same e.bytes r.bytes) l)

-- THE CLAIM: after any receptions, r is a copy of an open telegram exactly if there is a latest open telegram that is
-- the same and r is an echo of it. So r is no level 0 reception more than 40 ms after the opening.
abbrev pub LatestDecides : Type 0
LatestDecides =
    (past : List Reception) (r : Reception)
    → any (λ e. is_copy_of e r) (open_at r.time (log_of past))
    ≡ any (λ e. is_echo e r) (latest_same (open_at r.time (log_of past)) r)

-- exactly one of these telegrams is credited: the latest that is the same as r; no other changes
pub record CreditsLatest (more : ℕ → ℕ) (r : Reception) (l : List Entry) : Type 0 where
  pub before : List Entry
  pub latest : Entry
  pub after : List Entry
  pub place : l ≡ before ++ (latest ∷ after)
  pub named : latest_same l r ≡ latest ∷ []
  pub last : any (λ e. is_same e.bytes r.bytes) after ≡ false
  pub credited : credit more (λ e. is_copy_of e r) l ≡ before ++ (recount more latest ∷ after)

-- THE CLAIM: after any receptions, a copy is credited to the latest open telegram that is the same, and to no other
abbrev pub LatestCredited : Type 0
LatestCredited =
    (more : ℕ → ℕ) (past : List Reception) (r : Reception)
    → any (λ e. is_copy_of e r) (open_at r.time (log_of past)) ≡ true
    → CreditsLatest more r (open_at r.time (log_of past))
