-- A reception's answer by the parts that the code finds it by, and the next state by that answer.
use Rattle.std.specs.Prelude.{Some, None, is_some}
use Prim.Native.Nat.{ℕ, ◌+◌, ◌≤◌, ◌<◌}
use native.Mathlib.Omega.{arith}
use mathlib.Core.Path.{◌≡◌, refl}
use mathlib.Core.Bool.{Bool, true, false, cond}
use mathlib.Core.List.{List}
use lib.Dec.{leb}
use lib.ListN.{length}
use borrow.Author.Tests.{lt-ltb, le-ltb, eqb-true}
use Rattle.base_refusal.specs.Number.{number_of}
use Rattle.base_refusal.specs.declared.Refusal.TheVariants as refusal
use Rattle.radio_erp1.specs.Subtelegram.{check_of, is_valid}
use Rattle.collector_model.specs.declared.Totals.{Totals}
use Rattle.collector_model.specs.Answer.{Kept, Copy, Loose}
use Rattle.collector_model.specs.View.{Reception, Entry, capacity}
use Rattle.collector_model.specs.Step.{max_count}
use Rattle.collector_state.specs.Admission.{has_copy, reception_check, answer_for}
use Rattle.collector_state.specs.Collector.{last_copy}
use Rattle.collector_state.specs.Private.{JudgedBy, Countable, copy_in}

-- ---- the tests before the open telegrams are looked at

module _ (latest : ℕ) (r : Reception) where
  pub reception-damaged : is_valid r.bytes ≡ false → check_of r.bytes ≡ reception_check latest r
  unfolding reception_check
  reception-damaged e = rw e

  module _ (valid : is_valid r.bytes ≡ true) where
    pub reception-late : r.time < latest → number_of refusal.Late ≡ reception_check latest r
    unfolding reception_check
    reception-late h = rw (valid, lt-ltb r.time latest h)

    pub reception-passed : latest ≤ r.time → 0 ≡ reception_check latest r
    unfolding reception_check
    reception-passed h = rw (valid, le-ltb r.time latest h)

-- ---- the answer

module _ (known crowded : Bool) where
  answer-copy : known ≡ true → Copy ≡ answer_for 0 known crowded
  unfolding answer_for
  answer-copy k = rw k

  module _ (new : known ≡ false) where
    answer-loose : crowded ≡ true → Loose ≡ answer_for 0 known crowded
    unfolding answer_for
    answer-loose c = rw (new, c)

    answer-kept : crowded ≡ false → Kept ≡ answer_for 0 known crowded
    unfolding answer_for
    answer-kept c = rw (new, c)

-- what was found says whether there is a copy, and which
pub some_known : (b : Bool) (k : ℕ) → is_some (cond b (Some k) None) ≡ b
some_known true k = refl
some_known false k = refl

some_is : (b : Bool) (k : ℕ) {i : ℕ} → Some i ≡ cond b (Some k) None → (b ≡ true) × (Some i ≡ Some k)
some_is true k e = (refl, e)
some_is false k e = cc

none-is : (b : Bool) (k : ℕ) → None ≡ cond b (Some k) None → b ≡ false
none-is true k e = cc
none-is false k e = refl

module _ (l : List Entry) (r : Reception) where
  pub judged-copy : {i : ℕ} → Some i ≡ copy_in l r → JudgedBy l r Copy (Some i)
  judged-copy e =
      let w = some_is (has_copy l r) (last_copy l r) e in
      record { answer = answer-copy (has_copy l r) (leb capacity (length l)) w.0; heard_is = w.1 }

  module _ (e : None ≡ copy_in l r) where
    new : has_copy l r ≡ false
    new = none-is (has_copy l r) (last_copy l r) e

    pub judged-loose : leb capacity (length l) ≡ true → JudgedBy l r Loose None
    judged-loose c = record { answer = answer-loose (has_copy l r) (leb capacity (length l)) new c; heard_is = refl }

    pub judged-kept : leb capacity (length l) ≡ false → JudgedBy l r Kept None
    judged-kept c = record { answer = answer-kept (has_copy l r) (leb capacity (length l)) new c; heard_is = refl }

-- ---- the totals

-- none of them is at its end, for none is above the sum
pub record Below (n : Totals) : Type 0 where
  pub kept : n.kept < max_count
  pub copies : n.copies < max_count
  pub loose : n.loose < max_count
  pub damaged : n.damaged < max_count
  pub late : n.late < max_count

pub below : {n : Totals} → Countable n → Below n
below {n} k =
    let sum : n.received ≡ n.kept + n.copies + n.loose + n.damaged + n.late = eqb-true _ _ k.summed in
    let room = k.room in
    record { kept = omega arith; copies = omega arith; loose = omega arith; damaged = omega arith; late = omega arith }
