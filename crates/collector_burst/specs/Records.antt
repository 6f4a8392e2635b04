-- The records of a burst, and what the burst gives (document 02, A1 and A7).
use Rattle.std.specs.Prelude.{◌≡◌, cond, List, [], ◌∷◌, map, ℕ, ◌+◌, ltb, take, drop, Result}
use Rattle.base_refusal.specs.declared.Refusal.{Refusal}
use Rattle.radio_erp1.specs.Subtelegram.{max_length}
use Rattle.base_buffers.specs.Buffer.{resized}
use Rattle.collector_model.specs.Answer.{shown_of}
use Rattle.collector_model.specs.View as view
use Rattle.collector_model.specs.View.{View}
use Rattle.collector_model.specs.Step.{step}
use Rattle.collector_state.specs.declared.Collector.{Collector}
use Rattle.collector_state.specs.Collector.{Columns, columns_of, columns_after, view_of, next_number, next_in}
use Rattle.collector_burst.specs.declared.Reception.{Reception}
use Rattle.collector_burst.specs.declared.Reply.{Reply}
use Rattle.collector_burst.specs.declared.Within.{Within}
use Rattle.collector_model.specs.Burst.{Replied, max_burst, BurstResult, taken, burst_of}

-- the reception in a record: as many bytes as its length says. A length over 21 gives a list of that length, which
-- fails the check with 1.
abbrev pub reception_of : Reception → view.Reception
reception_of r = record { bytes = resized r.len r.bytes; time = r.time }

-- how many bytes of a record the code hands over: none if the length is over 21
abbrev pub size_of : ℕ → ℕ
size_of len = cond (ltb max_length len) 0 len

-- a reply, as the model names it
abbrev pub replied_of : Reply → Replied
replied_of r = record { answer = shown_of r.answer; sent = r.sent }

-- the result of a burst with the list of replies after it, as the model names it
abbrev pub bursted_of : Collector → Result Collector Refusal → List Reply → BurstResult
bursted_of c r replies = record {
  number = next_number r;
  replies = map replied_of replies;
  next = view_of (next_in c r);
}

-- the columns after receptions that are taken one by one
unfoldable pub columns_after_all : View → List view.Reception → Columns → Columns
columns_after_all v [] a = a
columns_after_all v (r ∷ rs) a = columns_after_all (step v r).next rs (columns_after v r a)

-- what a burst gives, with the list of replies before and after it, and every element of the arrays. After a refusal
-- the state is exactly the one that was handed in.
pub record Bursts (c : Collector) (setting : ℕ) (rs : List Reception) (places : List Reply)
    (r : Result Collector Refusal) (after : List Reply) : Type 0 where
  pub result : bursted_of c r after ≡ burst_of setting (view_of c) (map reception_of rs) (map replied_of places)
  pub elements : columns_of (next_in c r)
      ≡ columns_after_all (view_of c) (taken (next_number r) (map reception_of rs)) (columns_of c)
  pub stays : (next_number r ≡ 0 → ⊥) → next_in c r ≡ c

-- the length of a list that is held by value: room for more than 256 receptions, so that 10 can be answered, and for
-- further entries
abbrev pub listed : ℕ
listed = max_burst + 3

-- a burst of the first n records with the first m entries for replies; the entries after these are unchanged
pub record WithinOf (c : Collector) (setting n m : ℕ) (records : List Reception) (places : List Reply)
    (r : Within) : Type 0 where
  pub front : Bursts c setting (take n records) (take m places) r.bursted (take m r.replies)
  pub past : drop m r.replies ≡ drop m places
