-- What the contracts of private functions of a burst say. No public contract cites these.
use Rattle.std.specs.Prelude.{ℕ, ◌*◌, ◌≡◌, length, drop}
use mathlib.Core.List.{List, ◌++◌, map, flatten}
use Rattle.collector_model.specs.View.{Reception, View}
use Rattle.collector_model.specs.Step.{step}
use Rattle.collector_model.specs.Burst.{reply_with, after_all, replies_to}
use Rattle.collector_state.specs.Collector.{Columns, columns_after}
use Rattle.collector_burst.specs.Records.{columns_after_all}
use Rattle.c_burst.specs.Bytes.{reply_length, reply_bytes}

-- one reception, for a state and its columns: the bytes of the reply, the next state, and every element of the columns
pub record Answered (setting : ℕ) (v : View) (a : Columns) (r : Reception) (reply : List ℕ) (next : View) (a' : Columns) : Type 0 where
  pub replied : reply ≡ reply_bytes (reply_with setting (step v r).answer r)
  pub stepped : next ≡ (step v r).next
  pub elements : a' ≡ columns_after v r a

-- all receptions of a burst: the list of replies, the state, and every element of the columns
pub record Delivered (setting : ℕ) (v : View) (a : Columns) (rs : List Reception) (old new : List ℕ) (next : View) (a' : Columns) : Type 0 where
  pub replied : new ≡ flatten (map reply_bytes (replies_to setting v rs)) ++ drop (reply_length * length rs) old
  pub stepped : next ≡ after_all v rs
  pub elements : a' ≡ columns_after_all v rs a
