-- What the contracts of private functions of a burst say. No public contract cites these.
use Rattle.std.specs.Prelude.{◌≡◌, Bool, List, [], ◌∷◌, ◌++◌, map, ℕ, ◌<◌, ◌^◌, length, drop}
use Rattle.collector_model.specs.View as view
use Rattle.collector_model.specs.View.{View}
use Rattle.collector_state.specs.declared.Summary.{Summary}
use Rattle.collector_state.specs.Collector.{Columns, view_in}
use Rattle.collector_state.specs.Admission.{admission, columns_admitted}
use Rattle.collector_burst.specs.declared.Reception.{Reception}
use Rattle.collector_burst.specs.declared.Reply.{Reply}
use Rattle.collector_model.specs.History.{Timely}
use Rattle.collector_model.specs.Burst.{Replied, reply_with}
use Rattle.collector_burst.specs.Records.{reception_of, replied_of}

-- the summary after a reception, and the reply to it
pub record BurstStep : Type 0 where
  pub summary : Summary
  pub reply : Reply

-- the reply to one reception, and the next state
pub record StepResult : Type 0 where
  pub reply : Replied
  pub next : View

abbrev pub stepped_of : Columns → BurstStep → StepResult
stepped_of a r = record { reply = replied_of r.reply; next = view_in a r.summary }

-- one reception, where the caller says whether the state is acceptable, with the telegram to send at a setting
abbrev pub admitted_with : ℕ → Bool → View → view.Reception → StepResult
admitted_with setting fit v r =
    let o = admission fit v r in
    record { reply = reply_with setting o.answer r; next = o.next }

-- the same for columns and a summary: the reply, the next state, and every element of the columns
pub record Steps (setting : ℕ) (fit : Bool) (a : Columns) (s : Summary) (e : Reception) (a' : Columns) (r : BurstStep) : Type 0 where
  pub said : stepped_of a' r ≡ admitted_with setting fit (view_in a s) (reception_of e)
  pub elements : a' ≡ columns_admitted fit (view_in a s) (reception_of e) a
  -- by its type
  pub timely : e.time < 2 ^ 64

-- the columns after the receptions of records, one by one
unfoldable pub columns_tested : Bool → View → List Reception → Columns → Columns
columns_tested fit v [] a = a
columns_tested fit v (r ∷ rs) a =
    columns_tested fit (admission fit v (reception_of r)).next rs (columns_admitted fit v (reception_of r) a)

-- the state after the receptions of records, one by one
unfoldable pub after_tested : Bool → View → List Reception → View
after_tested fit v [] = v
after_tested fit v (r ∷ rs) = after_tested fit (admission fit v (reception_of r)).next rs

-- the replies to the receptions of records, one by one
unfoldable pub replies : ℕ → Bool → View → List Reception → List Replied
replies setting fit v [] = []
replies setting fit v (r ∷ rs) =
    let o = admitted_with setting fit v (reception_of r) in
    o.reply ∷ replies setting fit o.next rs

-- all records were taken: the state, and every entry of the list of replies
pub record Delivered (setting : ℕ) (fit : Bool) (a : Columns) (s : Summary)
    (rs : List Reception) (ys : List Reply) (a' : Columns) (s' : Summary) (zs : List Reply) : Type 0 where
  pub state : view_in a' s' ≡ after_tested fit (view_in a s) rs
  pub elements : a' ≡ columns_tested fit (view_in a s) rs a
  pub replied : map replied_of zs ≡ replies setting fit (view_in a s) rs ++ map replied_of (drop (length rs) ys)
  pub timely : Timely (map reception_of rs)
