-- How often a telegram was heard (document 02, A8): the number of copies of an open telegram, asked for by its index.
use Rattle.std.specs.Prelude.{ℕ, cond, not, List, map, leb, length, get_or}
use Rattle.base_refusal.specs.Number.{number_of}
use Rattle.base_refusal.specs.declared.Refusal.TheVariants.{Argument, NotAccepted}
use Rattle.collector_model.specs.View.{Entry, View}
use Rattle.collector_model.specs.Acceptable.{acceptable}

-- the numbers of copies, in opening order
abbrev pub copies_in : List Entry → List ℕ
copies_in l = map (λ e. e.copies) l

-- the number, and the copies; 0 with a refusal
pub record HeardResult : Type 0 where
  pub number : ℕ
  pub copies : ℕ

-- "it is asked for by place in opening order", counted from 0; 11, then "10 for a place that isn't open"
unfoldable pub copies_of : View → ℕ → HeardResult
copies_of v k =
    cond (not (acceptable v)) (record { number = number_of NotAccepted; copies = 0 })
    (cond (leb (length v.entries) k) (record { number = number_of Argument; copies = 0 })
    (record { number = 0; copies = get_or (copies_in v.entries) k 0 }))
