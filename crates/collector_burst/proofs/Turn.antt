-- What holds at each turn of the loop over a list of receptions: what is left of them leads to the whole list's end.
--     Going        i receptions are taken, at these arrays, this summary and this list of replies
--     starts, turns, ends      it holds before the loop, from one turn to the next, and says the result after it
use mathlib.Core.Path.{◌≡◌, refl, sym, ◌∙◌, ap, ap₂, subst}
use Prim.Native.Nat.{ℕ, ◌+◌, ◌≤◌, ◌<◌, zero-le}
use native.Mathlib.Nat.{le_antisymm}
use native.Mathlib.Numerals.{add-one}
use native.Mathlib.Omega.{arith}
use mathlib.Core.Bool.{Bool}
use mathlib.Core.List.{List, [], ◌∷◌, ◌++◌, map, map-append, append_assoc}
use lib.ListN.{length, take, drop, get_or, set, length-set, take-append-drop}
use lib.Seq.{drop-cons, drop-length, take-suc-set, drop-set-lt}
use Rattle.collector_model.specs.View.{View}
use Rattle.collector_state.specs.declared.Summary.{Summary}
use Rattle.collector_state.specs.Collector.{Columns, view_in}
use Rattle.collector_burst.specs.declared.Reception.{Reception}
use Rattle.collector_burst.specs.declared.Reply.{Reply}
use Rattle.collector_burst.specs.Records.{reception_of, replied_of}
use Rattle.collector_burst.specs.Private.{StepResult, BurstStep, Steps, admitted_with, after_tested, columns_tested, replies, Delivered}
use Rattle.collector_model.specs.History.{Timely}
use Rattle.collector_model.specs.Burst.{Replied}

-- what `get_or` gives past the end of a list; no proof looks at it
abbrev pub no_reception : Reception
no_reception = record { bytes = []; len = 0; time = 0 }

module _ (setting : ℕ) (fit : Bool) (a₀ : Columns) (s₀ : Summary) (rs : List Reception)
    (ys : List Reply) where
  abbrev v : View
  v = view_in a₀ s₀

  abbrev n : ℕ
  n = length rs

  pub record Going (i : ℕ) (a : Columns) (s : Summary) (zs : List Reply) : Type 0 where
    pub within : i ≤ n
    pub long : length zs ≡ length ys
    pub state : after_tested fit (view_in a s) (drop i rs) ≡ after_tested fit v rs
    pub elements : columns_tested fit (view_in a s) (drop i rs) a ≡ columns_tested fit v rs a₀
    pub replied : map replied_of (take i zs)
        ++ (replies setting fit (view_in a s) (drop i rs) ++ map replied_of (drop n zs))
        ≡ replies setting fit v rs ++ map replied_of (drop n ys)
    pub timely : Timely (map reception_of (drop i rs)) → Timely (map reception_of rs)

  pub starts : Going 0 a₀ s₀ ys
  starts =
      record {
        within = zero-le;
        long = refl;
        state = refl;
        elements = refl;
        replied = refl;
        timely = λ t. t;
      }

  module _ (in_ys : n ≤ length ys) where
    -- what is left of the receptions begins with the next one
    left : (i : ℕ) → i < n → drop i rs ≡ get_or rs i no_reception ∷ drop (i + 1) rs
    left i h = rw (add-one, drop-cons rs i no_reception)

    module _ {i : ℕ} {a : Columns} {s : Summary} {zs : List Reply} (g : Going i a s zs) where
      pub turns : i < n → (a' : Columns) (r : BurstStep)
          → Steps setting fit a s (get_or rs i no_reception) a' r
          → Going (i + 1) a' r.summary (set zs i r.reply)
      unfolding after_tested columns_tested replies
      turns h a' r said = record {
        within = omega arith;
        long = length-set zs i r.reply ∙ g.long;
        state = ap (λ (u : View). after_tested fit u rest) next ∙ ap (after_tested fit here) (sym (left i h)) ∙ g.state;
        elements =
            ap₂ (λ (u : View) (c : Columns). columns_tested fit u rest c) next said.elements
            ∙ ap (λ (l : List Reception). columns_tested fit here l a) (sym (left i h))
            ∙ g.elements;
        replied =
            ap (λ (l : List Reply). map replied_of l
            ++ (replies setting fit (view_in a' r.summary) rest ++ map replied_of (drop n (set zs i r.reply))))
            (ap (λ (k : ℕ). take k (set zs i r.reply)) (add-one i) ∙ take-suc-set zs i r.reply inside)
            ∙ ap (λ (l : List Replied). l
            ++ (replies setting fit (view_in a' r.summary) rest ++ map replied_of (drop n (set zs i r.reply))))
            (map-append replied_of (take i zs) (r.reply ∷ []))
            ∙ ap (λ (l : List Reply). (map replied_of (take i zs) ++ (replied_of r.reply ∷ []))
            ++ (replies setting fit (view_in a' r.summary) rest ++ map replied_of l))
            (drop-set-lt n zs i r.reply h)
            ∙ ap (λ (u : View). (map replied_of (take i zs) ++ (replied_of r.reply ∷ []))
            ++ (replies setting fit u rest ++ map replied_of (drop n zs)))
            next
            ∙ append_assoc (map replied_of (take i zs)) (replied_of r.reply ∷ [])
            (replies setting fit o.next rest ++ map replied_of (drop n zs))
            ∙ ap (λ (b : Replied). map replied_of (take i zs)
            ++ (b ∷ (replies setting fit o.next rest ++ map replied_of (drop n zs))))
            answered
            ∙ ap (λ (l : List Reception). map replied_of (take i zs)
            ++ (replies setting fit here l ++ map replied_of (drop n zs)))
            (sym (left i h))
            ∙ g.replied;
        timely = λ t. g.timely (subst (λ (l : List Reception). Timely (map reception_of l)) (sym (left i h))
            (said.timely, t));
      }
        where
          here : View
          here = view_in a s

          o : StepResult
          o = admitted_with setting fit here (reception_of (get_or rs i no_reception))

          rest : List Reception
          rest = drop (i + 1) rs

          next : view_in a' r.summary ≡ o.next
          next = ap (λ (x : StepResult). x.next) said.said

          answered : replied_of r.reply ≡ o.reply
          answered = ap (λ (x : StepResult). x.reply) said.said

          inside : i < length zs
          inside = omega (arith, g.long)

      pub ends : n ≤ i → Delivered setting fit a₀ s₀ rs ys a s zs
      unfolding after_tested columns_tested replies
      ends h = record {
        state = ap (after_tested fit (view_in a s)) (sym none) ∙ g.state;
        elements = ap (λ (l : List Reception). columns_tested fit (view_in a s) l a) (sym none) ∙ g.elements;
        replied =
            ap (map replied_of) (sym (take-append-drop i zs)) ∙ map-append replied_of (take i zs) (drop i zs)
            ∙ ap (λ (k : ℕ). map replied_of (take i zs) ++ map replied_of (drop k zs)) all
            ∙ ap (λ (l : List Reception). map replied_of (take i zs)
            ++ (replies setting fit (view_in a s) l ++ map replied_of (drop n zs)))
            (sym none)
            ∙ g.replied;
        timely = g.timely (subst (λ (l : List Reception). Timely (map reception_of l)) (sym none) tt);
      }
        where
          all : i ≡ n
          all = le_antisymm g.within h

          none : drop i rs ≡ []
          none = ap (λ (k : ℕ). drop k rs) all ∙ drop-length rs
