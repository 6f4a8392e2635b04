-- A burst as the model says it: records that are admitted one by one, at a state that was tested once, are steps; and what is planned, delivered and finished
-- is the burst's result.
use mathlib.Core.Path.{◌≡◌, refl, sym, ◌∙◌, ap, ap₂}
use mathlib.Core.Bool.{Bool, true}
use mathlib.Core.List.{List, [], ◌∷◌, ◌++◌, map}
use Prim.Native.Nat.{ℕ, zero, suc}
use lib.ListN.{length, drop, length-map}
use borrow.Author.Tests.{ne_eqb}
use Rattle.collector_model.specs.View as view
use Rattle.collector_model.specs.View.{View}
use Rattle.collector_model.specs.Step.{StepOutcome, step}
use Rattle.collector_state.specs.declared.Collector.{Collector}
use Rattle.collector_state.specs.declared.Summary.{Summary}
use Rattle.collector_state.specs.Collector.{Columns, columns_of, columns_after, view_of}
use Rattle.collector_state.specs.Admission.{collector_of, Tested}
use Rattle.collector_state.proofs.Stepping.{admission-fit, columns-fit, tested_next}
use Rattle.collector_burst.specs.declared.Reception.{Reception}
use Rattle.collector_burst.specs.declared.Reply.{Reply}
use Rattle.collector_model.specs.History.{Timely}
use Rattle.collector_model.specs.Burst.{Replied, BurstResult, reply_with, after_all, replies_to, burst_number, taken}
use Rattle.base_refusal.specs.Number.{number_of}
use Rattle.base_refusal.specs.declared.Refusal.{Refusal}
use Rattle.base_refusal.proofs.Numbers.{refused-number}
use Rattle.std.specs.Prelude.{Ok, Err}
use Rattle.collector_burst.specs.Records.{reception_of, replied_of, columns_after_all, Bursts}
use Rattle.collector_burst.specs.Private.{after_tested, columns_tested, replies, Delivered}

-- ---- records one by one

after_steps : (fit : Bool) (v : View) (rs : List Reception) → Tested fit v
    → Timely (map reception_of rs) → after_tested fit v rs ≡ after_all v (map reception_of rs)
unfolding after_tested after_all
after_steps fit v [] k t = refl
after_steps fit v (r ∷ rs) k t =
    ap (λ (o : StepOutcome). after_tested fit o.next rs) (admission-fit v (reception_of r) fit k.said)
    ∙ after_steps fit (step v (reception_of r)).next rs (tested_next fit (reception_of r) k t.0) t.1

columns_steps : (fit : Bool) (v : View) (rs : List Reception) (a : Columns) → Tested fit v
    → Timely (map reception_of rs)
    → columns_tested fit v rs a ≡ columns_after_all v (map reception_of rs) a
unfolding columns_tested columns_after_all
columns_steps fit v [] a k t = refl
columns_steps fit v (r ∷ rs) a k t =
    ap₂ (λ (o : StepOutcome) (c : Columns). columns_tested fit o.next rs c)
    (admission-fit v (reception_of r) fit k.said) (columns-fit v (reception_of r) fit a k.said)
    ∙ columns_steps fit (step v (reception_of r)).next rs (columns_after v (reception_of r) a)
    (tested_next fit (reception_of r) k t.0) t.1

replies_steps : (setting : ℕ) (fit : Bool) (v : View) (rs : List Reception) → Tested fit v
    → Timely (map reception_of rs) → replies setting fit v rs ≡ replies_to setting v (map reception_of rs)
unfolding replies replies_to
replies_steps setting fit v [] k t = refl
replies_steps setting fit v (r ∷ rs) k t =
    ap (λ (o : StepOutcome). reply_with setting o.answer (reception_of r) ∷ replies setting fit o.next rs)
    (admission-fit v (reception_of r) fit k.said)
    ∙ ap (λ (l : List Replied). reply_with setting (step v (reception_of r)).answer (reception_of r) ∷ l)
    (replies_steps setting fit (step v (reception_of r)).next rs (tested_next fit (reception_of r) k t.0) t.1)

-- ---- the whole burst

drop-map : {A B : Type 0} (f : A → B) (n : ℕ) (l : List A) → map f (drop n l) ≡ drop n (map f l)
drop-map f zero l = refl
drop-map f (suc n) [] = refl
drop-map f (suc n) (x ∷ l) = drop-map f n l

module _ (c : Collector) (setting : ℕ) (rs : List Reception) (ys : List Reply) where
  abbrev v : View
  v = view_of c

  abbrev number : ℕ
  number = burst_number setting v (length rs) (length ys)

  abbrev given : List view.Reception
  given = map reception_of rs

  abbrev places : List Replied
  places = map replied_of ys

  same_number : burst_number setting v (length given) (length places) ≡ number
  same_number =
      ap (λ (n : ℕ). burst_number setting v n (length places)) (length-map rs reception_of)
      ∙ ap (burst_number setting v (length rs)) (length-map ys replied_of)

  -- the result of a burst with this number
  shown : ℕ → BurstResult
  shown number =
      let t = taken number given in
      record {
        number = number;
        replies = replies_to setting v t ++ drop (length t) places;
        next = after_all v t;
      }

  -- a refused burst stands for no reception
  pub refused : (why : Refusal) → number_of why ≡ number → Bursts c setting rs ys (Err why) ys
  unfolding after_all columns_after_all replies_to shown
  refused why e = record {
    result = none ∙ ap shown (e ∙ sym same_number);
    elements = rw (ne_eqb (number_of why) 0 (refused-number why));
    stays = λ _. refl;
  }
    where
      none : record { number = number_of why; replies = places; next = v } ≡ shown (number_of why)
      none = rw (ne_eqb (number_of why) 0 (refused-number why))

  pub whole : {a : Columns} {s : Summary} {zs : List Reply} → number ≡ 0 → Tested true v
      → Delivered setting true (columns_of c) c.summary rs ys a s zs → Bursts c setting rs ys (Ok (collector_of a s)) zs
  unfolding view_of shown
  whole {a} {s} {zs} z k d = record {
    result =
        ap₂ (λ (l : List Replied) (u : View). record { number = 0; replies = l; next = u }) replies_is
        (d.state ∙ after_steps true v rs k d.timely)
        ∙ ap shown (sym (same_number ∙ z));
    elements = d.elements ∙ columns_steps true v rs (columns_of c) k d.timely;
    stays = λ n. absurd (n refl);
  }
    where
      replies_is : map replied_of zs ≡ replies_to setting v given ++ drop (length given) places
      replies_is =
          d.replied
          ∙ ap (λ (l : List Replied). l ++ map replied_of (drop (length rs) ys))
          (replies_steps setting true v rs k d.timely)
          ∙ ap (λ (l : List Replied). replies_to setting v given ++ l)
          (drop-map replied_of (length rs) ys ∙ ap (λ (n : ℕ). drop n places) (sym (length-map rs reception_of)))
