-- A burst by its answers: a wrong size, a refusal, and the receptions taken.
use Prim.Native.Nat.{ℕ, ◌*◌, ◌/◌}
use native.Mathlib.Omega.{arith}
use mathlib.Core.Path.{◌≡◌, refl, sym, ap, ap₂, subst, ◌∙◌}
use mathlib.Core.Bool.{Bool, true, false, not, ◌&&◌}
use mathlib.Core.List.{List, ◌++◌, map, flatten}
use lib.ListN.{length, take, drop, replicate, length-replicate}
use lib.Seq.{take_at}
use borrow.Author.Tests.{ne_eqb}
use Rattle.base_refusal.specs.Number.{number_of}
use Rattle.base_refusal.specs.declared.Refusal.TheVariants.{NotAccepted}
use Rattle.base_refusal.proofs.Numbers.{refused-number}
use Rattle.collector_model.specs.View.{Reception, View}
use Rattle.collector_model.specs.Acceptable.{acceptable}
use Rattle.collector_model.proofs.Returns.{replies_to-length}
use Rattle.collector_model.specs.Burst.{Replied, after_all, replies_to, call_number, burst_number, taken}
use Rattle.collector_state.specs.declared.Summary.{Summary}
use Rattle.collector_state.specs.Collector.{Columns, view_in}
use Rattle.collector_burst.specs.Records.{columns_after_all}
use Rattle.c_layout.specs.Frame.{wrong_size}
use Rattle.c_collector.specs.State.{Arrays, arrays, columns_at, state_at, summary_in, numbers_of, summary_numbers}
use Rattle.c_collector.proofs.State.{numbers-counted}
use Rattle.c_burst.specs.Bytes.{receptions_in, reply_length, reply_bytes, is_sized}
use Rattle.c_burst.specs.Calls.{BurstCall, any_place, replies_with, burst_call, Bursts}
use Rattle.c_burst.specs.Private.{Delivered}
use Rattle.c_burst.proofs.Turns.{receptions-count}

module _ (s : Arrays) (setting : ℕ) (moments records old : List ℕ) where
  abbrev v : View
  v = state_at s

  abbrev rs : List Reception
  rs = receptions_in moments records

  abbrev room : ℕ
  room = length old / reply_length

  abbrev Gives : ℕ → Arrays → List ℕ → Type 0
  Gives number s' new = Bursts s setting moments records old number s' new

  abbrev sized : Bool
  sized = is_sized (length moments) (length records)

  pub wrong_size_lem : acceptable v ≡ true → sized ≡ false → Gives wrong_size s old
  unfolding burst_call columns_after_all
  wrong_size_lem ok bad =
      record { result = rw (ok, bad); counted = λ e. absurd (wrong e); elements = refl; stays = λ _. refl }
    where
      wrong : wrong_size ≡ 0 → ⊥
      wrong e = absurd (omega arith)

  -- what a burst with this number shows
  shown : ℕ → BurstCall
  shown number =
      let t = taken number rs in
      record {
        number = number;
        replies = replies_with (length t) (replies_to setting v t ++ drop (length t) (replicate room any_place)) old;
        next = after_all v t;
      }

  -- no test of sizes refuses it
  module _ (fair : acceptable v && not sized ≡ false) where
    call_is : shown (burst_number setting v (length moments) room) ≡ burst_call setting v moments records old
    unfolding burst_call shown
    call_is =
        rw fair
        (ap₂ (λ (n m : ℕ). shown (burst_number setting v n m))
        (sym (receptions-count moments records)) (sym (length-replicate room any_place)))

    -- nothing is taken beside a refusal
    refused : (n : ℕ) → n ≡ burst_number setting v (length moments) room → (n ≡ 0 → ⊥) → Gives n s old
    unfolding after_all columns_after_all replies_to flatten shown
    refused n e other = record {
      result = none ∙ ap shown e ∙ call_is;
      counted = λ z. absurd (other z);
      elements = rw (ne_eqb n 0 other);
      stays = λ _. refl;
    }
      where
        none : record { number = n; replies = old; next = v } ≡ shown n
        none = rw (ne_eqb n 0 other)

  pub refused-state : acceptable v ≡ false → (n : ℕ) → n ≡ number_of NotAccepted → Gives n s old
  unfolding burst_number
  refused-state bad n e = refused (rw bad) n (rw bad e) (λ z. refused-number NotAccepted (sym e ∙ z))

  module _ (ok : acceptable v ≡ true) (right : sized ≡ true) where
    fair_call : acceptable v && not sized ≡ false
    fair_call = rw (ok, right)

    same_number : call_number setting (length moments) room ≡ burst_number setting v (length moments) room
    unfolding burst_number
    same_number = rw ok

    pub refused-call : (n : ℕ) → n ≡ call_number setting (length moments) room → (n ≡ 0 → ⊥) → Gives n s old
    refused-call n e = refused fair_call n (e ∙ same_number)

    pub all_taken : call_number setting (length moments) room ≡ 0 → (read : Summary)
        → read ≡ summary_in s.numbers → (a : Columns) (next : Summary) (new : List ℕ)
        → Delivered setting (view_in (columns_at s) read) (columns_at s) rs old new (view_in a next) a
        → (numbers : List ℕ) → numbers ≡ summary_numbers next
        → Gives 0 (arrays a.times a.lens a.bytes a.copies numbers) new
    unfolding shown
    all_taken z read same a next new delivered numbers stored = record {
      result = whole;
      counted = λ _. stored ∙ numbers-counted a next ∙ ap numbers_of (d.stepped ∙ ap (λ (b : BurstCall). b.next) done);
      elements = d.elements;
      stays = λ n. absurd (n refl);
    }
      where
        d : Delivered setting v (columns_at s) rs old new (view_in a next) a
        d =
            subst (λ (x : Summary). Delivered setting (view_in (columns_at s) x)
            (columns_at s) rs old new (view_in a next) a)
            same delivered

        done : shown 0 ≡ burst_call setting v moments records old
        done = ap shown (sym (sym same_number ∙ z)) ∙ call_is fair_call

        fronts : take (length rs) (replies_to setting v rs ++ drop (length rs) (replicate room any_place))
            ≡ replies_to setting v rs
        fronts =
            take_at (replies_to setting v rs) (drop (length rs) (replicate room any_place))
            (length rs) (replies_to-length setting v rs)

        whole : record { number = 0; replies = new; next = view_in a (summary_in numbers) }
            ≡ burst_call setting v moments records old
        whole =
            ap (λ (l : List ℕ). record { number = 0; replies = new; next = view_in a (summary_in l) }) stored
            ∙ ap₂ (λ (l : List ℕ) (u : View). record { number = 0; replies = l; next = u }) d.replied d.stepped
            ∙ ap (λ (l : List Replied).
            record {
              number = 0;
              replies = flatten (map reply_bytes l) ++ drop (reply_length * length rs) old;
              next = after_all v rs;
            })
            (sym fronts)
            ∙ done
