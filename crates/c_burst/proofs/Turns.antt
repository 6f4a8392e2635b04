-- What holds at each turn of the loop over the records: what is left of them leads to the whole list's end.
--     receptions-count, reception-get     how many receptions there are, and each of them
--     Going                               i receptions are taken, and their replies written
--     starts, turns, ends                 it holds before the loop, from one turn to the next, and says the result after it
use mathlib.Core.Path.{◌≡◌, refl, sym, ap, ap₂, ◌∙◌}
use mathlib.Core.Bool.{true}
use mathlib.Core.List.{List, [], ◌∷◌, ◌++◌, map, flatten, append_assoc, append-nil}
use Prim.Native.Nat.{ℕ, suc, ◌+◌, ◌-◌, ◌*◌, ◌^◌, ◌≤◌, ◌<◌, zero-le}
use native.Mathlib.Nat.{zero-add}
use native.Mathlib.Numerals.{add-one}
use native.Mathlib.Omega.{arith}
use lib.ListN.{length, get_or, take, drop, length-map, drop_of_length-le}
use lib.Seq.{drop-cons}
use Rattle.base_lists.specs.Lists.{up_from}
use Rattle.base_lists.proofs.UpFrom.{length-up_from, get_d_up_from}
use Rattle.base_buffers.specs.Buffer.{part}
use Rattle.base_buffers.proofs.Segments.{Begun, begin, lend}
use Rattle.collector_model.specs.View.{Reception, View}
use Rattle.collector_model.specs.Step.{step}
use Rattle.collector_model.specs.Burst.{Replied, reply_with, after_all, replies_to}
use Rattle.collector_state.specs.Collector.{Columns}
use Rattle.collector_state.specs.Admission.{Tested}
use Rattle.collector_state.proofs.Stepping.{tested_next}
use Rattle.collector_burst.specs.Records.{columns_after_all}
use Rattle.c_layout.specs.Frame.{frame_length}
use Rattle.c_burst.specs.Bytes.{reception_in, receptions_in, reply_length, reply_bytes}
use Rattle.c_burst.specs.Private.{Answered, Delivered}

-- what `get_or` gives past the end of a list; no proof looks at it
pub no_reception : Reception
no_reception = record { bytes = []; time = 0 }

module _ (moments records : List ℕ) where
  abbrev at : ℕ → Reception
  at i = reception_in (part (frame_length * i) frame_length records) (get_or moments i 0)

  pub receptions-count : length (receptions_in moments records) ≡ length moments
  unfolding receptions_in
  receptions-count = length-map (up_from 0 (length moments)) at ∙ length-up_from 0 (length moments)

  pub reception_get : (i : ℕ) → i < length moments → get_or (receptions_in moments records) i no_reception ≡ at i
  unfolding receptions_in
  reception_get i h = get_d_up_from at 0 (length moments) i no_reception h ∙ ap at (zero-add i)

-- the bytes of replies, one after the other
abbrev pub bytes_of : List Replied → List ℕ
bytes_of l = flatten (map reply_bytes l)

module _ (setting : ℕ) (v : View) (a₀ : Columns) (rs : List Reception) (old : List ℕ) where
  pub record Going (i : ℕ) (here : View) (a : Columns) (out : List ℕ) : Type 0 where
    pub within : i ≤ length rs
    pub tested : Tested true here
    pub state : after_all here (drop i rs) ≡ after_all v rs
    pub elements : columns_after_all here (drop i rs) a ≡ columns_after_all v rs a₀
    pub front : List ℕ
    pub written : Begun old front (reply_length * i) out
    pub replied : front ++ bytes_of (replies_to setting here (drop i rs)) ≡ bytes_of (replies_to setting v rs)

  pub starts : Tested true v → Going 0 v a₀ old
  starts t =
      record {
        within = zero-le;
        tested = t;
        state = refl;
        elements = refl;
        front = [];
        written = begin old;
        replied = refl;
      }

  module _ {i : ℕ} {here : View} {a : Columns} {out : List ℕ} (g : Going i here a out) where
    module _ (h : i < length rs) (r : Reception) (e : get_or rs i no_reception ≡ r) where
      -- what is left of the receptions begins with the next one
      left : drop i rs ≡ r ∷ drop (i + 1) rs
      left = rw (add-one i) (drop-cons rs i no_reception h ∙ ap (λ (x : Reception). x ∷ drop (suc i) rs) e)

      pub turns : r.time < 2 ^ 64 → reply_length * length rs ≤ length old
          → (ys : List ℕ) (next : View) (a' : Columns) → Answered setting here a r ys next a'
          → length ys ≡ length (part (reply_length * i) (reply_length * i + reply_length - reply_length * i) out)
          → Going (i + 1) next a'
          (take (reply_length * i) out
          ++ (ys ++ drop (reply_length * i + reply_length - reply_length * i) (drop (reply_length * i) out)))
      unfolding after_all columns_after_all replies_to flatten
      turns small room ys next a' k same = record {
        within = omega arith;
        tested = rw k.stepped (tested_next true r g.tested small);
        elements =
            ap₂ (λ (u : View) (c : Columns). columns_after_all u (drop (i + 1) rs) c) k.stepped k.elements
            ∙ ap (λ (l : List Reception). columns_after_all here l a) (sym left) ∙ g.elements;
        state = ap (λ (u : View). after_all u (drop (i + 1) rs)) k.stepped ∙ ap (after_all here) (sym left) ∙ g.state;
        front = g.front ++ ys;
        written =
            rw more (lend g.written ys ys (reply_length * i + reply_length) refl same (omega arith) (omega arith));
        replied =
            append_assoc g.front ys (bytes_of (replies_to setting next (drop (i + 1) rs)))
            ∙ ap (λ (l : List ℕ). g.front ++ l) one
            ∙ ap (λ (l : List Reception). g.front ++ bytes_of (replies_to setting here l)) (sym left)
            ∙ g.replied;
      }
        where
          more : reply_length * (i + 1) ≡ reply_length * i + reply_length
          more = omega arith

          one : ys ++ bytes_of (replies_to setting next (drop (i + 1) rs))
              ≡ bytes_of (replies_to setting here (r ∷ drop (i + 1) rs))
          one =
              ap (λ (l : List ℕ). l ++ bytes_of (replies_to setting next (drop (i + 1) rs))) k.replied
              ∙ ap (λ (u : View). reply_bytes (reply_with setting (step here r).answer r)
              ++ bytes_of (replies_to setting u (drop (i + 1) rs)))
              k.stepped

    pub ends : length rs ≤ i → Delivered setting v a₀ rs old out here a
    unfolding after_all columns_after_all replies_to flatten
    ends h =
        let all : i ≡ length rs = omega (arith, g.within) in
        let none : drop i rs ≡ [] = drop_of_length-le rs h in
        record {
          replied =
              g.written.is
              ∙ ap (λ (l : List ℕ). l ++ drop (reply_length * i) old)
              (sym (append-nil g.front)
              ∙ ap (λ (l : List Reception). g.front ++ bytes_of (replies_to setting here l)) (sym none)
              ∙ g.replied)
              ∙ ap (λ (n : ℕ). bytes_of (replies_to setting v rs) ++ drop (reply_length * n) old) all;
          stepped = ap (after_all here) (sym none) ∙ g.state;
          elements = ap (λ (l : List Reception). columns_after_all here l a) (sym none) ∙ g.elements;
        }
