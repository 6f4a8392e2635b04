-- The cases of `start_result`, and what is known of a state that is accepted.
use Prim.Native.Nat.{ℕ, ◌+◌, ◌≤◌, ◌<◌}
use native.Mathlib.Omega.{arith}
use mathlib.Core.Path.{◌≡◌, sym, ap, ◌∙◌}
use mathlib.Core.Bool.{Bool, true, false, not, ◌||◌}
use mathlib.Core.List.{List}
use lib.Dec.{eqb, ltb}
use lib.ListN.{length}
use borrow.Author.Tests.{not-true, eqb-true, eqb-false, eq-eqb, ne_eqb, lt-ltb, le-ltb}
use Rattle.base_lists.proofs.Choice.{both}
use Rattle.base_lists.proofs.Tests.{by_test}
use Rattle.base_refusal.specs.Number.{number_of}
use Rattle.base_refusal.specs.declared.Refusal.TheVariants.{Argument, NotAccepted, Size}
use Rattle.collector_model.specs.Image.{accepts}
use Rattle.archive_model.specs.Buffer.{max_blocks}
use Rattle.journal_model.specs.Disk.{counted, whole_blocks}
use Rattle.journal_state.specs.State.{Kept, began, had, name_length, state_length, old_length, read_state}
use Rattle.journal_state.specs.Lawful.{image_rows, is_lawful_state, accepts_state}
use Rattle.journal_state.specs.Calls.{Accepted, accept_of}
use Rattle.journal_state.specs.Claims.{state_of, IsModelled}
use Rattle.journal_state.specs.Private.{Sized}
use Rattle.journal_state.proofs.Files.{lengths, sized, accept_size, accept_not, accept_done}
use Rattle.journal_state.proofs.Claims.{state-written}
use Rattle.journal_state.proofs.Modelled.{state_modelled}
use Rattle.journal_recovery.specs.Start.{Start, is_one_file, accept_number, settled_of, start_result}
use Rattle.journal_recovery.specs.Private.{IsCounted}

module _ (bytes : List ℕ) where
  abbrev is_long : Bool
  is_long = eqb (length bytes) state_length || eqb (length bytes) old_length

  -- what is known of a state that is accepted
  pub record IsState (next : Kept) : Type 0 where
    pub is : next ≡ read_state bytes
    pub law : is_lawful_state (read_state bytes) ≡ true
    pub size : Sized (read_state bytes)

  pub record Accepts (r : Accepted) : Type 0 where
    pub number : r.number ≡ accept_number bytes
    pub state : r.number ≡ 0 → IsState r.next

  module _ (k : Kept) (r : Accepted) (e : r ≡ accept_of k bytes) where
    short : is_long ≡ false → Accepts r
    short f =
        let n : r.number ≡ number_of Size = ap (λ (a : Accepted). a.number) (e ∙ sym (accept_size bytes k f)) in
        record {
          number = n ∙ ap (λ (a : Accepted). a.number) (accept_size bytes (read_state bytes) f);
          state = λ z. absurd (omega (arith, n, z));
        }

    module _ (long : is_long ≡ true) where
      refused : accepts_state bytes ≡ false → Accepts r
      refused f =
          let n : r.number ≡ number_of NotAccepted = ap (λ (a : Accepted). a.number)
          (e ∙ sym (accept_not bytes k long f)) in
          record {
            number = n ∙ ap (λ (a : Accepted). a.number) (accept_not bytes (read_state bytes) long f);
            state = λ z. absurd (omega (arith, n, z));
          }

      taken : accepts_state bytes ≡ true → Accepts r
      taken t =
          let is = e ∙ sym (accept_done bytes k long t) in
          record {
            number = ap (λ (a : Accepted). a.number) (is ∙ accept_done bytes (read_state bytes) long t);
            state = λ z. record {
              is = ap (λ (a : Accepted). a.next) is;
              law = (state-written bytes t).0;
              size = sized bytes (lengths (length bytes) long).0;
            };
          }

    pub accepts_as : Accepts r
    accepts_as = by_test {X = Accepts r} is_long
        (λ long. by_test {X = Accepts r} (accepts_state bytes) (taken long) (refused long)) short

  -- ---- the rows that it counts

  module _ (law : is_lawful_state (read_state bytes) ≡ true) (size : Sized (read_state bytes))
      (one : is_one_file (read_state bytes) ≡ true) where
    modelled : IsModelled (read_state bytes)
    modelled =
        let k = read_state bytes in
        let t = both (not (eqb (name_length k) 0)) _ one in
        let named : name_length k ≡ 0 → ⊥ = eqb-false (name_length k) 0 (not-true _ t.0) in
        state_modelled k size.last law named (eqb-true (began k) 0 t.1)

    pub rows_are : counted (state_of (read_state bytes)) ≡ had (read_state bytes) + image_rows (read_state bytes).image
    rows_are = modelled.rows

    pub is_counted : IsCounted (read_state bytes).numbers (read_state bytes).image
    unfolding is_lawful_state
    is_counted = record {
      accepted = (both (accepts (read_state bytes).image) _ law).0;
      few = omega (arith, modelled.rows, modelled.room);
    }

  -- ---- the answers

  module _ (file : List ℕ) (left : ℕ) where
    abbrev beside : ℕ → Start
    beside n = record { number = n; archive = file; left = left }

    pub start_large : max_blocks < whole_blocks file → beside (number_of Size) ≡ start_result bytes file left
    unfolding start_result
    start_large h = rw (lt-ltb max_blocks (whole_blocks file) h)

    module _ (few : whole_blocks file ≤ max_blocks) where
      fits : ltb max_blocks (whole_blocks file) ≡ false
      fits = le-ltb max_blocks (whole_blocks file) few

      pub start_refused : (accept_number bytes ≡ 0 → ⊥) → beside (accept_number bytes) ≡ start_result bytes file left
      unfolding start_result
      start_refused h = rw (fits, ne_eqb (accept_number bytes) 0 h)

      module _ (accepted : accept_number bytes ≡ 0) where
        pub start_other : is_one_file (read_state bytes) ≡ false
            → beside (number_of Argument) ≡ start_result bytes file left
        unfolding start_result
        start_other h = rw (fits, eq-eqb (accept_number bytes) 0 accepted, h)

        pub start_settled : is_one_file (read_state bytes) ≡ true
            → settled_of (state_of (read_state bytes)) file left ≡ start_result bytes file left
        unfolding start_result
        start_settled h = rw (fits, eq-eqb (accept_number bytes) 0 accepted, h)
