-- Restores of five arrays by their cases. An image is accepted alike whatever acceptable state it is restored to, also a fresh one.
--     refused-state, refused-image, restored     what each return has to show
use Prim.Native.Nat.{ℕ}
use Rattle.std.specs.Prelude.{Result, Ok, Err}
use mathlib.Core.Path.{◌≡◌, refl, sym, ap, ◌∙◌}
use mathlib.Core.Bool.{true, false}
use mathlib.Core.List.{List}
use Rattle.base_lists.proofs.Tests.{by_test}
use Rattle.base_refusal.specs.Number.{number_of}
use Rattle.base_refusal.specs.declared.Refusal.{Refusal}
use Rattle.base_refusal.specs.declared.Refusal.TheVariants.{NotAccepted}
use Rattle.base_refusal.proofs.Numbers.{refused-number}
use Rattle.collector_model.specs.View.{View, fresh}
use Rattle.collector_model.specs.Acceptable.{acceptable}
use Rattle.collector_model.specs.Image.{RestoreResult, parse, accepts, restore_of}
use Rattle.collector_model.proofs.Invariant.{good_fresh, good_acceptable}
use Rattle.collector_model.proofs.Returns.{restore_unacceptable}
use Rattle.collector_state.specs.declared.Collector.{Collector}
use Rattle.collector_state.specs.Collector.{columns_of, view_of, next_number, next_in}
use Rattle.collector_checkpoint.specs.Checkpoint as image
use Rattle.c_collector.specs.State.{Arrays, columns_at, state_at, numbers_of, arrays_of}
use Rattle.c_collector.proofs.State.{numbers-counted}
use Rattle.c_checkpoint.specs.Calls.{Restores, restore_result}

-- an acceptable state, and an image that is accepted or not
module _ (v : View) (ok : acceptable v ≡ true) (image : List ℕ) where
  held : accepts image ≡ true → restore_of v image ≡ record { number = 0; next = parse image }
  unfolding restore_of
  held e = rw (ok, e)

  kept : accepts image ≡ false → record { number = number_of NotAccepted; next = v } ≡ restore_of v image
  unfolding restore_of
  kept e = rw (ok, e)

module _ (s : Arrays) (bytes : List ℕ) where
  -- beside a refusal all stays
  refused : record { number = number_of NotAccepted; next = state_at s } ≡ restore_of (state_at s) bytes
      → (n : ℕ) → n ≡ number_of NotAccepted → Restores s bytes n s
  refused same n e = record {
    result = ap (λ (k : ℕ). restore_result k s) e ∙ same;
    counted = λ z. absurd (refused-number NotAccepted (sym e ∙ z));
    elements = λ z. absurd (refused-number NotAccepted (sym e ∙ z));
    stays = λ _. refl;
  }

  pub refused-state : acceptable (state_at s) ≡ false → (n : ℕ) → n ≡ number_of NotAccepted → Restores s bytes n s
  refused-state bad = refused (restore_unacceptable (state_at s) bad bytes)

  -- the image is restored to a fresh collector
  module _ (ok : acceptable (state_at s) ≡ true) (c : Collector)
      (new : view_of c ≡ fresh) (r : Result Collector Refusal) (done : image.Restores c bytes r) where
    result : image.restore_result c r ≡ restore_of fresh bytes
    result = done.result ∙ ap (λ (v : View). restore_of v bytes) new

    accepted : next_number r ≡ 0 → accepts bytes ≡ true
    accepted z = by_test (accepts bytes) (λ e. e)
        (λ e.
        absurd (refused-number NotAccepted
        (ap (λ (x : RestoreResult). x.number) (kept fresh (good_acceptable good_fresh) bytes e ∙ sym result)
        ∙ z)))

    not-accepted : (why : Refusal) → r ≡ Err why → accepts bytes ≡ false
    not-accepted why e = by_test (accepts bytes)
        (λ t.
        absurd (refused-number why
        (ap next_number (sym e)
        ∙ ap (λ (x : RestoreResult). x.number) (result ∙ held fresh (good_acceptable good_fresh) bytes t))))
        (λ t. t)

    pub refused-image : (why : Refusal) → r ≡ Err why → (n : ℕ) → n ≡ number_of NotAccepted → Restores s bytes n s
    refused-image why e = refused (kept (state_at s) ok bytes (not-accepted why e))

    pub restored : (next : Collector) → r ≡ Ok next → (s' : Arrays) → s' ≡ arrays_of next → Restores s bytes 0 s'
    unfolding view_of
    restored next e s' put = record {
      result =
          ap (restore_result 0) put ∙ ap (λ (v : View). record { number = 0; next = v }) parsed
          ∙ sym (held (state_at s) ok bytes yes);
      counted = λ _. ap (λ (x : Arrays). x.numbers) put ∙ numbers-counted (columns_of next) _ ∙ ap numbers_of parsed;
      elements = λ _.
          ap columns_at put ∙ ap (λ (x : Result Collector Refusal). columns_of (next_in c x)) (sym e)
          ∙ done.elements (ap next_number e);
      stays = λ n. absurd (n refl);
    }
      where
        yes : accepts bytes ≡ true
        yes = accepted (ap next_number e)

        parsed : view_of next ≡ parse bytes
        parsed =
            ap (λ (x : Result Collector Refusal). view_of (next_in c x)) (sym e)
            ∙ ap (λ (x : RestoreResult). x.next) (result ∙ held fresh (good_acceptable good_fresh) bytes yes)
