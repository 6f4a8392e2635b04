-- The cases of `admission_of` and `build_of`, and the lengths of a telegram that can be built.
use Rattle.std.specs.Prelude.{Option, Some, None, Err, IfSome, is_some, unwrap_or}
use mathlib.Core.Path.{◌≡◌, refl, ◌∙◌}
use mathlib.Core.Bool.{Bool, true, false, cond, ◌||◌}
use mathlib.Core.List.{List, []}
use Prim.Native.Nat.{ℕ, ◌+◌, ◌≤◌, ◌<◌}
use native.Mathlib.Omega.{arith}
use lib.Dec.{ltb, eqb}
use lib.ListN.{length, length-append, length-take}
use borrow.Author.Tests.{lt-ltb, le-ltb, eq-eqb, ne_eqb, ltb-false, eqb-false}
use Rattle.base_lists.proofs.Choice.{cond_no, neither}
use Rattle.base_refusal.specs.Number.{number_of}
use Rattle.base_refusal.specs.declared.Refusal.{Refusal}
use Rattle.base_refusal.specs.declared.Refusal.TheVariants.{Argument, TooLong}
use Rattle.base_refusal.proofs.Numbers.{refused-number}
use Rattle.radio_erp1.specs.Subtelegram.{addressed, max_length}
use Rattle.radio_telegram.proofs.Frames.{unrefused}
use Rattle.radio_telegram.specs.declared.fields.Telegram.{Telegram}
use Rattle.radio_telegram.specs.Output.{result_of, put_of}
use Rattle.radio_telegram.specs.Fields.{max_data, data_of, before_data, ids_of, telegram_bytes, is_unbuildable, build_of, admission_of, Buildable, Shaped}

-- ---- the lengths of what is built

address_length : (o : Option (List ℕ)) → IfSome o (λ d. length d ≡ 4) → length (unwrap_or o []) ≡ cond (is_some o) 4 0
address_length None h = refl
address_length (Some d) h = h

module _ (t : Telegram) (shape : Shaped t) (high : t.len ≤ max_data) where
  pub data_length : length (data_of t) ≡ t.len
  data_length = length-take t.len t.payload ∙ omega (arith, shape.payload)

  pub ids_addressed : is_some t.destid ≡ true → length (ids_of t) ≡ 8
  ids_addressed e = let d = rw e at (address_length t.destid shape.destid) in
      rw length-append (omega (arith, d, shape.txid))

  pub ids_plain : is_some t.destid ≡ false → length (ids_of t) ≡ 4
  ids_plain e = let d = rw e at (address_length t.destid shape.destid) in
      rw length-append (omega (arith, d, shape.txid))

  pub bytes-addressed : is_some t.destid ≡ true → length (telegram_bytes t) ≡ t.len + 12
  unfolding telegram_bytes
  bytes-addressed e = let ids = ids_addressed e in
      rw e (simp (length-append, data_length) (omega (arith, ids, length-append {A = ℕ})))

  pub bytes-plain : is_some t.destid ≡ false → length (telegram_bytes t) ≡ t.len + 7
  unfolding telegram_bytes
  bytes-plain e = let ids = ids_plain e in
      rw e (simp (length-append, data_length) (omega (arith, ids, length-append {A = ℕ})))

  -- the parts of what is built
  pub bytes-length : length (telegram_bytes t) ≡ length (before_data t) + t.len + length (ids_of t) + 2
  unfolding telegram_bytes
  bytes-length = simp (length-append, data_length) (omega arith)

-- ---- the cases of `admission_of`

module _ (t : Telegram) where
  pub no_data : t.len < 1 → number_of Argument ≡ admission_of t
  unfolding admission_of is_unbuildable
  no_data h = simp (lt-ltb _ _ h)

  module _ (low : 1 ≤ t.len) where
    pub much_data : max_data < t.len → number_of Argument ≡ admission_of t
    unfolding admission_of is_unbuildable
    much_data h = simp (le-ltb _ _ low, lt-ltb _ _ h)

    module _ (high : t.len ≤ max_data) where
      pub outer_rorg : t.rorg ≡ addressed → number_of Argument ≡ admission_of t
      unfolding admission_of is_unbuildable
      outer_rorg h = simp (le-ltb _ _ low, le-ltb _ _ high, eq-eqb _ _ h)

      module _ (inner : t.rorg ≡ addressed → ⊥) where
        pub too_long : max_length < length (telegram_bytes t) → number_of TooLong ≡ admission_of t
        unfolding admission_of is_unbuildable
        too_long h = simp (le-ltb _ _ low, le-ltb _ _ high, ne_eqb _ _ inner, lt-ltb _ _ h)

        pub admitted : length (telegram_bytes t) ≤ max_length → 0 ≡ admission_of t
        unfolding admission_of is_unbuildable
        admitted h = simp (le-ltb _ _ low, le-ltb _ _ high, ne_eqb _ _ inner, le-ltb _ _ h)

  -- and back
  pub buildable_fields : is_unbuildable t ≡ false → length (telegram_bytes t) ≤ max_length → Buildable t
  unfolding is_unbuildable
  buildable_fields e h =
      let first = neither (ltb t.len 1 || ltb max_data t.len) (eqb t.rorg addressed) e in
      let long = neither (ltb t.len 1) (ltb max_data t.len) first.0 in
      record {
        low = ltb-false _ _ long.0;
        high = ltb-false _ _ long.1;
        inner = eqb-false _ _ first.1;
        fits = h;
      }

  pub buildable : admission_of t ≡ 0 → Buildable t
  unfolding admission_of
  buildable e =
      let p = cond_no _ (refused-number Argument) e in
      buildable_fields p.0 (ltb-false _ _ (cond_no _ (refused-number TooLong) p.1).0)

-- ---- the cases of `build_of`

module _ (t : Telegram) (out : List ℕ) where
  pub build_refused : (why : Refusal) → number_of why ≡ admission_of t → result_of (Err why) out ≡ build_of t out
  unfolding admission_of build_of put_of
  build_refused why e = go (is_unbuildable t) (ltb max_length (length (telegram_bytes t))) refl refl
    where
      go : (a b : Bool) → is_unbuildable t ≡ a → ltb max_length (length (telegram_bytes t)) ≡ b
          → result_of (Err why) out ≡ build_of t out
      go true b p q = let n : number_of why ≡ number_of Argument = rw p at e in rw (p, n)
      go false true p q = let n : number_of why ≡ number_of TooLong = rw (p, q) at e in rw (p, q, n)
      go false false p q = let n : number_of why ≡ 0 = rw (p, q) at e in absurd (refused-number why n)

  pub build_facts : (build_of t out).number ≡ 0
      → (is_unbuildable t ≡ false) × ((put_of (telegram_bytes t) out).number ≡ 0)
  unfolding build_of
  build_facts e = unrefused (is_unbuildable t) _ out (put_of (telegram_bytes t) out) (refused-number Argument) e

  pub build_fields : is_unbuildable t ≡ false → build_of t out ≡ put_of (telegram_bytes t) out
  unfolding build_of
  build_fields e = rw e

  pub build_put : admission_of t ≡ 0 → put_of (telegram_bytes t) out ≡ build_of t out
  unfolding admission_of build_of
  build_put e = rw (cond_no (is_unbuildable t) (refused-number Argument) e).0
