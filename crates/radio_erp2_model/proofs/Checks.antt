-- The answers of the check, one for each of its tests in their order: what was tested before passed, and what comes after
-- may be either. `l` is the length byte, `c` the CRC, `h` the header and `n` the size of the fields, as a caller has them.
use mathlib.Core.Path.{◌≡◌, sym, ◌∙◌}
use mathlib.Core.Bool.{true, false, or-true}
use mathlib.Core.List.{List}
use Prim.Native.Nat.{ℕ, ◌+◌, ◌-◌, ◌%◌, ◌≤◌, ◌<◌}
use native.Mathlib.Omega.{arith}
use lib.ListN.{length, get_or, get_or-eq_default}
use borrow.Author.Tests.{eq-eqb, ne_eqb, le-leb, lt-leb, lt-ltb, le-ltb}
use Rattle.base_refusal.specs.Number.{number_of}
use Rattle.base_refusal.specs.declared.Refusal.TheVariants.{Length, Crc, ReservedAddress, Misfit}
use Rattle.base_crc8.specs.Crc8.{crc_of}
use Rattle.base_buffers.specs.Buffer.{part}
use Rattle.radio_erp2_model.specs.declared.Header.{Header}
use Rattle.radio_erp2_model.specs.Header.{is_reserved}
use Rattle.radio_erp2_model.specs.Sizes.{long_sizes, overhead}
use Rattle.radio_erp2_model.specs.Reading.{length_byte, is_length_wrong, has_short_length, is_intact, header_in, check_of}

module _ (s : List ℕ) where
  pub check-empty : length s ≡ 0 → number_of Length ≡ check_of s
  unfolding check_of
  check-empty e = simp (eq-eqb (length_byte s) 0 (get_or-eq_default s 0 (omega arith)))

  module _ (l : ℕ) (is : l ≡ length_byte s) where
    pub check-zero : l ≡ 0 → number_of Length ≡ check_of s
    unfolding check_of
    check-zero e = simp (eq-eqb (length_byte s) 0 (sym is ∙ e))

    pub check-mismatch : (length s ≡ 1 + l → ⊥) → number_of Length ≡ check_of s
    unfolding check_of
    check-mismatch n = simp (ne_eqb (length s) (1 + length_byte s) (rw is at n), or-true)

    module _ (some : l ≡ 0 → ⊥) (long : length s ≡ 1 + l) where
      -- the length is right
      right : is_length_wrong s ≡ false
      right =
          simp (
            ne_eqb (length_byte s) 0 (rw is at some),
            eq-eqb (length s) (1 + length_byte s) (rw is at long),
          )

      pub check-short : l ≤ 6 → 0 ≡ check_of s
      unfolding check_of
      check-short h = rw (right, le-leb (length_byte s) 6 (rw is at h))

      module _ (high : 6 < l) (c : ℕ) (crc : c ≡ crc_of (part 1 (l - 1) s)) where
        -- a long form
        form : has_short_length s ≡ false
        form = lt-leb (length_byte s) 6 (rw is at high)

        pub check-crc : (get_or s l 0 ≡ c → ⊥) → number_of Crc ≡ check_of s
        unfolding check_of
        check-crc n =
            rw (
              right,
              form,
              ne_eqb (get_or s (length_byte s) 0) (crc_of (part 1 (length_byte s - 1) s)) (rw (crc, is) at n),
            )

        module _ (same : get_or s l 0 ≡ c) (h : Header) (header : h ≡ header_in s) where
          intact : is_intact s ≡ true
          intact =
              eq-eqb (get_or s (length_byte s) 0) (crc_of (part 1 (length_byte s - 1) s)) (rw (crc, is) at same)

          pub check-reserved : 4 ≤ h.control → number_of ReservedAddress ≡ check_of s
          unfolding check_of
          check-reserved r = rw (right, form, intact, le-leb 4 (header_in s).control (rw header at r))

          module _ (low : h.control < 4) (n : ℕ) (size : n ≡ overhead (long_sizes h (get_or s 2 0 % 16))) where
            open-address : is_reserved (header_in s) ≡ false
            open-address = lt-leb 4 (header_in s).control (rw header at low)

            sized : n ≡ overhead (long_sizes (header_in s) (get_or s 2 0 % 16))
            sized = rw header at size

            pub check_misfit : l < n → number_of Misfit ≡ check_of s
            unfolding check_of
            check_misfit m =
                rw (right, form, intact, open-address, lt-ltb (length_byte s) _ (rw (sized, is) at m))

            pub check-long : n ≤ l → 0 ≡ check_of s
            unfolding check_of
            check-long m =
                rw (right, form, intact, open-address, le-ltb (length_byte s) _ (rw (sized, is) at m))
