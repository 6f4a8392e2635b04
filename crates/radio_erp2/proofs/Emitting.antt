-- What building answers: refused before the output is looked at, for lack of room, or written.
use mathlib.Core.Path.{◌≡◌, refl, sym, ap, ◌∙◌}
use mathlib.Core.Bool.{Bool, true, false, cond, not, ◌&&◌, ◌||◌}
use mathlib.Core.List.{List, ◌∷◌, ◌++◌}
use Prim.Native.Nat.{ℕ, ◌+◌, ◌≤◌, ◌<◌}
use native.Mathlib.Omega.{arith}
use lib.Dec.{ltb}
use lib.ListN.{length, drop}
use borrow.Author.Tests.{lt-ltb, le-ltb}
use Rattle.base_refusal.specs.Number.{number_of}
use Rattle.base_refusal.specs.declared.Refusal.{Refusal}
use Rattle.base_refusal.specs.declared.Refusal.TheVariants.{Argument, ReservedAddress, Misfit, ShortOutput}
use Rattle.base_refusal.proofs.Numbers.{refused-number}
use Rattle.radio_telegram.specs.Output.{Result, refused, written}
use Rattle.radio_erp2_model.specs.declared.Telegram.{Telegram}
use Rattle.radio_erp2_model.specs.Header.{is_reserved, announced_of}
use Rattle.radio_erp2_model.specs.Sizes.{long_sizes, overhead}
use Rattle.radio_erp2_model.specs.Building.{is_short_form, sizes_for, telegram_size, is_unholdable, is_against_header, is_misfitting, bytes_by_size, body_of, seal_of, erp2_bytes, build_of}
use Rattle.radio_erp2_model.specs.Claims.{Shaped}
use Rattle.radio_erp2_model.specs.Bounds.{Buildable}
use Rattle.radio_erp2.specs.Private.{admission_of, seal_by, row_written, FitsOutput}
use Rattle.radio_erp2_model.proofs.Lookups.{originator-low}
use Rattle.radio_erp2_model.proofs.Facts.{optional-high, Lengths, short_facts, long_facts, short_lengths, long-lengths}
use Rattle.radio_erp2_model.proofs.Segments.{built_length}

-- a chain of refusals, and the same chain of their numbers
chain : (a b c : Bool) (n : ℕ) (out : List ℕ) (rest : Result) → (n ≡ 0 → ⊥) → n ≡ cond a (number_of Argument)
    (cond b (number_of ReservedAddress) (cond c (number_of Misfit) 0))
    → refused n out ≡ cond a (refused (number_of Argument) out)
    (cond b (refused (number_of ReservedAddress) out) (cond c (refused (number_of Misfit) out) rest))
chain true b c n out rest z e = ap (λ (m : ℕ). refused m out) e
chain false true c n out rest z e = ap (λ (m : ℕ). refused m out) e
chain false false true n out rest z e = ap (λ (m : ℕ). refused m out) e
chain false false false n out rest z e = absurd (z e)

pub build_refused : (t : Telegram) (out : List ℕ) (why : Refusal)
    → number_of why ≡ admission_of t → refused (number_of why) out ≡ build_of t out
unfolding admission_of build_of
build_refused t out why e =
    chain (is_unholdable t || is_against_header t)
    (not (is_short_form t) && is_reserved t.header) (is_misfitting t) (number_of why) out _
    (refused-number why) e

module _ (t : Telegram) (v : Buildable t) (out : List ℕ) where
  admitted_build : build_of t out
      ≡ cond (ltb (length out) (1 + telegram_size t)) (refused (number_of ShortOutput) out) (written (erp2_bytes t) out)
  unfolding build_of
  admitted_build = rw (v.holds, v.agrees, v.allowed, v.fits)

  pub build_short : length out < 1 + telegram_size t → refused (number_of ShortOutput) out ≡ build_of t out
  build_short h = sym (admitted_build ∙ rw (lt-ltb (length out) (1 + telegram_size t) h))

  module _ (shape : Shaped t) where
    by_form_lengths : (x : Bool) → is_short_form t ≡ x → Lengths t
    by_form_lengths true f = short_lengths t shape f (short_facts t v f)
    by_form_lengths false f = long-lengths t shape f (long_facts t v f)

    lengths : Lengths t
    lengths = by_form_lengths (is_short_form t) refl

    by_form_seal : (x : Bool) → is_short_form t ≡ x → seal_by (sizes_for t) (body_of t) ≡ seal_of t
    by_form_seal true f = rw f
    by_form_seal false f = rw f

    -- the row, written, is the telegram
    row_built : row_written t (sizes_for t) out ≡ erp2_bytes t ++ drop (length (erp2_bytes t)) out
    unfolding row_written erp2_bytes body_of telegram_size
    row_built =
        let n : 1 + overhead (sizes_for t) + t.len ≡ length (erp2_bytes t) = omega (arith, built_length t lengths) in
        ap (λ (x : List ℕ). ((overhead (sizes_for t) + t.len) ∷ (bytes_by_size t (sizes_for t) ++ x))
        ++ drop (1 + overhead (sizes_for t) + t.len) out)
        (by_form_seal (is_short_form t) refl)
        ∙ ap (λ (m : ℕ). ((overhead (sizes_for t) + t.len) ∷ (bytes_by_size t (sizes_for t) ++ seal_of t))
        ++ drop m out) n

    pub build_done : 1 + telegram_size t ≤ length out → (n : ℕ) → n ≡ 1 + telegram_size t
        → (last : List ℕ) → last ≡ row_written t (sizes_for t) out
        → record { number = 0; len = n; output = last } ≡ build_of t out
    build_done h n e last f =
        let l = built_length t lengths in
        ap (λ (m : ℕ). record { number = 0; len = m; output = last }) (e ∙ sym l)
        ∙ ap (λ (xs : List ℕ). record { number = 0; len = length (erp2_bytes t); output = xs }) (f ∙ row_built)
        ∙ sym (admitted_build ∙ rw (le-ltb (length out) (1 + telegram_size t) h))

-- a telegram that can be built fits, and an output with room for it
module _ (t : Telegram) (v : Buildable t) (n : ℕ) (room : 1 + telegram_size t ≤ n) where
  by_form_laid : (x : Bool) → is_short_form t ≡ x → FitsOutput t (sizes_for t) n
  unfolding telegram_size
  by_form_laid true f =
      let w = short_facts t v f in
      let m : overhead (sizes_for t) + t.len ≡ t.short = w.size in
      record {
        size = omega (arith, w.most);
        room = omega arith;
        payload = omega (arith, w.most);
        optional = rw f (omega arith);
        crc = rw f (omega arith);
      }
  by_form_laid false f =
      let w = long_facts t v f in
      let m : overhead (sizes_for t) + t.len ≤ 255 = w.high in
      let k : overhead (long_sizes t.header (announced_of t.extension)) + t.len ≤ 255 = rw f at m in
      let o = originator-low t.header.control in
      let p : cond t.header.extended (announced_of t.extension) 0 ≤ 15 = optional-high t w t.header.extended in
      record {
        size = m;
        room = omega arith;
        payload = omega (arith, k, o);
        optional = rw f p;
        crc = rw f (omega arith);
      }

  pub laid_built : FitsOutput t (sizes_for t) n
  laid_built = by_form_laid (is_short_form t) refl

pub data_most : (t : Telegram) → Buildable t → t.len ≤ 250
data_most t v = (laid_built t v (1 + telegram_size t) (omega arith)).payload
