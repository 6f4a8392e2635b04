-- The calls by what is tested: fields of another size, and of the right size; how long what is read is.
use mathlib.Core.Path.{◌≡◌, refl, sym, ◌∙◌}
use mathlib.Core.List.{List, [], ◌∷◌}
use Prim.Native.Nat.{ℕ, ◌<◌}
use native.Mathlib.Omega.{arith}
use lib.Dec.{eqb}
use lib.ListN.{length}
use borrow.Author.Tests.{eq-eqb, ne_eqb}
use Rattle.base_lists.proofs.Tests.{branch}
use Rattle.std.specs.Prelude.{Option, Some, None, is_some, unwrap_or}
use Rattle.radio_erp2_model.specs.declared.Extension.{Extension}
use Rattle.radio_erp2_model.specs.declared.Telegram.{Telegram}
use Rattle.radio_erp2_model.specs.Header.{hops_of, announced_of}
use Rattle.radio_erp2_model.specs.Reading.{read_of, fields_of, check_of, length_byte}
use Rattle.radio_erp2_model.specs.Building.{build_of}
use Rattle.c_layout.specs.Frame.{wrong_size, flag_byte}
use Rattle.c_layout.specs.Lent.{settled}
use Rattle.c_erp2.specs.Fields.{fields_length, head_bytes, fields_bytes, telegram_in}
use Rattle.c_erp2.specs.Calls.{reading, read_call, build_call}

-- ---- sizes

module _ (s old : List ℕ) (originator destination : ℕ) where
  pub read_other : (length old ≡ fields_length → ⊥)
      → reading wrong_size old originator destination ≡ read_call s old originator destination
  unfolding read_call
  read_other h = rw (ne_eqb (length old) fields_length h)

  -- of the right size, by the number that was answered
  module _ (number : ℕ) (h : length old ≡ fields_length) (is : number ≡ (read_of s).number) where
    pub read_not : (number ≡ 0 → ⊥) → reading number old originator destination ≡ read_call s old originator destination
    unfolding read_call
    read_not n = rw (eq-eqb (length old) fields_length h, ne_eqb (read_of s).number 0 (λ z. n (is ∙ z)), is)

    pub read_done : number ≡ 0
        → reading number (fields_bytes (read_of s).telegram)
        (read_of s).telegram.originator (unwrap_or (read_of s).telegram.destination 0)
        ≡ read_call s old originator destination
    unfolding read_call
    read_done z = rw (eq-eqb (length old) fields_length h, sym is ∙ z, z)

module _ (fields : List ℕ) (originator destination was : ℕ) (output : List ℕ) where
  pub build_other : (length fields ≡ fields_length → ⊥)
      → (record { number = wrong_size; len = was; output = output })
      ≡ build_call fields originator destination was output
  unfolding build_call
  build_other h = rw (ne_eqb (length fields) fields_length h)

  pub build_done : length fields ≡ fields_length
      → settled (build_of (telegram_in fields originator destination) output) was
      ≡ build_call fields originator destination was output
  unfolding build_call
  build_done h = rw (eq-eqb (length fields) fields_length h)

-- ---- lengths: data that is read is shorter than the length byte says

pub read_len : (s : List ℕ) → length_byte s < 256 → (read_of s).telegram.len < 256
unfolding read_of fields_of
read_len s h = branch (λ (t : Telegram). t.len < 256) (eqb (check_of s) 0) (λ e. omega (arith, h)) (λ e. omega arith)

-- ---- fields, part by part

-- an extended header with zeros where there is none
abbrev or_zeros : Option Extension → Extension
or_zeros o = unwrap_or o (record { hops = 0; announced = 0 })

extension-hops : (o : Option Extension) → (or_zeros o).hops ≡ hops_of o
extension-hops (Some e) = refl
extension-hops None = refl

extension-announced : (o : Option Extension) → (or_zeros o).announced ≡ announced_of o
extension-announced (Some e) = refl
extension-announced None = refl

pub head_are : (t : Telegram) (e : Extension) (a b c d v : ℕ) → e ≡ or_zeros t.extension → v ≡ unwrap_or t.subtype 0
    → a ≡ flag_byte t.header.extended → b ≡ flag_byte (is_some t.extension) → c ≡ flag_byte (is_some t.subtype)
    → d ≡ flag_byte (is_some t.destination)
    → t.short ∷ t.header.control ∷ a ∷ t.header.kind ∷ b ∷ e.hops
    ∷ e.announced ∷ c ∷ v ∷ d ∷ t.len ∷ []
    ≡ head_bytes t
unfolding head_bytes
head_are t e a b c d v ee ev ea eb ec ed =
    rw (ee, ev, ea, eb, ec, ed, extension-hops t.extension, extension-announced t.extension)
