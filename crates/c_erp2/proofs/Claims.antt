-- The claim: each part of what is written is read where it stands.
use mathlib.Core.Path.{◌≡◌, refl, ◌∙◌}
use mathlib.Core.Bool.{Bool, true, false, cond, not}
use mathlib.Core.List.{List, ◌++◌}
use Prim.Native.Nat.{ℕ}
use native.Mathlib.Omega.{arith}
use lib.Dec.{eqb}
use lib.ListN.{length}
use Rattle.base_buffers.specs.Buffer.{part, resized}
use Rattle.base_buffers.proofs.Buffer.{resized-length, resized_whole}
use Rattle.base_buffers.proofs.Segments.{left, last, whole}
use Rattle.std.specs.Prelude.{Option, Some, None, is_some, unwrap_or}
use Rattle.radio_erp2_model.specs.declared.Extension.{Extension}
use Rattle.radio_erp2_model.specs.Header.{hops_of, announced_of}
use Rattle.radio_erp2_model.specs.Reading.{max_data, max_optional}
use Rattle.c_layout.specs.Frame.{flag_byte}
use Rattle.c_erp2.specs.Fields.{head_bytes, fields_bytes, telegram_in}
use Rattle.c_erp2.specs.Claims.{SaidAgain}

flag_back : (b : Bool) → not (eqb (flag_byte b) 0) ≡ b
flag_back true = refl
flag_back false = refl

-- an optional field, from its flag and its values
extension_back : (o : Option Extension)
    → cond (not (eqb (flag_byte (is_some o)) 0)) (Some (record { hops = hops_of o; announced = announced_of o })) None
    ≡ o
extension_back (Some e) = refl
extension_back None = refl

number_back : (o : Option ℕ) → cond (not (eqb (flag_byte (is_some o)) 0)) (Some (unwrap_or o 0)) None ≡ o
number_back (Some n) = refl
number_back None = refl

-- data and optional data, one after the other
module _ (a b : List ℕ) (la : length a ≡ max_data) (lb : length b ≡ max_optional) where
  first : part 0 250 (resized max_data a ++ resized max_optional b) ≡ a
  first =
      left (resized max_data a) (resized max_optional b) 250 0 250 (resized-length max_data a) (omega arith)
      ∙ whole (resized max_data a) 250 (resized-length max_data a) ∙ resized_whole max_data a la

  second : part 250 15 (resized max_data a ++ resized max_optional b) ≡ b
  second =
      last (resized max_data a) (resized max_optional b) 250 15 (resized-length max_data a)
      (resized-length max_optional b)
      ∙ resized_whole max_optional b lb

pub said_again : SaidAgain
unfolding head_bytes fields_bytes telegram_in
said_again t s =
    let p = first t.payload t.optional s.payload s.optional in
    let o = second t.payload t.optional s.payload s.optional in
    let e = flag_back t.header.extended in
    let x = extension_back t.extension in
    let u = number_back t.subtype in
    let d = number_back t.destination in
    λ i. record {
      short = t.short;
      header = record { control = t.header.control; extended = e i; kind = t.header.kind };
      extension = x i;
      subtype = u i;
      originator = t.originator;
      destination = d i;
      payload = p i;
      len = t.len;
      optional = o i;
    }
