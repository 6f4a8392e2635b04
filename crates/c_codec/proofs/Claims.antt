-- The claim: each part of what is written is read where it stands.
use Rattle.std.specs.Prelude.{Option, Some, None, is_some, unwrap_or, replicate}
use mathlib.Core.Path.{◌≡◌, refl, ap, ◌∙◌}
use mathlib.Core.Bool.{cond}
use mathlib.Core.List.{List, ◌++◌}
use Prim.Native.Nat.{ℕ}
use native.Mathlib.Omega.{arith}
use lib.Dec.{eqb}
use lib.ListN.{length, length-append}
use Rattle.base_buffers.specs.Buffer.{part}
use Rattle.base_buffers.proofs.Segments.{left, last, whole}
use Rattle.c_layout.specs.Frame.{flag_byte}
use Rattle.c_codec.specs.Fields.{fields_bytes, telegram_in}
use Rattle.c_codec.specs.Claims.{SaidAgain}
use Rattle.c_codec.proofs.Calls.{destid_long}
use Rattle.radio_telegram.specs.Fields.{destid_of}

destid_back : (o : Option (List ℕ)) (d : List ℕ) → d ≡ unwrap_or o (replicate 4 0)
    → cond (eqb (flag_byte (is_some o)) 0) None (Some d) ≡ o
destid_back None d e = refl
destid_back (Some x) d e = ap Some e

-- DESTID, TXID and DATA, one after the other
module _ (a b c : List ℕ) (la : length a ≡ 4) (lb : length b ≡ 4) (lc : length c ≡ 14) where
  both_long : length (a ++ b) ≡ 8
  both_long = length-append a b ∙ omega arith

  first : part 0 4 (a ++ b ++ c) ≡ a
  first = left (a ++ b) c 8 0 4 both_long (omega arith) ∙ left a b 4 0 4 la (omega arith) ∙ whole a 4 la

  second : part 4 4 (a ++ b ++ c) ≡ b
  second = left (a ++ b) c 8 4 4 both_long (omega arith) ∙ last a b 4 4 la lb

  third : part 8 14 (a ++ b ++ c) ≡ c
  third = last (a ++ b) c 8 14 both_long lc

pub said_again : SaidAgain
unfolding fields_bytes telegram_in
said_again t s =
    let four = destid_long t.destid s.destid in
    let d = destid_back t.destid _ (first (destid_of t) t.txid t.payload four s.txid s.payload) in
    let x = second (destid_of t) t.txid t.payload four s.txid s.payload in
    let p = third (destid_of t) t.txid t.payload four s.txid s.payload in
    λ i. record {
      rorg = t.rorg;
      payload = p i;
      len = t.len;
      destid = d i;
      txid = x i;
      status = t.status;
    }
