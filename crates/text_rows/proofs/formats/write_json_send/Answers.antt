-- `text_rows::formats::write_json_send` meets its contract: nothing, or bytes.
use mathlib.Core.Path.{◌≡◌, refl}
use mathlib.Core.List.{List, [], ◌∷◌, ◌++◌}
use Prim.Native.Nat.{ℕ}
use native.Mathlib.Omega.{arith}
use lib.ListN.{length}
use Rattle.text_rows.specs.Codes.{codes}
use Rattle.text_rows.specs.Formats.{hex_after, json_send}
use Rattle.base_buffers.proofs.Stores.{loosened, then}
use Rattle.text_rows.proofs.formats.write_json_send.Goals as goal

none_sent : (sent : List ℕ) → length sent ≡ 0 → json_send sent ≡ codes "\""
unfolding json_send
none_sent [] e = refl
none_sent (b ∷ bs) e = absurd (omega arith)

some_sent : (sent : List ℕ) → (length sent ≡ 0 → ⊥)
    → json_send sent ≡ hex_after (codes "\",\"send\":\"") sent ++ codes "\""
unfolding json_send
some_sent [] n = absurd (n refl)
some_sent (b ∷ bs) n = refl

pub returns-then-sent-eq0 : goal.returns-then-sent-eq0
returns-then-sent-eq0 c =
    rw (none_sent _ c.if-sent-eq0.true) (loosened c.write.ensures (omega arith))

pub returns : goal.returns
returns c =
    rw (some_sent _ c.if-sent-eq0.false)
    (loosened (then c.write_hex_after-a.ensures c.write-2.ensures) (omega arith))
