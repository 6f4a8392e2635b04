-- The claims on the codec and on the repeater step. proofs/Laws.antt proves them. Each direction of the codec undoes
-- the other, for the whole answer: the number, the length and every byte of the output.
use Rattle.std.specs.Prelude.{◌≡◌, List, [], ℕ, ◌≤◌, ◌<◌, length}
use Rattle.radio_erp1.specs.Subtelegram.{status_of}
use Rattle.radio_telegram.specs.declared.fields.Telegram.{Telegram}
use Rattle.radio_telegram.specs.Frame.{frame_of}
use Rattle.radio_telegram.specs.Output.{written, result_bytes}
use Rattle.radio_telegram.specs.Fields.{fields_of, destid_of, read_of, build_of, Shaped, normal_of}
use Rattle.radio_telegram.specs.Addressing.{encapsulate_of, decapsulate_of}
use Rattle.radio_telegram.specs.Repeater.{repeat_of, repeat_result, RaisedFrom}

-- ---- reading and building

-- Read built: what is built reads back, with zeros for what its bytes do not carry.
abbrev pub ReadBuilt : Type 0
ReadBuilt = (t : Telegram) → Shaped t → (out : List ℕ) → (build_of t out).number ≡ 0
    → read_of (result_bytes (build_of t out)) ≡ record { number = 0; telegram = normal_of t }

-- Build read: what is read builds the same bytes.
abbrev pub BuildRead : Type 0
BuildRead =
    (s out : List ℕ) → (read_of s).number ≡ 0 → length s ≤ length out
    → build_of (read_of s).telegram out ≡ written s out

-- ---- "Encapsulating keeps STATUS and renews HASH; removing does the same. Each undoes the other."

-- Decapsulate encapsulated: removal gives back what was encapsulated.
abbrev pub DecapsulateEncapsulated : Type 0
DecapsulateEncapsulated =
    (s to out last : List ℕ) → length to ≡ 4 → (encapsulate_of s to out).number ≡ 0 → length s ≤ length last
    → decapsulate_of (result_bytes (encapsulate_of s to out)) last ≡ written s last

-- Encapsulate decapsulated: encapsulating for the same DESTID gives back the telegram before the removal.
abbrev pub EncapsulateDecapsulated : Type 0
EncapsulateDecapsulated =
    (s out last : List ℕ) → (decapsulate_of s out).number ≡ 0 → length s ≤ length last
    → encapsulate_of (result_bytes (decapsulate_of s out)) (destid_of (fields_of s)) last ≡ written s last

-- ---- what a repeater sends

-- Sent raised: "The sent telegram differs in level, raised by one, and HASH only": it is valid, as long as the received
-- one, and the same telegram.
abbrev pub SentRaised : Type 0
SentRaised =
    (setting : ℕ) (s : List ℕ) → status_of s < 256 → (repeat_of setting s ≡ [] → ⊥)
    → RaisedFrom s (repeat_of setting s)

-- Call sends: the call sends what the formula says, for every setting and all bytes.
abbrev pub CallSends : Type 0
CallSends = (setting : ℕ) (s : List ℕ) → (repeat_result setting s).sent ≡ frame_of (repeat_of setting s)
