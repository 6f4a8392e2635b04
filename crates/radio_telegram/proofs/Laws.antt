-- The claims of specs/Claims.antt: each codec undoes the other, as whole answers, and what a repeater sends.
use mathlib.Core.Path.{◌≡◌, refl, sym, ap, ◌∙◌}
use Rattle.std.specs.Prelude.{is_some}
use mathlib.Core.Bool.{Bool, true, false}
use mathlib.Core.List.{List}
use Prim.Native.Nat.{ℕ, ◌≤◌}
use lib.Dec.{ltb}
use lib.ListN.{length}
use lib.Seq.{take-append_seam}
use borrow.Author.Tests.{eqb-true, ltb-true}
use Rattle.base_lists.proofs.Tests.{by_test}
use Rattle.radio_erp1.specs.Subtelegram.{max_length, check_of, is_valid}
use Rattle.radio_erp1.proofs.Checks.{check_facts}
use Rattle.radio_telegram.specs.declared.fields.Telegram.{Telegram}
use Rattle.radio_telegram.specs.Output.{Result, written, result_bytes, put_of}
use Rattle.radio_telegram.specs.Fields.{fields_of, destid_of, Read, read_of, telegram_bytes, is_unbuildable, build_of, Buildable, Shaped}
use Rattle.radio_telegram.specs.Addressing.{addressed_to, unaddressed, encapsulated, decapsulated, encapsulate_of, decapsulate_of}
use Rattle.radio_telegram.specs.Repeater.{level_of, max_setting, repeats, repeat_of, repeat_result, RaisedFrom}
use Rattle.radio_telegram.specs.Claims.{ReadBuilt, BuildRead, DecapsulateEncapsulated, EncapsulateDecapsulated, SentRaised, CallSends}
use Rattle.radio_telegram.proofs.Frames.{put_facts, put_written}
use Rattle.radio_telegram.proofs.Reading.{fields_fit}
use Rattle.radio_telegram.proofs.Building.{build_facts, build_fields, buildable_fields}
use Rattle.radio_telegram.proofs.Addressed.{encapsulate_facts, decapsulate_facts, encapsulate_put, decapsulate_put}
use Rattle.radio_telegram.proofs.Repeating.{relay_none, relay_sent, relay_argument, repeat_valid, repeat_invalid, repeats-low, raised_from}
use Rattle.radio_telegram.proofs.RoundTrip.{built_valid, built_reads, read_builds, read_shaped, built_flag, built_decapsulated, built_encapsulated, plain_itself, addressed_itself}

-- ---- reading, and writing what is read

read_number : (s : List ℕ) → (read_of s).number ≡ 0 → check_of s ≡ 0
unfolding read_of
read_number s e = e

read_fields : (s : List ℕ) → check_of s ≡ 0 → read_of s ≡ record { number = 0; telegram = fields_of s }
unfolding read_of
read_fields s e = rw e

written-bytes : (xs out : List ℕ) → result_bytes (written xs out) ≡ xs
written-bytes xs out = take-append_seam xs _

-- what is built reads back
pub read_built : ReadBuilt
read_built t shape out e =
    let f = build_facts t out e in
    let p = put_facts (telegram_bytes t) out f.1 in
    let made = build_fields t out f.0 ∙ put_written (telegram_bytes t) out p.0 p.1 in
    let b = buildable_fields t f.0 p.0 in
    ap (λ (r : Result). read_of (result_bytes r)) made ∙ ap read_of (written-bytes (telegram_bytes t) out)
    ∙ read_fields (telegram_bytes t) (built_valid t shape b)
    ∙ ap (λ (u : Telegram). record { number = 0; telegram = u }) (built_reads t shape b)

-- what is read builds the same bytes
pub build_read : BuildRead
build_read s out e h =
    let v = check_facts s (read_number s e) in
    let same = read_builds s v in
    ap (λ (t : Telegram). build_of t out) (ap (λ (r : Read). r.telegram) (read_fields s (read_number s e)))
    ∙ build_fields (fields_of s) out (fields_fit s v)
    ∙ ap (λ (xs : List ℕ). put_of xs out) same ∙ put_written s out v.high h

-- ---- encapsulating, and removing

-- what was written is removed from, and encapsulated again
module _ (t : Telegram) (shape : Shaped t) (b : Buildable t) (s last : List ℕ)
    (high : length s ≤ max_length) (h : length s ≤ length last) where
  removed : is_some t.destid ≡ true → telegram_bytes (unaddressed t) ≡ s
      → decapsulate_of (telegram_bytes t) last ≡ written s last
  removed a e =
      sym (decapsulate_put (telegram_bytes t) last (built_valid t shape b) (built_flag t shape b ∙ a))
      ∙ ap (λ (xs : List ℕ). put_of xs last) (built_decapsulated t shape b ∙ e) ∙ put_written s last high h

  addressed_again : (to : List ℕ) → is_some t.destid ≡ false → telegram_bytes (addressed_to t to) ≡ s
      → encapsulate_of (telegram_bytes t) to last ≡ written s last
  addressed_again to a e =
      sym (encapsulate_put (telegram_bytes t) last (built_valid t shape b) to (built_flag t shape b ∙ a))
      ∙ ap (λ (xs : List ℕ). put_of xs last) (built_encapsulated t shape b to ∙ e) ∙ put_written s last high h

-- removal gives back what was encapsulated
pub decapsulate_encapsulated : DecapsulateEncapsulated
unfolding is_unbuildable
decapsulate_encapsulated s to out last four e h =
    let f = encapsulate_facts s out to e in
    let p = put_facts (encapsulated s to) out f.2 in
    let made = sym (encapsulate_put s out f.0 to f.1) ∙ put_written (encapsulated s to) out p.0 p.1 in
    let v = check_facts s f.0 in
    let shape : Shaped (addressed_to (fields_of s) to) =
    record { payload = (read_shaped s v).payload; destid = four; txid = (read_shaped s v).txid } in
    let b = buildable_fields (addressed_to (fields_of s) to) (fields_fit s v) p.0 in
    ap (λ (r : Result). decapsulate_of (result_bytes r) last) made
    ∙ ap (λ (xs : List ℕ). decapsulate_of xs last) (written-bytes (encapsulated s to) out)
    ∙ removed (addressed_to (fields_of s) to) shape b s last v.high h refl (plain_itself s v f.1)

-- and encapsulating for the same DESTID gives back what was removed from
pub encapsulate_decapsulated : EncapsulateDecapsulated
unfolding is_unbuildable
encapsulate_decapsulated s out last e h =
    let f = decapsulate_facts s out e in
    let p = put_facts (decapsulated s) out f.2 in
    let made = sym (decapsulate_put s out f.0 f.1) ∙ put_written (decapsulated s) out p.0 p.1 in
    let v = check_facts s f.0 in
    let to = destid_of (fields_of s) in
    let shape : Shaped (unaddressed (fields_of s)) =
    record { payload = (read_shaped s v).payload; destid = tt; txid = (read_shaped s v).txid } in
    let b = buildable_fields (unaddressed (fields_of s)) (fields_fit s v) p.0 in
    ap (λ (r : Result). encapsulate_of (result_bytes r) to last) made
    ∙ ap (λ (xs : List ℕ). encapsulate_of xs to last) (written-bytes (decapsulated s) out)
    ∙ addressed_again (unaddressed (fields_of s)) shape b s last v.high h to refl (addressed_itself s v f.1)

-- ---- what a repeater sends

-- a telegram that is sent is valid, as long as the one received, the same telegram, and one level higher
pub repeated : SentRaised
repeated setting s byte some = go (is_valid s) (repeats setting (level_of s)) refl refl
  where
    go : (a b : Bool) → is_valid s ≡ a → repeats setting (level_of s) ≡ b → RaisedFrom s (repeat_of setting s)
    go true true v r =
        let f = check_facts s (eqb-true _ _ v) in
        rw (← repeat_valid setting s (eqb-true _ _ v), ← relay_sent setting s f.low f.high r)
        (raised_from s f byte (repeats-low setting (level_of s) r))
    go true false v r =
        let f = check_facts s (eqb-true _ _ v) in
        absurd (some (sym (relay_none setting s f.low f.high r ∙ repeat_valid setting s (eqb-true _ _ v))))
    go false b v r = absurd (some (repeat_invalid setting s v))

-- the call sends what the formula says, whatever the setting and the bytes
pub repeat_sent : CallSends
unfolding repeat_result repeat_of
repeat_sent setting s =
    by_test (ltb max_setting setting)
    (λ h. by_test (is_valid s)
    (λ v. rw (h, v, relay_argument setting s (ltb-true max_setting setting h))) (λ v. rw (h, v)))
    (λ h. by_test (is_valid s) (λ v. rw (h, v)) (λ v. rw (h, v)))
