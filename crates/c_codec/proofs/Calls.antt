-- The calls by what is tested: a slice of another size, and one of the right size; how long what is read and sent is.
use Rattle.std.specs.Prelude.{Option, Some, None, IfSome, is_some, unwrap_or, replicate}
use mathlib.Core.Path.{◌≡◌, refl, sym, ap₂, ◌∙◌}
use mathlib.Core.List.{List, [], ◌∷◌, ◌++◌}
use Prim.Native.Nat.{ℕ, ◌≤◌, zero-le}
use native.Mathlib.Omega.{arith}
use lib.ListN.{length}
use borrow.Author.Tests.{eq-eqb, ne_eqb, eqb-true}
use Rattle.base_lists.proofs.Tests.{branch}
use Rattle.radio_erp1.specs.Subtelegram.{max_length, check_of, is_valid, is_addressed}
use Rattle.radio_erp1.proofs.Checks.{check_facts}
use Rattle.base_buffers.specs.Buffer.{resized}
use Rattle.base_buffers.proofs.Buffer.{resized_whole}
use Rattle.radio_telegram.specs.declared.fields.Telegram.{Telegram}
use Rattle.radio_telegram.specs.Frame.{frame_of}
use Rattle.radio_telegram.specs.Fields.{read_of, fields_of, destid_of, max_data, build_of, Shaped}
use Rattle.radio_telegram.specs.Repeater.{repeat_of, repeat_result}
use Rattle.radio_telegram.proofs.Frames.{frame-len}
use Rattle.radio_telegram.proofs.Laws.{repeat_sent}
use Rattle.radio_telegram.proofs.Repeating.{relay_fits}
use Rattle.c_layout.specs.Frame.{wrong_size, frame_length, flag_byte}
use Rattle.c_codec.specs.Fields.{fields_length, fields_bytes, telegram_in}
use Rattle.c_layout.specs.Lent.{settled}
use Rattle.c_layout.proofs.Lent.{done_is, done-not}
use Rattle.c_codec.specs.Calls.{call, answered, read_call, build_call, repeat_call, sent_frame_bytes}

-- ---- sizes

module _ (s old : List ℕ) where
  pub read_other : (length old ≡ fields_length → ⊥) → call wrong_size old ≡ read_call s old
  unfolding read_call
  read_other h = rw (ne_eqb (length old) fields_length h)

  pub read_done : length old ≡ fields_length
      → answered (read_of s).number (fields_bytes (read_of s).telegram) old ≡ read_call s old
  unfolding read_call
  read_done h = rw (eq-eqb (length old) fields_length h)

module _ (fields : List ℕ) (was : ℕ) (output : List ℕ) where
  pub build_other : (length fields ≡ fields_length → ⊥)
      → (record { number = wrong_size; len = was; output = output }) ≡ build_call fields was output
  unfolding build_call
  build_other h = rw (ne_eqb (length fields) fields_length h)

  pub build_done : length fields ≡ fields_length
      → settled (build_of (telegram_in fields) output) was ≡ build_call fields was output
  unfolding build_call
  build_done h = rw (eq-eqb (length fields) fields_length h)

module _ (setting : ℕ) (s old : List ℕ) where
  pub repeat_other : (length old ≡ frame_length → ⊥) → call wrong_size old ≡ repeat_call setting s old
  unfolding repeat_call
  repeat_other h = rw (ne_eqb (length old) frame_length h)

  pub repeat_done : length old ≡ frame_length
      → answered (repeat_result setting s).number (sent_frame_bytes (repeat_result setting s).sent) old
      ≡ repeat_call setting s old
  unfolding repeat_call
  repeat_done h = rw (eq-eqb (length old) frame_length h)

-- ---- what is handed back, by the number that was answered

module _ (number told : ℕ) (values given old : List ℕ) (is : number ≡ told) where
  pub answered-not : (number ≡ 0 → ⊥) → call number old ≡ answered told given old
  answered-not n = ap₂ call is (done-not told given old (λ z. n (is ∙ z)))

  pub answered_is : number ≡ 0 → values ≡ given → call number values ≡ answered told given old
  answered_is z e = ap₂ call is (e ∙ done_is told given old (sym is ∙ z))

-- ---- lengths

-- DATA that is read has at most 14 bytes
pub read_len : (s : List ℕ) → (read_of s).telegram.len ≤ max_data
unfolding read_of fields_of
read_len s =
    branch (λ (t : Telegram). t.len ≤ max_data) (is_valid s)
    (λ e.
    let v = check_facts s (eqb-true (check_of s) 0 e) in
    branch (λ (t : Telegram). t.len ≤ max_data) (is_addressed s)
    (λ a. omega (arith, v.high)) (λ a. omega (arith, v.high)))
    (λ e. zero-le)

repeat_length : (setting : ℕ) (s : List ℕ) → length (repeat_of setting s) ≤ max_length
unfolding repeat_of
repeat_length setting s =
    branch (λ (l : List ℕ). length l ≤ max_length) (is_valid s) (λ e. relay_fits setting s) (λ e. zero-le)

-- what is sent is no longer than a subtelegram
pub sent-len : (setting : ℕ) (s : List ℕ) → (repeat_result setting s).sent.len ≤ max_length
sent-len setting s =
    rw (repeat_sent setting s, frame-len (frame_of (repeat_of setting s)) (repeat_of setting s) refl)
    (repeat_length setting s)

-- ---- fields

-- DESTID, or zeros, has four bytes
pub destid_long : (o : Option (List ℕ)) → IfSome o (λ d. length d ≡ 4) → length (unwrap_or o (replicate 4 0)) ≡ 4
destid_long None h = refl
destid_long (Some d) h = h

-- what is written, part by part
pub fields_are : (t : Telegram) (flag : ℕ) (destid : List ℕ)
    → flag ≡ flag_byte (is_some t.destid) → destid ≡ destid_of t → Shaped t
    → (t.rorg ∷ t.len ∷ flag ∷ t.status ∷ []) ++ resized 4 destid
    ++ resized 4 t.txid ++ resized 14 t.payload
    ≡ fields_bytes t
unfolding fields_bytes
fields_are t flag destid e d s =
    rw (
      e,
      d,
      resized_whole 4 (destid_of t) (destid_long t.destid s.destid),
      resized_whole 4 t.txid s.txid,
      resized_whole 14 t.payload s.payload,
    )
