-- The numbers and bytes of answers say them.
--     answer-proper           the number of a refusal is neither 0 nor more than a byte holds
--     answers-back            one number
--     proper-reply            what is sent has 21 bytes too
--     reply-back, replies-back     24 bytes
use Prim.Native.Nat.{ℕ, ◌+◌, ◌*◌, ◌%◌, ◌≤◌, ◌<◌}
use native.Mathlib.Omega.{arith}
use mathlib.Core.Path.{◌≡◌, refl}
use mathlib.Core.Bool.{cond, not, ◌&&◌}
use mathlib.Core.List.{List, []}
use lib.Dec.{leb, ltb}
use lib.ListN.{length}
use borrow.Author.Tests.{ne_eqb, eqb-false, not-true}
use Rattle.base_lists.proofs.Tests.{branch, by_test}
use Rattle.base_refusal.specs.Number.{number_of}
use Rattle.radio_erp1.specs.Status.{split_of}
use Rattle.radio_erp1.specs.Subtelegram.{max_length, check_of, is_valid, is_length_wrong, is_hashed, is_addressed, is_nested, min_addressed_length, wrong_hash, status_of}
use Rattle.base_buffers.proofs.Buffer.{padded-length, resized_whole}
use Rattle.radio_telegram.specs.Frame.{frame_of}
use Rattle.radio_telegram.specs.Repeater.{repeat_of}
use Rattle.radio_telegram.proofs.Repeating.{relay_fits}
use Rattle.collector_model.specs.Answer.{Shown, Kept, Copy, Loose, Refused, is_kept, shown_number}
use Rattle.collector_model.specs.View.{Reception, View}
use Rattle.collector_model.specs.Acceptable.{acceptable}
use Rattle.collector_model.specs.Step.{classify, step, sent_for, max_count, is_known, is_crowded}
use Rattle.collector_model.specs.Burst.{Replied, reply_with}
use Rattle.c_layout.specs.Frame.{frame_bytes}
use Rattle.c_collector.specs.Calls.{kind_of, answer_number}
use Rattle.c_burst.specs.Bytes.{reply_bytes}
use Rattle.history_calls.specs.Answers.{shown_with, shown_in, replied_in, AnswersBack, RepliesBack}

-- ---- an answer

abbrev pub Proper : Shown → Type 0
Proper Kept = Unit {0}
Proper Copy = Unit {0}
Proper Loose = Unit {0}
Proper (Refused n) = (0 < n) × (n < 256)

-- the check's numbers
small : (s : List ℕ) → check_of s < 256
unfolding check_of
small s =
    by_test (is_length_wrong s) (λ a. rw a (omega arith))
    (λ a. by_test (not (is_hashed s)) (λ b. rw (a, b) hash)
    (λ b. by_test (is_addressed s && ltb (length s) min_addressed_length) (λ c. rw (a, b, c) (omega arith))
    (λ c. by_test (is_addressed s && is_nested s) (λ d. rw (a, b, c, d) (omega arith))
    (λ d. rw (a, b, c, d) (omega arith)))))
  where
    hash : number_of (wrong_hash (status_of s)) < 256
    hash = by_test (split_of (status_of s)).crc (λ e. rw e (omega arith)) (λ e. rw e (omega arith))

pub answer_proper : (v : View) (r : Reception) → Proper (step v r).answer
unfolding step classify
answer_proper v r =
    branch Proper (not (acceptable v)) (λ _. (omega arith, omega arith))
    (λ _. branch Proper (leb max_count v.totals.received) (λ _. (omega arith, omega arith))
    (λ _. branch Proper (not (is_valid r.bytes))
    (λ bad. (let z = eqb-false (check_of r.bytes) 0 (not-true _ bad) in omega (arith, z), small r.bytes))
    (λ _. branch Proper (ltb r.time v.latest) (λ _. (omega arith, omega arith))
    (λ _. branch Proper (is_known v r) (λ _. tt)
    (λ _. branch Proper (is_crowded v r) (λ _. tt) (λ _. tt))))))

with_back : (a : Shown) → Proper a → shown_with (kind_of a) (shown_number a) ≡ a
with_back Kept p = refl
with_back Copy p = refl
with_back Loose p = refl
with_back (Refused n) p = rw (ne_eqb n 0 (λ z. omega (arith, p.0)))

shown-back : (a : Shown) → Proper a → shown_in (answer_number a) ≡ a
shown-back Kept p = refl
shown-back Copy p = refl
shown-back Loose p = refl
shown-back (Refused n) p =
    let q : (256 * 0 + n) % 256 ≡ n = omega (arith, p.1) in
    rw q (rw (ne_eqb n 0 (λ z. omega (arith, p.0))))

pub answers-back : AnswersBack
answers-back v r = shown-back (step v r).answer (answer_proper v r)

-- ---- a reply

pub record ProperReply (p : Replied) : Type 0 where
  pub answer : Proper p.answer
  pub long : length p.sent.bytes ≡ max_length

repeat_fits : (setting : ℕ) (s : List ℕ) → length (repeat_of setting s) ≤ max_length
unfolding repeat_of
repeat_fits setting s =
    branch (λ (l : List ℕ). length l ≤ max_length) (is_valid s) (λ _. relay_fits setting s) (λ _. omega arith)

pub proper_reply : (setting : ℕ) (v : View) (r : Reception) → ProperReply (reply_with setting (step v r).answer r)
unfolding sent_for frame_of
proper_reply setting v r = record {
  answer = answer_proper v r;
  long = padded-length max_length (cond (is_kept (step v r).answer) (repeat_of setting r.bytes) []) sent-fits;
}
  where
    sent-fits : length (cond (is_kept (step v r).answer) (repeat_of setting r.bytes) []) ≤ max_length
    sent-fits =
        by_test (is_kept (step v r).answer) (λ e. rw e (repeat_fits setting r.bytes)) (λ e. rw e (omega arith))

pub reply-back : (p : Replied) → ProperReply p → replied_in (reply_bytes p) ≡ p
unfolding reply_bytes frame_bytes
reply-back p w =
    λ i.
    record {
      answer = with_back p.answer w.answer i;
      sent = record { len = p.sent.len; bytes = resized_whole max_length p.sent.bytes w.long i };
    }

pub replies-back : RepliesBack
replies-back setting v r = reply-back (reply_with setting (step v r).answer r) (proper_reply setting v r)
