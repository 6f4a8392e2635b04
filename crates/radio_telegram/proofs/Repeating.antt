-- The cases of the repeater step, and what is sent: a valid telegram, the same but for its level and HASH.
use mathlib.Core.Path.{◌≡◌, refl, sym, ◌∙◌}
use mathlib.Core.Bool.{Bool, true, false, cond, not, ◌&&◌, ◌||◌, and-false, true≢false}
use mathlib.Core.List.{List, [], ◌∷◌, ◌++◌, append_assoc}
use Prim.Native.Nat.{ℕ, ◌+◌, ◌-◌, ◌*◌, ◌≤◌, ◌<◌, ◌/◌, ◌%◌}
use native.Mathlib.Omega.{arith}
use native.Mathlib.Nat.{sub-zero}
use lib.Dec.{eqb, leb, ltb}
use lib.ListN.{length, take, drop, get_or, set, length-append, get_or-append}
use lib.Seq.{length-take-le, take-length, get_or-take}
use borrow.Author.Tests.{lt-ltb, le-ltb, ltb-false, eq-eqb, ne_eqb, eqb-true, eqb-false, leb-true, leb-false}
use Rattle.base_lists.proofs.Equal.{equal-refl}
use Rattle.base_refusal.specs.Number.{number_of}
use Rattle.base_refusal.specs.declared.Refusal.{Refusal}
use Rattle.base_refusal.specs.declared.Refusal.TheVariants.{Argument}
use Rattle.radio_erp1.specs.Status.{split_of, join_of, upper_of}
use Rattle.radio_erp1.specs.Subtelegram.{min_length, max_length, body_of, status_of, is_length_wrong, is_addressed, is_valid, check_of, hash_of, sealed_of, before_status}
use Rattle.radio_erp1.specs.Same.{is_same}
use Rattle.radio_erp1.proofs.Checks.{Sound, not_valid, status_at, front_at, check-plain, check-addressed}
use Rattle.radio_telegram.specs.Frame.{frame_of}
use Rattle.radio_telegram.specs.Output.{written}
use Rattle.radio_telegram.specs.Repeater.{level_of, max_setting, repeats, raise, raised_of, relay_of, repeat_of, not_repeated, repeat_result, RaisedFrom}
use Rattle.radio_telegram.proofs.Frames.{written-length, written_push, written_front}
use Rattle.radio_telegram.proofs.Parts.{last_more, body_more, sealed_hashed}

-- what is sent, by the indices of the code
pub raised_at : (s : List ℕ) → 2 ≤ length s
    → sealed_of (take (length s - 2) s ++ (join_of (raise (split_of (get_or s (length s - 2) 0))) ∷ [])) ≡ raised_of s
raised_at s h = rw (status_at s h, front_at s h)

pub level_at : (s : List ℕ) → 2 ≤ length s → (split_of (get_or s (length s - 2) 0)).level ≡ level_of s
level_at s h = rw (status_at s h)

module _ (setting : ℕ) (s : List ℕ) where
  -- bytes that need no check
  pub relay_short : length s < min_length → [] ≡ relay_of setting s
  unfolding relay_of
  relay_short h = rw (lt-ltb _ _ h)

  pub relay_long : max_length < length s → [] ≡ relay_of setting s
  unfolding relay_of
  relay_long h = rw (le-ltb (length s) min_length (omega arith), lt-ltb _ _ h)

  module _ (low : min_length ≤ length s) (high : length s ≤ max_length) where
    pub relay_none : repeats setting (level_of s) ≡ false → [] ≡ relay_of setting s
    unfolding relay_of
    relay_none n = rw (le-ltb _ _ low, le-ltb _ _ high, n)

    pub relay_sent : repeats setting (level_of s) ≡ true → raised_of s ≡ relay_of setting s
    unfolding relay_of
    relay_sent y = rw (le-ltb _ _ low, le-ltb _ _ high, y)

  -- a reception
  pub repeat_invalid : is_valid s ≡ false → repeat_of setting s ≡ []
  unfolding repeat_of
  repeat_invalid e = rw e

  pub repeat_valid : check_of s ≡ 0 → relay_of setting s ≡ repeat_of setting s
  unfolding repeat_of
  repeat_valid e = rw e

  -- a setting over 2 repeats nothing
  pub relay_argument : max_setting < setting → relay_of setting s ≡ []
  unfolding relay_of
  relay_argument h =
      let one = ne_eqb setting 1 (λ e. omega (arith, h, e)) in
      let two = ne_eqb setting 2 (λ e. omega (arith, h, e)) in
      rw (one, two, and-false (not (is_length_wrong s)))

  -- the call
  pub call-argument : max_setting < setting → not_repeated (number_of Argument) ≡ repeat_result setting s
  unfolding repeat_result
  call-argument h = rw (lt-ltb max_setting setting h)

  pub call-refused : setting ≤ max_setting → (why : Refusal) → number_of why ≡ check_of s
      → not_repeated (number_of why) ≡ repeat_result setting s
  unfolding repeat_result
  call-refused h why e = rw (le-ltb max_setting setting h, not_valid s why e, e)

  pub call-sent : setting ≤ max_setting → check_of s ≡ 0
      → record { number = 0; sent = frame_of (relay_of setting s) } ≡ repeat_result setting s
  unfolding repeat_result
  call-sent h e = rw (le-ltb max_setting setting h, e)

-- ---- what is sent

front_length : (s : List ℕ) → 2 ≤ length s → length (before_status s) ≡ length s - 2
front_length s h = rw (front_at s h) (length-take-le (length s - 2) s (omega arith))

pub raised_length : (s : List ℕ) → 2 ≤ length s → length (raised_of s) ≡ length s
raised_length s h = simp (length-append, front_length s h) (omega arith)

-- at most 21 bytes
pub relay_fits : (setting : ℕ) (s : List ℕ) → length (relay_of setting s) ≤ max_length
unfolding relay_of
relay_fits setting s = go (ltb (length s) min_length) (ltb max_length (length s))
    (repeats setting (level_of s)) refl refl
  where
    go : (a b t : Bool) → ltb (length s) min_length ≡ a → ltb max_length (length s) ≡ b
        → length (cond (not (a || b) && t) (raised_of s) []) ≤ max_length
    go true b t e f = omega arith
    go false true t e f = omega arith
    go false false true e f =
        omega (
          arith,
          raised_length s (omega (arith, ltb-false (length s) min_length e)),
          ltb-false max_length (length s) f,
        )
    go false false false e f = omega arith

-- the code's three steps: all before STATUS is copied, STATUS and HASH are put behind it
module _ (s out : List ℕ) (at : ℕ) (low : at + 2 ≡ length s)
    (fits : length s ≤ length out) {copied : List ℕ} {status : ℕ}
    (copy : copied ≡ take (length (take (at - 0) s)) (take (at - 0) s) ++ drop (length (take (at - 0) s)) out)
    (raises : status ≡ join_of (raise (split_of (get_or s at 0)))) where
  abbrev body : List ℕ
  body = take at s ++ (status ∷ [])

  copied-long : length (take at s) ≡ at
  copied-long = length-take-le at s (omega arith)

  body_long : length body ≡ at + 1
  body_long = simp (length-append, copied-long)

  status_put : set copied at status ≡ (written body out).output
  status_put =
      let first : copied ≡ (written (take at s) out).output = copy ∙ rw (sub-zero, take-length) in
      rw first (written_push (take at s) out copied-long status (omega arith))

  pub put-long : length (set copied at status) ≡ length out
  put-long = rw status_put (written-length body out (omega (arith, body_long)))

  pub raised_put : {hash : ℕ} → hash ≡ hash_of (take (at + 1 - 0) (set copied at status))
      → set (set copied at status) (at + 1) hash ≡ (written (raised_of s) out).output
  raised_put {hash} e =
      let two : length s - 2 ≡ at = omega arith in
      let sealed : sealed_of body ≡ raised_of s = rw raises (rw two at (raised_at s (omega arith))) in
      let h : hash ≡ hash_of body = e ∙ rw (sub-zero, status_put, written_front body out body_long) in
      rw (h, status_put, ← sealed) (written_push body out body_long (hash_of body) (omega arith))

-- only levels 0 and 1 are repeated
pub repeats-low : (setting level : ℕ) → repeats setting level ≡ true → level ≤ 1
repeats-low setting level e = go (leb level 1) refl
  where
    go : (t : Bool) → leb level 1 ≡ t → level ≤ 1
    go true h = leb-true level 1 h
    go false h =
        let high = ne_eqb level 0 (λ z. omega (arith, leb-false level 1 h, z)) in
        let none : repeats setting level ≡ false =
        rw (high, h, and-false (eqb setting 1)) (and-false (eqb setting 2)) in
        absurd (true≢false (sym e ∙ none))

raised_byte : (b : ℕ) → b < 256 → b % 16 ≤ 1
    → (upper_of (join_of (raise (split_of b))) ≡ upper_of b) × (join_of (raise (split_of b)) % 16 ≡ b % 16 + 1)
raised_byte b h l = go (eqb (b / 128) 1) refl
  where
    next : (b % 16 + 1) % 16 ≡ b % 16 + 1
    next = omega arith

    go : (t : Bool) → eqb (b / 128) 1 ≡ t
        → (upper_of (join_of (raise (split_of b))) ≡ upper_of b) × (join_of (raise (split_of b)) % 16 ≡ b % 16 + 1)
    go true e =
        let f : 128 + b / 16 % 8 % 8 * 16 ≡ b / 16 * 16 = omega (arith, eqb-true (b / 128) 1 e) in
        rw (e, next) (omega arith)
    go false e =
        let f : b / 16 % 8 % 8 ≡ b / 16 = omega (arith, eqb-false (b / 128) 1 e) in
        rw (e, f, next) (omega arith)

module _ (s : List ℕ) (v : Sound s) where
  abbrev front : List ℕ
  front = before_status s

  abbrev sent : ℕ
  sent = join_of (raise (split_of (status_of s)))

  front_long : length front ≡ length s - 2
  front_long = front_length s (omega (arith, v.low))

  long : length (raised_of s) ≡ length s
  long = raised_length s (omega (arith, v.low))

  raised_body : body_of (raised_of s) ≡ front ++ (sent ∷ [])
  raised_body = body_more (front ++ (sent ∷ [])) _

  raised_status : status_of (raised_of s) ≡ sent
  raised_status = rw raised_body (last_more front sent)

  raised_front : before_status (raised_of s) ≡ front
  raised_front = rw raised_body (body_more front sent)

  -- every byte before STATUS is the same
  raised_at_same : (k : ℕ) → k < length s - 2 → get_or (raised_of s) k 0 ≡ get_or s k 0
  raised_at_same k h =
      rw (append_assoc front (sent ∷ []))
      (get_or-append front _ 0 k (omega (arith, front_long))
      ∙ rw (front_at s (omega (arith, v.low))) (get_or-take (length s - 2) s k 0 h))

  raised_valid : check_of (raised_of s) ≡ 0
  raised_valid = go (is_addressed s) refl
    where
      go : (b : Bool) → is_addressed s ≡ b → check_of (raised_of s) ≡ 0
      go true e =
          let n = long in
          let f = raised_at_same 0 (omega (arith, v.low)) in
          let g = raised_at_same 1 (omega (arith, v.low)) in
          let a = v.inner (eqb-true _ _ e) in
          sym (check-addressed (raised_of s) (omega (arith, v.low)) (omega (arith, v.high))
          (sealed_hashed (front ++ (sent ∷ []))) (f ∙ eqb-true _ _ e)
          (omega (arith, a.0)) (λ h. a.1 (sym g ∙ h)))
      go false e =
          let n = long in
          let f = raised_at_same 0 (omega (arith, v.low)) in
          sym (check-plain (raised_of s) (omega (arith, v.low)) (omega (arith, v.high))
          (sealed_hashed (front ++ (sent ∷ []))) (λ h. eqb-false _ _ e (sym f ∙ h)))

  pub raised_from : status_of s < 256 → level_of s ≤ 1 → RaisedFrom s (raised_of s)
  unfolding is_same
  raised_from byte low =
      let r = raised_byte (status_of s) byte low in
      record {
        valid = raised_valid;
        long = long;
        same =
            rw (
              raised_front,
              raised_status,
              long,
              r.0,
              eq-eqb (length s) (length s) refl,
              eq-eqb (upper_of (status_of s)) _ refl,
            )
            (equal-refl front);
        level = rw raised_status r.1;
      }
