-- What is built is valid and reads back, what is read builds the same bytes, and an address is put on and taken off.
use mathlib.Core.Path.{◌≡◌, refl, sym, ap, ◌∙◌}
use Rattle.std.specs.Prelude.{Option, Some, None, is_some}
use mathlib.Core.Bool.{Bool, true, false, true≢false, false≢true}
use mathlib.Core.List.{List, [], ◌∷◌, ◌++◌, append_assoc}
use Prim.Native.Nat.{ℕ, ◌-◌, ◌≤◌}
use native.Mathlib.Omega.{arith}
use lib.ListN.{length, get_or, take, drop, length-append, length-drop, length-replicate}
use lib.Seq.{take_at, take_all, length-take-le}
use borrow.Author.Tests.{eqb-true, eqb-false}
use Rattle.base_lists.specs.Lists.{padded}
use Rattle.radio_erp1.specs.Subtelegram.{addressed, body_of, last_byte, status_of, is_addressed, check_of, sealed_of}
use Rattle.radio_erp1.proofs.Checks.{Sound, check-plain, check-addressed, status_at}
use Rattle.radio_telegram.specs.declared.fields.Telegram.{Telegram}
use Rattle.radio_telegram.specs.Fields.{max_data, between, plain_fields, addressed_fields, fields_of, destid_of, data_of, telegram_bytes, Buildable, Shaped, normal_of}
use Rattle.radio_telegram.specs.Addressing.{addressed_to, unaddressed, encapsulated, decapsulated}
use Rattle.radio_telegram.proofs.Reading.{fields-plain, fields-addressed, fields_flag}
use Rattle.radio_telegram.proofs.Building.{data_length, bytes-addressed}
use Rattle.radio_telegram.proofs.Parts.{take_part, take_next, laid, laid_length, laid_data, laid_destid, laid_txid, laid_status, laid_hashed, laid_first, laid_second}

-- ---- laid bytes: their check and their fields
module _ (rorg : ℕ) (D X : List ℕ) (st : ℕ) (low : 1 ≤ length D) (x : length X ≡ 4) (inner : rorg ≡ addressed → ⊥) where
  abbrev plain_laid : List ℕ
  plain_laid = laid (rorg ∷ []) D [] X st

  plain-valid : length D ≤ max_data → 0 ≡ check_of plain_laid
  plain-valid high =
      let n = laid_length (rorg ∷ []) D [] X st in
      let r = laid_first rorg [] D [] X st in
      check-plain plain_laid (omega arith) (omega arith) (laid_hashed (rorg ∷ []) D [] X st) (λ e. inner (sym r ∙ e))

  plain-fields : fields_of plain_laid
      ≡ record {
        rorg = rorg;
        payload = padded max_data D;
        len = length D;
        destid = None;
        txid = X;
        status = st;
      }
  plain-fields =
      let s = plain_laid in
      let n = laid_length (rorg ∷ []) D [] X st in
      let r = laid_first rorg [] D [] X st in
      let f = fields-plain s (λ e. inner (sym r ∙ e)) in
      let l : length s - 7 ≡ length D = omega arith in
      let d = laid_data (rorg ∷ []) D [] X st 1 (length s - 6) refl (omega arith) in
      let i = laid_txid (rorg ∷ []) D [] X st (length s - 6) (length s - 2) (omega arith) (omega arith) in
      let t = status_at s (omega arith) ∙ laid_status (rorg ∷ []) D [] X st (length s - 2) (omega arith) in
      cc

module _ (rorg : ℕ) (D E X : List ℕ) (st : ℕ) (low : 1 ≤ length D)
    (y : length E ≡ 4) (x : length X ≡ 4) (inner : rorg ≡ addressed → ⊥) where
  abbrev addressed_laid : List ℕ
  addressed_laid = laid (addressed ∷ rorg ∷ []) D E X st

  addressed-valid : length D ≤ 9 → 0 ≡ check_of addressed_laid
  addressed-valid high =
      let n = laid_length (addressed ∷ rorg ∷ []) D E X st in
      let r = laid_second addressed rorg [] D E X st in
      check-addressed addressed_laid (omega arith) (omega arith) (laid_hashed (addressed ∷ rorg ∷ []) D E X st)
      (laid_first addressed (rorg ∷ []) D E X st) (omega arith) (λ e. inner (sym r ∙ e))

  addressed-fields : fields_of addressed_laid
      ≡ record {
        rorg = rorg;
        payload = padded max_data D;
        len = length D;
        destid = Some E;
        txid = X;
        status = st;
      }
  addressed-fields =
      let s = addressed_laid in
      let n = laid_length (addressed ∷ rorg ∷ []) D E X st in
      let r = laid_second addressed rorg [] D E X st in
      let f = fields-addressed s (laid_first addressed (rorg ∷ []) D E X st) in
      let l : length s - 12 ≡ length D = omega arith in
      let d = laid_data (addressed ∷ rorg ∷ []) D E X st 2 (length s - 10) refl (omega arith) in
      let v = laid_destid (addressed ∷ rorg ∷ []) D E X st (length s - 10) (length s - 6) (omega arith) (omega arith) in
      let i = laid_txid (addressed ∷ rorg ∷ []) D E X st (length s - 6) (length s - 2) (omega arith) (omega arith) in
      let t = status_at s (omega arith) ∙ laid_status (addressed ∷ rorg ∷ []) D E X st (length s - 2) (omega arith) in
      cc

-- ---- built, then read

module _ (t : Telegram) (shape : Shaped t) (a : Buildable t) where
  long : length (data_of t) ≡ t.len
  long = data_length t shape a.high

  laid_plain : t.destid ≡ None → telegram_bytes t ≡ laid (t.rorg ∷ []) (data_of t) [] t.txid t.status
  unfolding telegram_bytes laid
  laid_plain e = rw e

  laid_addressed : (d : List ℕ) → t.destid ≡ Some d
      → telegram_bytes t ≡ laid (addressed ∷ t.rorg ∷ []) (data_of t) d t.txid t.status
  unfolding telegram_bytes laid
  laid_addressed d e = rw e

  -- what is built is valid
  pub built_valid : check_of (telegram_bytes t) ≡ 0
  built_valid = go t.destid refl
    where
      go : (o : Option (List ℕ)) → t.destid ≡ o → check_of (telegram_bytes t) ≡ 0
      go None e =
          rw (laid_plain e)
          (sym (plain-valid t.rorg (data_of t) t.txid t.status (omega (arith, long, a.low))
          shape.txid a.inner (omega (arith, long, a.high))))
      go (Some d) e =
          rw (laid_addressed d e)
          (sym (addressed-valid t.rorg (data_of t) d t.txid t.status
          (omega (arith, long, a.low)) (rw e at shape.destid) shape.txid a.inner
          (omega (arith, long, a.fits, bytes-addressed t shape a.high (rw e)))))

  -- and reads back
  pub built_reads : fields_of (telegram_bytes t) ≡ normal_of t
  built_reads = go t.destid refl
    where
      go : (o : Option (List ℕ)) → t.destid ≡ o → fields_of (telegram_bytes t) ≡ normal_of t
      go None e =
          rw (
            laid_plain e,
            plain-fields t.rorg (data_of t) t.txid t.status
                (omega (arith, long, a.low)) shape.txid a.inner,
            long,
            e,
          )
          refl
      go (Some d) e =
          rw (
            laid_addressed d e,
            addressed-fields t.rorg (data_of t) d t.txid t.status
                (omega (arith, long, a.low)) (rw e at shape.destid) shape.txid a.inner,
            long,
            e,
          )
          refl

-- ---- read, then built
padded-length : (m : ℕ) (xs : List ℕ) → length xs ≤ m → length (padded m xs) ≡ m
padded-length m xs h = simp (length-append, length-replicate) (omega arith)

part_length : (p q : ℕ) (s : List ℕ) → p ≤ q → q ≤ length s → length (between p q s) ≡ q - p
part_length p q s h k = length-take-le (q - p) (drop p s) (simp length-drop (omega arith))

data_is : (p q n : ℕ) (s : List ℕ) → n ≡ q - p → p ≤ q → q ≤ length s
    → take n (padded max_data (between p q s)) ≡ between p q s
data_is p q n s e h k = take_at (between p q s) _ n (part_length p q s h k ∙ sym e)

module _ (s : List ℕ) (v : Sound s) where
  -- all bytes but the last, and the last
  whole : body_of s ++ (last_byte s ∷ []) ≡ s
  whole =
      take_next (length s - 1) (length s) s (omega (arith, v.low)) (omega (arith, v.low))
      ∙ take_all (length s) s (omega arith)

  body_is : (body : List ℕ) → body ≡ body_of s → sealed_of body ≡ s
  body_is body e = rw (e, ← v.hashed) whole

  -- the last fields: from TXID on
  tail_is : (front : List ℕ) → front ≡ take (length s - 6) s
      → (front ++ between (length s - 6) (length s - 2) s) ++ (status_of s ∷ []) ≡ body_of s
  tail_is front e =
      rw (e, take_part (length s - 6) (length s - 2) s (omega arith), status_at s (omega (arith, v.low)))
      (take_next (length s - 2) (length s - 1) s (omega (arith, v.low)) (omega (arith, v.low)))

  one : get_or s 0 0 ∷ [] ≡ take 1 s
  one = take_next 0 1 s refl (omega (arith, v.low))

  two : get_or s 0 0 ∷ get_or s 1 0 ∷ [] ≡ take 2 s
  two = ap (λ (l : List ℕ). l ++ (get_or s 1 0 ∷ [])) one ∙ take_next 1 2 s refl (omega (arith, v.low))

  -- all before TXID: the head, and DATA
  plain_front : (get_or s 0 0 ∷ []) ++ data_of (plain_fields s) ≡ take (length s - 6) s
  plain_front =
      rw (data_is 1 (length s - 6) (length s - 7) s (omega arith) (omega (arith, v.low)) (omega arith))
      (ap (λ (l : List ℕ). l ++ between 1 (length s - 6) s) one ∙ take_part 1 (length s - 6) s (omega (arith, v.low)))

  plain-bytes : telegram_bytes (plain_fields s) ≡ s
  unfolding telegram_bytes
  plain-bytes = body_is _ (tail_is _ plain_front)

  module _ (first : get_or s 0 0 ≡ addressed) where
    -- the head, DATA and DESTID
    addressed_front : ((addressed ∷ get_or s 1 0 ∷ []) ++ data_of (addressed_fields s))
        ++ between (length s - 10) (length s - 6) s
        ≡ take (length s - 6) s
    addressed_front =
        let l = (v.inner first).0 in
        rw (data_is 2 (length s - 10) (length s - 12) s (omega arith) (omega arith) (omega arith))
        (ap (λ (l : List ℕ). (l ++ between 2 (length s - 10) s) ++ between (length s - 10) (length s - 6) s)
        (rw first at two)
        ∙ ap (λ (l : List ℕ). l ++ between (length s - 10) (length s - 6) s)
        (take_part 2 (length s - 10) s (omega arith))
        ∙ take_part (length s - 10) (length s - 6) s (omega arith))

    addressed-bytes : telegram_bytes (addressed_fields s) ≡ s
    unfolding telegram_bytes
    addressed-bytes =
        body_is _
        (ap (λ (l : List ℕ). l ++ (status_of s ∷ []))
        (sym (append_assoc ((addressed ∷ get_or s 1 0 ∷ []) ++ data_of (addressed_fields s))
        (between (length s - 10) (length s - 6) s) (between (length s - 6) (length s - 2) s)))
        ∙ tail_is _ addressed_front)

  -- what is read builds the same bytes
  pub read_builds : telegram_bytes (fields_of s) ≡ s
  read_builds = go (is_addressed s) refl
    where
      go : (b : Bool) → is_addressed s ≡ b → telegram_bytes (fields_of s) ≡ s
      go true e = rw (← fields-addressed s (eqb-true _ _ e)) (addressed-bytes (eqb-true _ _ e))
      go false e = rw (← fields-plain s (eqb-false _ _ e)) plain-bytes

  -- and has the lengths of its type
  pub read_shaped : Shaped (fields_of s)
  read_shaped = go (is_addressed s) refl
    where
      go : (b : Bool) → is_addressed s ≡ b → Shaped (fields_of s)
      go true e =
          let l = (v.inner (eqb-true _ _ e)).0 in
          rw (← fields-addressed s (eqb-true _ _ e)) (record {
            payload =
                padded-length max_data (between 2 (length s - 10) s)
                (rw (part_length 2 (length s - 10) s (omega arith) (omega arith)) (omega (arith, v.high)));
            destid = part_length (length s - 10) (length s - 6) s (omega arith) (omega arith) ∙ omega arith;
            txid = part_length (length s - 6) (length s - 2) s (omega arith) (omega arith) ∙ omega arith;
          })
      go false e =
          let l = v.low in
          rw (← fields-plain s (eqb-false _ _ e)) (record {
            payload =
                padded-length max_data (between 1 (length s - 6) s)
                (rw (part_length 1 (length s - 6) s (omega arith) (omega arith)) (omega (arith, v.high)));
            destid = tt;
            txid = part_length (length s - 6) (length s - 2) s (omega arith) (omega arith) ∙ omega arith;
          })

-- ---- the address of what was built, put on and taken off

module _ (t : Telegram) where
  unaddressed_same : is_some t.destid ≡ false → telegram_bytes (unaddressed t) ≡ telegram_bytes t
  unfolding telegram_bytes
  unaddressed_same e = go t.destid refl e
    where
      go : (o : Option (List ℕ)) → t.destid ≡ o → is_some o ≡ false
          → telegram_bytes (unaddressed t) ≡ telegram_bytes t
      go None p q = rw p
      go (Some d) p q = absurd (true≢false q)

  addressed_same : is_some t.destid ≡ true → telegram_bytes (addressed_to t (destid_of t)) ≡ telegram_bytes t
  unfolding telegram_bytes
  addressed_same e = go t.destid refl e
    where
      go : (o : Option (List ℕ)) → t.destid ≡ o → is_some o ≡ true
          → telegram_bytes (addressed_to t (destid_of t)) ≡ telegram_bytes t
      go None p q = absurd (false≢true q)
      go (Some d) p q = rw p

  module _ (shape : Shaped t) (a : Buildable t) where
    pub built_flag : is_addressed (telegram_bytes t) ≡ is_some t.destid
    built_flag = sym (fields_flag (telegram_bytes t)) ∙ ap (λ (u : Telegram). is_some u.destid) (built_reads t shape a)

    pub normal_data : data_of (normal_of t) ≡ data_of t
    normal_data = take_at (data_of t) _ t.len (data_length t shape a.high)

    pub built_decapsulated : decapsulated (telegram_bytes t) ≡ telegram_bytes (unaddressed t)
    unfolding telegram_bytes
    built_decapsulated = ap (λ (u : Telegram). telegram_bytes (unaddressed u)) (built_reads t shape a) ∙ rw normal_data

    pub built_encapsulated : (to : List ℕ) → encapsulated (telegram_bytes t) to ≡ telegram_bytes (addressed_to t to)
    unfolding telegram_bytes
    built_encapsulated to =
        ap (λ (u : Telegram). telegram_bytes (addressed_to u to)) (built_reads t shape a) ∙ rw normal_data

-- a subtelegram with its own address, or none, is itself
module _ (s : List ℕ) (v : Sound s) where
  pub plain_itself : is_addressed s ≡ false → decapsulated s ≡ s
  plain_itself e = unaddressed_same (fields_of s) (fields_flag s ∙ e) ∙ read_builds s v

  pub addressed_itself : is_addressed s ≡ true → encapsulated s (destid_of (fields_of s)) ≡ s
  addressed_itself e = addressed_same (fields_of s) (fields_flag s ∙ e) ∙ read_builds s v
