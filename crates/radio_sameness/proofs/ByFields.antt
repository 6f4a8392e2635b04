-- The sameness rule by fields is document 01's. Where all before STATUS is equal, the fields are, but for STATUS; and fields that are equal
-- are written as the same bytes before STATUS.
use mathlib.Core.Path.{◌≡◌, refl, sym, ap, subst, ◌∙◌}
use Rattle.std.specs.Prelude.{Option, Some, None}
use mathlib.Core.Bool.{Bool, true, false, cond, and-true, and-false, false≢true}
use mathlib.Core.List.{List, [], ◌∷◌, ◌++◌}
use Prim.Native.Nat.{ℕ, ◌+◌}
use native.Mathlib.Omega.{arith}
use lib.Dec.{T, eqb}
use lib.ListN.{length, length-append}
use borrow.Author.Tests.{eq-eqb, eqb-true}
use Rattle.base_lists.specs.Lists.{equal}
use Rattle.base_lists.proofs.Choice.{both}
use Rattle.base_lists.proofs.Equal.{equal_eq, equal-refl}
use Rattle.base_lists.proofs.Tests.{by_test}
use Rattle.radio_erp1.specs.Status.{upper_of}
use Rattle.radio_erp1.specs.Subtelegram.{hash_of, body_of, status_of, sealed_of, is_addressed, before_status}
use Rattle.radio_erp1.specs.Same.{is_same}
use Rattle.radio_erp1.proofs.Checks.{Sound, check_facts}
use Rattle.radio_telegram.specs.declared.fields.Telegram.{Telegram}
use Rattle.radio_telegram.specs.Fields.{plain_fields, addressed_fields, fields_of, data_of, before_data, ids_of, telegram_bytes, is_unbuildable, Buildable, Shaped, normal_of}
use Rattle.radio_sameness.specs.Sameness.{is_same_destid, is_same_address, is_same_data, is_same_telegram, SameByFields}
use Rattle.radio_telegram.proofs.Parts.{body_more}
use Rattle.radio_telegram.proofs.Reading.{fields_fit}
use Rattle.radio_telegram.proofs.Building.{buildable_fields}
use Rattle.radio_telegram.proofs.RoundTrip.{built_reads, read_builds, read_shaped, normal_data}

-- ---- all before STATUS

-- as it is written
abbrev front_of : Telegram → List ℕ
front_of t = (before_data t ++ data_of t) ++ ids_of t

-- with STATUS
abbrev written_of : Telegram → List ℕ
written_of t = front_of t ++ (t.status ∷ [])

module _ (s : List ℕ) (v : Sound s) where
  front_fields : front_of (fields_of s) ≡ before_status s
  unfolding telegram_bytes
  front_fields =
      let t = fields_of s in
      sym (body_more (front_of t) t.status)
      ∙ ap body_of (sym (body_more (written_of t) (hash_of (written_of t))))
      ∙ ap (λ (l : List ℕ). before_status l) (read_builds s v)

  front_length : length (front_of (fields_of s)) + 2 ≡ length s
  unfolding telegram_bytes
  front_length =
      let t = fields_of s in
      let status = length-append (front_of t) (t.status ∷ []) in
      let whole : length (sealed_of (written_of t)) ≡ length (front_of t) + 2
      = length-append (written_of t) (hash_of (written_of t) ∷ []) ∙ omega (arith, status) in
      sym whole ∙ ap length (read_builds s v)

  rebuilt : sealed_of (before_status s ++ ((fields_of s).status ∷ [])) ≡ s
  unfolding telegram_bytes
  rebuilt = rw (← front_fields) (read_builds s v)

status_fields : (s : List ℕ) → (fields_of s).status ≡ status_of s
unfolding fields_of
status_fields s = go (is_addressed s)
  where
    go : (b : Bool) → (cond b (addressed_fields s) (plain_fields s)).status ≡ status_of s
    go true = refl
    go false = refl

-- ---- where it is equal, the fields are, but for STATUS

-- the same fields with another STATUS
abbrev with_status : Telegram → ℕ → Telegram
with_status t st = record {
  rorg = t.rorg;
  payload = t.payload;
  len = t.len;
  destid = t.destid;
  txid = t.txid;
  status = st;
}

same_destid : (o : Option (List ℕ)) → is_same_destid o o ≡ true
same_destid None = refl
same_destid (Some d) = equal-refl d

same_address : (t : Telegram) (st : ℕ) → is_same_address t (normal_of (with_status t st)) ≡ true
same_address t st = same_destid t.destid

module _ (a b : List ℕ) (va : Sound a) (vb : Sound b) (front : before_status a ≡ before_status b) where
  abbrev other : Telegram
  other = with_status (fields_of a) (fields_of b).status

  other-bytes : telegram_bytes other ≡ b
  unfolding telegram_bytes
  other-bytes = rw (front_fields a va, front) (rebuilt b vb)

  other_shaped : Shaped other
  other_shaped = let w = read_shaped a va in record { payload = w.payload; destid = w.destid; txid = w.txid }

  other_buildable : Buildable other
  unfolding is_unbuildable
  other_buildable = buildable_fields other (fields_fit a va) (rw other-bytes vb.high)

  fields_b : fields_of b ≡ normal_of other
  fields_b = ap fields_of (sym other-bytes) ∙ built_reads other other_shaped other_buildable

  by_upper : is_same_telegram (fields_of a) (fields_of b) ≡ eqb (upper_of (status_of a)) (upper_of (status_of b))
  unfolding is_same_telegram
  by_upper =
      ap (λ (t : Telegram). is_same_telegram (fields_of a) t) fields_b
      ∙ rw (
        equal-refl (fields_of a).txid,
        eq-eqb (fields_of a).rorg (fields_of a).rorg refl,
        same_address (fields_of a) (fields_of b).status,
        eq-eqb (fields_of a).len (fields_of a).len refl,
        normal_data other other_shaped other_buildable,
        equal-refl (data_of (fields_of a)),
        status_fields a,
        status_fields b,
      )

-- ---- fields that are equal are written as the same bytes before STATUS

equal_lists : {xs ys : List ℕ} → equal xs ys ≡ true → xs ≡ ys
equal_lists {xs} {ys} e = equal_eq xs ys (subst T (sym e) tt)

module _ (t u : Telegram) (same : is_same_telegram t u ≡ true) where
  record Agreed : Type 0 where
    txid : t.txid ≡ u.txid
    rorg : t.rorg ≡ u.rorg
    address : is_same_address t u ≡ true
    payload : data_of t ≡ data_of u

  agreed : Agreed
  unfolding is_same_telegram
  agreed =
      let p = both (equal t.txid u.txid) _ same in
      let q = both (eqb t.rorg u.rorg) _ p.1 in
      let r = both (is_same_address t u) _ q.1 in
      let d = both (is_same_data t u) _ r.1 in
      record {
        txid = equal_lists p.0;
        rorg = eqb-true t.rorg u.rorg q.0;
        address = r.0;
        payload = equal_lists (both (eqb t.len u.len) (equal (data_of t) (data_of u)) d.0).1;
      }

  pub same_txid : t.txid ≡ u.txid
  same_txid = agreed.txid

  heads : (f g : Option (List ℕ)) → t.destid ≡ f → u.destid ≡ g → is_same_destid f g ≡ true → front_of t ≡ front_of u
  heads (Some d) (Some d') p q e =
      rw (p, q, agreed.payload, agreed.txid, equal_lists {xs = d} {ys = d'} e, agreed.rorg)
  heads (Some d) None p q e = absurd (false≢true e)
  heads None (Some d') p q e = absurd (false≢true e)
  heads None None p q e = rw (p, q, agreed.payload, agreed.txid, agreed.rorg)

  same_front : front_of t ≡ front_of u
  same_front = heads t.destid u.destid refl refl agreed.address

-- ---- the law

module _ (a b : List ℕ) (va : Sound a) (vb : Sound b) where
  agree : equal (before_status a) (before_status b) ≡ true → is_same a b ≡ is_same_telegram (fields_of a) (fields_of b)
  unfolding is_same
  agree e =
      let front = equal_lists e in
      let fronts = front_fields a va ∙ front ∙ sym (front_fields b vb) in
      let long : length a ≡ length b =
      sym (front_length a va) ∙ ap (λ (l : List ℕ). length l + 2) fronts ∙ front_length b vb in
      rw (eq-eqb (length a) (length b) long, e, by_upper a b va vb front)
      (and-true (eqb (upper_of (status_of a)) (upper_of (status_of b))))

  differ : equal (before_status a) (before_status b) ≡ false
      → is_same a b ≡ is_same_telegram (fields_of a) (fields_of b)
  unfolding is_same
  differ e =
      rw (e, and-false (eqb (upper_of (status_of a)) (upper_of (status_of b))), and-false (eqb (length a) (length b)))
      (sym (go (is_same_telegram (fields_of a) (fields_of b)) refl))
    where
      go : (r : Bool) → is_same_telegram (fields_of a) (fields_of b) ≡ r → r ≡ false
      go true s =
          let front = sym (front_fields a va) ∙ same_front (fields_of a) (fields_of b) s ∙ front_fields b vb in
          sym (sym e ∙ ap (λ (l : List ℕ). equal l (before_status b)) front ∙ equal-refl (before_status b))
      go false s = refl

  same_fields : is_same a b ≡ is_same_telegram (fields_of a) (fields_of b)
  same_fields = by_test (equal (before_status a) (before_status b)) agree differ

pub same_by_fields : SameByFields
same_by_fields a b va vb = same_fields a b (check_facts a (eqb-true _ 0 va)) (check_facts b (eqb-true _ 0 vb))
