-- The layout of a subtelegram: a list made of its fields, and the fields as parts of a list.
use mathlib.Core.Path.{◌≡◌, refl, sym, ap, ◌∙◌}
use mathlib.Core.List.{List, [], ◌∷◌, ◌++◌, append_assoc}
use Prim.Native.Nat.{ℕ, ◌+◌, ◌-◌, ◌≤◌, ◌<◌}
use native.Mathlib.Omega.{arith}
use native.Mathlib.Nat.{add-sub_of_le}
use native.Mathlib.Numerals.{add-one}
use lib.ListN.{length, get_or, take, length-append}
use lib.Seq.{take_at, drop_at, get_or_at, take-add, take-suc}
use Rattle.radio_erp1.specs.Subtelegram.{hash_of, body_of, last_byte, sealed_of}
use Rattle.radio_telegram.specs.Fields.{between}

-- ---- a list's parts, put together
pub take_part : (a b : ℕ) (s : List ℕ) → a ≤ b → take a s ++ between a b s ≡ take b s
take_part a b s h = sym (take-add a (b - a) s) ∙ ap (λ (n : ℕ). take n s) (add-sub_of_le h)

pub take_next : (a b : ℕ) (s : List ℕ) → a + 1 ≡ b → a < length s → take a s ++ (get_or s a 0 ∷ []) ≡ take b s
take_next a b s e h = sym (take-suc s a 0 h) ∙ ap (λ (n : ℕ). take n s) (sym (add-one a) ∙ e)

-- ---- a part of a list that is put together
part_at : (p m q s : List ℕ) (a b : ℕ) → s ≡ p ++ (m ++ q) → length p ≡ a → a + length m ≡ b → between a b s ≡ m
part_at p m q s a b e h k = rw (e, drop_at p (m ++ q) a h) (take_at m q (b - a) (omega arith))

-- ---- a list with one element more, and so a sealed one, which has the right HASH
pub last_more : (xs : List ℕ) (x : ℕ) → last_byte (xs ++ (x ∷ [])) ≡ x
last_more xs x = get_or_at xs x [] 0 _ (simp length-append (omega arith))

pub body_more : (xs : List ℕ) (x : ℕ) → body_of (xs ++ (x ∷ [])) ≡ xs
body_more xs x = take_at xs (x ∷ []) (length (xs ++ (x ∷ [])) - 1) (simp length-append (omega arith))

pub sealed_hashed : (body : List ℕ) → last_byte (sealed_of body) ≡ hash_of (body_of (sealed_of body))
sealed_hashed body = last_more body (hash_of body) ∙ ap hash_of (sym (body_more body (hash_of body)))

-- ---- the layout: what stands before DATA, DATA, DESTID or nothing, TXID, STATUS, HASH
module _ (H D E X : List ℕ) (st : ℕ) where
  abbrev pub body_laid : List ℕ
  body_laid = ((H ++ D) ++ (E ++ X)) ++ (st ∷ [])

  unfoldable pub laid : List ℕ
  laid = sealed_of body_laid

  pub laid_length : length laid ≡ length H + length D + length E + length X + 2
  unfolding laid
  laid_length = simp length-append (omega arith)

  pub laid_data : (a b : ℕ) → length H ≡ a → a + length D ≡ b → between a b laid ≡ D
  unfolding laid
  laid_data a b e k = part_at H D ((E ++ X) ++ (st ∷ hash_of body_laid ∷ [])) laid a b (simp append_assoc) e k

  pub laid_destid : (a b : ℕ) → length H + length D ≡ a → a + length E ≡ b → between a b laid ≡ E
  unfolding laid
  laid_destid a b e k =
      part_at (H ++ D) E (X ++ (st ∷ hash_of body_laid ∷ [])) laid a b (simp append_assoc) (length-append H D ∙ e) k

  pub laid_txid : (a b : ℕ) → length H + length D + length E ≡ a → a + length X ≡ b → between a b laid ≡ X
  unfolding laid
  laid_txid a b e k =
      part_at ((H ++ D) ++ E) X (st ∷ hash_of body_laid ∷ []) laid a b (simp append_assoc) (simp length-append e) k

  pub laid_status : (n : ℕ) → length H + length D + length E + length X ≡ n → get_or laid n 0 ≡ st
  unfolding laid
  laid_status n e =
      rw (append_assoc ((H ++ D) ++ (E ++ X)) (st ∷ []) (hash_of body_laid ∷ []))
      (get_or_at ((H ++ D) ++ (E ++ X)) st (hash_of body_laid ∷ []) 0 n (simp length-append (omega arith)))

  pub laid_hashed : last_byte laid ≡ hash_of (body_of laid)
  unfolding laid
  laid_hashed = sealed_hashed body_laid

-- the first bytes
pub laid_first : (b : ℕ) (H D E X : List ℕ) (st : ℕ) → get_or (laid (b ∷ H) D E X st) 0 0 ≡ b
unfolding laid
laid_first b H D E X st = refl

pub laid_second : (b c : ℕ) (H D E X : List ℕ) (st : ℕ) → get_or (laid (b ∷ c ∷ H) D E X st) 1 0 ≡ c
unfolding laid
laid_second b c H D E X st = refl
