-- A line says a reception exactly where it is a time, one space and bytes.
use mathlib.Core.Path.{◌≡◌, refl, sym, ap, ◌∙◌}
use mathlib.Core.Bool.{Bool, true, false, not, ◌&&◌, false≢true}
use mathlib.Core.List.{List, [], ◌∷◌, ◌++◌}
use Prim.Native.Nat.{ℕ, suc, ◌+◌, ◌^◌, ◌<◌}
use native.Mathlib.Omega.{arith}
use native.Mathlib.Nat.{zero-add}
use native.Mathlib.Numerals.{add-one}
use lib.Dec.{eqb, ltb}
use lib.ListN.{length, get_or, take, drop, length-append}
use lib.Seq.{split_at, take-append_seam, drop-append-add}
use borrow.Author.Tests.{eqb-true, ltb-true, lt-ltb, ne_eqb}
use Rattle.base_bytes.specs.Bytes.{index_of, index_after}
use Rattle.base_lists.specs.Lists.{all}
use Rattle.base_lists.proofs.Choice.{both, cond_yes}
use Rattle.text_lines.specs.Ascii.{space}
use Rattle.text_lines.specs.Decimal.{is_digit, decimal_of, has_leading_zero, is_number, is_time}
use Rattle.text_lines.specs.Hex.{hex_bytes, is_hex}
use Rattle.text_lines.specs.Reading.{reception, bad, line_reading}

-- ---- the first space

pub found_at : (b : ℕ) (l : List ℕ) → index_of b l < length l → get_or l (index_of b l) 0 ≡ b
unfolding index_of index_after
found_at b [] h = absurd (omega arith)
found_at b (x ∷ l) h = go (eqb x b) refl (found_at b l) h
  where
    go : (t : Bool) → eqb x b ≡ t → (index_of b l < length l → get_or l (index_of b l) 0 ≡ b)
        → index_after t (index_of b l) < suc (length l) → get_or (x ∷ l) (index_after t (index_of b l)) 0 ≡ b
    go true p ih h = eqb-true x b p
    go false p ih h = ih (omega arith)

-- behind characters that pass a test which b does not pass
pub index_past : (b : ℕ) (p : ℕ → Bool) → p b ≡ false → (s t : List ℕ)
    → all p s ≡ true → index_of b (s ++ t) ≡ length s + index_of b t
unfolding index_of index_after
index_past b p fails [] t a = sym (zero-add (index_of b t))
index_past b p fails (c ∷ s) t a =
    let w = both (p c) (all p s) a in
    let other : c ≡ b → ⊥ = λ e. false≢true (sym fails ∙ ap p (sym e) ∙ w.0) in
    rw (ne_eqb c b other, index_past b p fails s t w.1) (omega arith)

pub time-digits : (s : List ℕ) → is_time s ≡ true → all is_digit s ≡ true
unfolding is_time is_number
time-digits s e =
    let some = ltb 0 (length s) && not (has_leading_zero s) in
    let digits = all is_digit s in
    let small = ltb (decimal_of s) (2 ^ 64) in
    (both digits small (both some (digits && small) e).1).0

-- behind a time
pub space_behind : (s h : List ℕ) → is_time s ≡ true → index_of space (s ++ (space ∷ h)) ≡ length s
unfolding index_of index_after
space_behind s h e = index_past space is_digit refl s (space ∷ h) (time-digits s e) ∙ omega arith

-- ---- both ways

pub joined : (s h : List ℕ) → is_time s ≡ true → is_hex h ≡ true
    → line_reading (s ++ (space ∷ h)) ≡ reception (decimal_of s) (hex_bytes h)
unfolding line_reading
joined s h t x =
    let l = s ++ (space ∷ h) in
    let behind : drop (suc (length s)) l ≡ h = rw (sym (add-one (length s))) (drop-append-add s (space ∷ h) 1) in
    rw (
      space_behind s h t,
      lt-ltb (length s) (length l) (simp length-append (omega arith)),
      take-append_seam s (space ∷ h),
      behind,
      t,
      x,
    )

bad≢reception : {t : ℕ} {bs : List ℕ} → bad ≡ reception t bs → ⊥
bad≢reception e = let z : ◌≡◌ {A = ℕ} 0 1 = cc in omega arith

-- what a line is made of that says a reception
pub record Said (l : List ℕ) (time : ℕ) (bytes : List ℕ) : Type 0 where
  pub digits : List ℕ
  pub hex : List ℕ
  pub parts : l ≡ digits ++ (space ∷ hex)
  pub is_timely : is_time digits ≡ true
  pub is_right : is_hex hex ≡ true
  pub says_time : decimal_of digits ≡ time
  pub says_bytes : hex_bytes hex ≡ bytes

pub said : (l : List ℕ) {time : ℕ} {bytes : List ℕ} → line_reading l ≡ reception time bytes → Said l time bytes
unfolding line_reading
said l {time} {bytes} e =
    let k = index_of space l in
    let a = ltb k (length l) in
    let b = is_time (take k l) in
    let c = is_hex (drop (suc k) l) in
    let y = cond_yes (a && b && c) (λ z. bad≢reception z) e in
    let u = both (a && b) c y.0 in
    let v = both a b u.0 in
    let within : k < length l = ltb-true k (length l) v.0 in
    let same = y.1 in
    record {
      digits = take k l;
      hex = drop (suc k) l;
      parts = split_at l k 0 within ∙ rw (found_at space l within);
      is_timely = v.1;
      is_right = u.1;
      says_time = cc;
      says_bytes = cc;
    }
