-- `block_layout::put_bytes` meets its contract: the bytes that fit, and zeros after them.
use Rattle.std.proofs.Common.{◌≡◌, ℕ, ◌-◌, min, List, [], ◌++◌, length, take, drop, replicate, arith, ◌∙◌, sym, ap, append-nil, length-take, length-drop, length-append}
use native.Mathlib.Nat.{sub_self, le_refl}
use native.Mathlib.Decide.{dec_lt}
use borrow.Rule.Slice.PartMut.{put_mid}
use lib.ListN.{drop_of_length-le}
use lib.Seq.{take_all, take-append_seam, drop-append_seam}
use Rattle.base_buffers.specs.Buffer.{resized}
use Rattle.base_buffers.proofs.Buffer.{resized-padded, resized_cut}
use Rattle.block_layout.proofs.put_bytes.Goals as goal

-- the bytes that fit, and zeros after them
resized_parts : (n : ℕ) (xs : List ℕ)
    → resized n xs ≡ take (min (length xs) n) xs ++ replicate (n - min (length xs) n) 0
resized_parts n xs = elim (dec_lt n (length xs)) [
  | yes h ↦
      (let e : min (length xs) n ≡ n = omega arith in
      rw (e, sub_self) (resized_cut n xs (omega arith) ∙ sym (append-nil (take n xs))))
  | no h ↦
      (let e : min (length xs) n ≡ length xs = omega arith in
      rw (e, take_all (length xs) xs (omega arith)) (resized-padded n xs (omega arith)))
]

-- a list with its rest written over
seam : (front rest back : List ℕ)
    → put_mid (length front) (length (front ++ rest) - length front) (front ++ rest) back ≡ front ++ back
seam front rest back =
    let e : length (front ++ rest) - length front ≡ length rest = rw length-append (omega arith) in
    let none : drop (length rest) rest ≡ [] = drop_of_length-le rest (le_refl (length rest)) in
    rw (e, take-append_seam front rest, drop-append_seam front rest, none)
    (ap (λ (l : List ℕ). front ++ l) (append-nil back))

module _ (n : ℕ) (xs out front : List ℕ) (is : n ≡ min (length xs) (length out))
    (copied : front ≡ take n xs) where
  long : length front ≡ n
  long = rw copied (rw length-take (omega arith))

  size : length (take (length (front ++ drop n out) - n) (drop n (front ++ drop n out))) ≡ length out - n
  size = simp (length-take, length-drop, length-append, long) (omega (arith, is))

  put : (back : List ℕ) → back ≡ replicate (length out - n) 0
      → put_mid n (length (front ++ drop n out) - n) (front ++ drop n out) back ≡ resized (length out) xs
  put back filled =
      let parts : resized (length out) xs ≡ take n xs ++ replicate (length out - n) 0 =
      rw is (resized_parts (length out) xs) in
      ap (λ (m : ℕ). put_mid m (length (front ++ drop n out) - m) (front ++ drop n out) back) (sym long)
      ∙ seam front (drop n out) back ∙ rw (copied, filled) (sym parts)

pub returns : goal.returns
returns c =
    let a = c.args in
    let n = c.min-n.ensures in
    let front = c.copy_from_slice.ensures.after in
    put _ a.bytes.now a.out.now c.copy_from_slice.new.self n front c.fill.new.self
    (c.fill.ensures.after (λ y e. e)
    ∙ ap (λ (k : ℕ). replicate k 0) (size _ a.bytes.now a.out.now c.copy_from_slice.new.self n front))
