-- Optional fields: there by a flag, and their numbers, which are 0 where there is none.
use mathlib.Core.Path.{◌≡◌, refl, ap}
use mathlib.Core.Bool.{Bool, true, false, cond, true≢false, false≢true}
use Prim.Native.Nat.{ℕ, ◌+◌, ◌*◌, ◌/◌, ◌%◌, ◌<◌}
use native.Mathlib.Omega.{arith}
use lib.Dec.{ltb}
use borrow.Author.Tests.{ltb-false, le-ltb}
use Rattle.std.specs.Prelude.{Option, Some, None, is_some, unwrap_or}
use Rattle.base_lists.proofs.Choice.{neither}
use Rattle.block_layout.specs.BigEndian.{be}
use Rattle.radio_erp2_model.specs.declared.Extension.{Extension}
use Rattle.radio_erp2_model.specs.Header.{extension_of, extension_byte, hops_of, announced_of}
use Rattle.radio_erp2_model.specs.Building.{differ, is_extension_over}

-- ---- by what `is_some` says

pub is_absent : {A : Type 0} (o : Option A) → is_some o ≡ false → o ≡ None
is_absent None e = refl
is_absent (Some a) e = absurd (true≢false e)

pub some_again : (o : Option ℕ) → is_some o ≡ true → Some (unwrap_or o 0) ≡ o
some_again (Some n) e = refl
some_again None e = absurd (false≢true e)

-- ---- there by a flag

pub agrees_there : (x : Bool) (n : ℕ) → differ (is_some (cond x (Some n) None)) x ≡ false
agrees_there true n = refl
agrees_there false n = refl

pub extension_agrees : (x : Bool) (b : ℕ) → differ (is_some (extension_of x b)) x ≡ false
extension_agrees true b = refl
extension_agrees false b = refl

pub number_below : (x : Bool) (n m : ℕ) → n < m → unwrap_or (cond x (Some n) None) 0 < m
number_below true n m h = h
number_below false n m h = omega arith

-- the bytes of a field that is there by a flag, and has no bytes without it
pub bytes_there : (x : Bool) (w k n : ℕ) → w ≡ cond x k 0 → be w (unwrap_or (cond x (Some n) None) 0) ≡ be w n
unfolding be
bytes_there true w k n e = refl
bytes_there false w k n e = rw e refl

-- ---- the extended header

pub extension_bytes_there : (x : Bool) (w b : ℕ) → w ≡ cond x 1 0
    → be w (extension_byte (extension_of x b)) ≡ be w b
unfolding be
extension_bytes_there true w b e =
    let back : b / 16 * 16 + b % 16 ≡ b = omega arith in
    ap (be w) back
extension_bytes_there false w b e = rw e refl

pub extension_bits : (o : Option Extension) → is_extension_over o ≡ false → (hops_of o < 16) × (announced_of o < 16)
extension_bits (Some e) h =
    let w = neither (ltb 15 e.hops) (ltb 15 e.announced) h in
    (omega (arith, ltb-false 15 e.hops w.0), omega (arith, ltb-false 15 e.announced w.1))
extension_bits None h = (omega arith, omega arith)

pub extension_lt : (o : Option Extension) → hops_of o < 16 → announced_of o < 16 → extension_byte o < 256
extension_lt (Some e) h k = omega arith
extension_lt None h k = omega arith

pub announced-back : (o : Option Extension) → announced_of o < 16 → extension_byte o % 16 ≡ announced_of o
announced-back (Some e) k = omega arith
announced-back None k = refl

pub extension-forth : (o : Option Extension) → is_some o ≡ true → announced_of o < 16
    → extension_of true (extension_byte o) ≡ o
extension-forth (Some e) s k =
    let p : (e.hops * 16 + e.announced) / 16 ≡ e.hops = omega arith in
    let q : (e.hops * 16 + e.announced) % 16 ≡ e.announced = omega arith in
    rw (p, q)
extension-forth None s k = absurd (false≢true s)

-- a byte of an extended header holds its values
pub extension_holds : (x : Bool) (b : ℕ) → b < 256 → is_extension_over (extension_of x b) ≡ false
extension_holds true b h =
    let r : ltb 15 (b / 16) ≡ false = le-ltb 15 (b / 16) (omega arith) in
    let t : ltb 15 (b % 16) ≡ false = le-ltb 15 (b % 16) (omega arith) in
    rw (r, t)
extension_holds false b h = refl
