-- `c_lines::first_line` meets its contract: no newline, or the line before the first one.
use Rattle.std.specs.Prelude.{Option, Some, None, unwrap_or}
use mathlib.Core.Path.{◌≡◌, refl}
use native.Mathlib.Omega.{arith}
use Prim.Native.Nat.{ℕ, ◌-◌}
use lib.ListN.{length, take}
use borrow.Author.Tests.{lt-ltb, le-ltb}
use Rattle.base_bytes.specs.Bytes.{index_of}
use Rattle.text_lines.specs.Ascii.{newline}
use Rattle.text_lines.specs.Reading.{setting_of}
use Rattle.text_program.proofs.Takes.{found}
use Rattle.c_lines.specs.Calls.{level_number}
use Rattle.c_lines.proofs.first_line.Goals as goal

level : (s : Option ℕ) → unwrap_or s 3 ≡ level_number s
level (Some n) = refl
level None = refl

pub returns-then-end-n : goal.returns-then-end-n
returns-then-end-n c =
    let input = c.args.input.now in
    let e = found input 0 c.find-n.ensures.0 in
    let none = le-ltb (index_of newline input) (length input) (omega (arith, c.if-end-n.true)) in
    (rw none, rw none)

pub returns : goal.returns
returns c =
    let input = c.args.input.now in
    let e = found input 0 c.find-n.ensures.0 in
    let k : c.find-n.result ≡ index_of newline input = omega arith in
    let z : c.find-n.result - 0 ≡ index_of newline input = omega arith in
    let inside = lt-ltb (index_of newline input) (length input) (omega arith) in
    let told = level (setting_of (take (index_of newline input) input)) in
    (rw (inside, c.unwrap_or.ensures, c.parse_setting.ensures, z) told, rw (inside, k))
