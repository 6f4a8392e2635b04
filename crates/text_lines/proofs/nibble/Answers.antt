-- `text_lines::nibble` meets its contract: its three tests are those of `nibble_of`.
use mathlib.Core.Path.{◌≡◌}
use mathlib.Core.Bool.{true}
use Prim.Native.Nat.{ℕ, ◌+◌, ◌≤◌}
use native.Mathlib.Omega.{arith}
use borrow.Author.Tests.{leb-true}
use lib.Dec.{leb, ltb}
use Rattle.base_lists.proofs.Choice.{both}
use Rattle.text_lines.specs.Ascii.{is_among}
use Rattle.text_lines.specs.Hex.{nibble_of}
use Rattle.text_lines.proofs.nibble.Goals as goal

from : (first n c : ℕ) → is_among n first c ≡ true → first ≤ c
from first n c e = leb-true first c (both (leb first c) (ltb c (first + n)) e).0

pub overflow_sub-result : goal.overflow_sub-result
overflow_sub-result c = from 48 10 _ c.if-c.true

pub returns-then-c : goal.returns-then-c
unfolding nibble_of
returns-then-c c = rw c.if-c.true

pub overflow_sub-result-then-c-2 : goal.overflow_sub-result-then-c-2
overflow_sub-result-then-c-2 c = omega (arith, from 65 6 c.args.c c.if-c-2.true)

pub returns-then-c-2 : goal.returns-then-c-2
unfolding nibble_of
returns-then-c-2 c =
    rw (c.if-c.false, c.if-c-2.true) (omega (arith, from 65 6 c.args.c c.if-c-2.true))

pub overflow_sub-result-then-c-3 : goal.overflow_sub-result-then-c-3
overflow_sub-result-then-c-3 c = omega (arith, from 97 6 c.args.c c.if-c-3.true)

pub returns-then-c-3 : goal.returns-then-c-3
unfolding nibble_of
returns-then-c-3 c =
    rw (c.if-c.false, c.if-c-2.false, c.if-c-3.true)
    (omega (arith, from 97 6 c.args.c c.if-c-3.true))

pub returns : goal.returns
unfolding nibble_of
returns c = rw (c.if-c.false, c.if-c-2.false, c.if-c-3.false)
