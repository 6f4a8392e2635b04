-- `text_lines::parse_time` meets its contract: thirteen digits that are read at once say what they say one after the other.
use mathlib.Core.Path.{sym}
use Rattle.text_lines.proofs.AtOnce.{timed_thirteen}
use borrow.Author.Rules.{rules}
use Rattle.text_lines.proofs.parse_time.Goals as goal

pub has_thirteen-requires : goal.has_thirteen-requires
has_thirteen-requires c = search rules

pub thirteen-requires : goal.thirteen-requires
thirteen-requires c = c.has_thirteen.ensures c.if-has_thirteen.true

pub returns-then-has_thirteen : goal.returns-then-has_thirteen
returns-then-has_thirteen c =
    rw c.thirteen.ensures (sym (timed_thirteen (c.has_thirteen.ensures c.if-has_thirteen.true)))

pub read_time-requires : goal.read_time-requires
read_time-requires c = search rules

pub returns : goal.returns
returns c = search rules
