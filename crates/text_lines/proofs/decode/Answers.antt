-- `text_lines::decode` meets its contract: what is read at once, or else pair by pair.
use mathlib.Core.Path.{refl}
use Rattle.text_lines.proofs.decode.Goals as goal

pub decode_at_once-requires : goal.decode_at_once-requires
decode_at_once-requires c = (c.in-Some.ensures, refl)

pub returns : goal.returns
returns c = c.decode_at_once.ensures c.if-not-decode_at_once.false
