-- `radio_telegram::fields::head` meets its contract.
use native.Mathlib.Omega.{arith}
use mathlib.Core.List.{[]}
use Rattle.radio_telegram.proofs.Frames.{frame-len}
use Rattle.radio_telegram.proofs.fields.head.Goals as goal

pub push-requires : goal.push-requires
push-requires c = omega (arith, frame-len _ [] c.empty.ensures)

pub push-requires-in-Some : goal.push-requires-in-Some
push-requires-in-Some c = omega (arith, frame-len _ [] c.empty.ensures)

pub returns-in-Some : goal.returns-in-Some
returns-in-Some c = rw c.in-Some.is (c.push-in-Some.ensures.bytes _ (c.push.ensures.bytes [] c.empty.ensures))

pub push-requires-in-None : goal.push-requires-in-None
push-requires-in-None c = omega (arith, frame-len _ [] c.empty-in-None.ensures)

pub returns-in-None : goal.returns-in-None
returns-in-None c = rw c.in-None.is (c.push-in-None.ensures.bytes [] c.empty-in-None.ensures)
