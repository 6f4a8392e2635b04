-- `collector_burst::check_call` meets its contract: each return is one outcome of the tests.
use Rattle.collector_burst.proofs.Planning.{call-short, call-refused, call-done}
use Rattle.collector_burst.proofs.check_call.Goals as goal

pub returns-then-places-receptions : goal.returns-then-places-receptions
returns-then-places-receptions c = call-short _ _ _ c.if-places-receptions.true

pub returns-then-receptions-setting : goal.returns-then-receptions-setting
returns-then-receptions-setting c = call-refused _ _ _ c.if-places-receptions.false c.if-receptions-setting.true

pub returns : goal.returns
returns c = call-done _ _ _ c.if-places-receptions.false c.if-receptions-setting.false
