-- `radio_erp1::same` meets its contract: each return is one case of `is_same`.
use Rattle.std.proofs.Common.{◌∙◌, arith}
use Rattle.radio_erp1.proofs.Sames.{other_length, only_hash, other_upper, by_front}
use Rattle.radio_erp1.proofs.same.Goals as goal

pub returns-then-n-b : goal.returns-then-n-b
returns-then-n-b c = other_length _ _ (omega arith)

pub returns-then-n-lt2 : goal.returns-then-n-lt2
returns-then-n-lt2 c = only_hash _ _ (omega arith) (omega arith)

pub returns-then-upper : goal.returns-then-upper
returns-then-upper c = other_upper _ _ (omega arith) (omega arith) (omega arith)

pub returns : goal.returns
returns c = c.agree.ensures ∙ by_front _ _ (omega arith) (omega arith) (omega arith)
