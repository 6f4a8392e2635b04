-- `radio_erp1::check` meets its contract: each return is one case of `check_of`.
use Rattle.std.proofs.Common.{ap, ◌∙◌, arith, length-take}
use Rattle.base_refusal.specs.Number.{number_of}
use Rattle.radio_erp1.proofs.Checks.{check-short, check-long, check_hash, check-plain, check_cut, check_nested, check-addressed}
use Rattle.radio_erp1.proofs.check.Goals as goal

pub returns-then-n-lt-MIN_LEN : goal.returns-then-n-lt-MIN_LEN
returns-then-n-lt-MIN_LEN c = check-short _ (omega arith)

pub returns-then-n-gt-MAX_LEN : goal.returns-then-n-gt-MAX_LEN
returns-then-n-gt-MAX_LEN c = check-long _ (omega arith)

pub slice_bounds-hash-end : goal.slice_bounds-hash-end
slice_bounds-hash-end c = simp length-take (omega arith)

pub returns-then-bytes-last : goal.returns-then-bytes-last
returns-then-bytes-last c = ap number_of c.wrong_hash.ensures ∙ check_hash _ (omega arith) (omega arith) (omega arith)

pub returns-then-bytes : goal.returns-then-bytes
returns-then-bytes c = check-plain _ (omega arith) (omega arith) (omega arith) (omega arith)

pub returns-then-n-lt-MIN_ADDRESSED_LEN : goal.returns-then-n-lt-MIN_ADDRESSED_LEN
returns-then-n-lt-MIN_ADDRESSED_LEN c = check_cut _ (omega arith) (omega arith) (omega arith) (omega arith)
    (omega arith)

pub returns-then-bytes-2 : goal.returns-then-bytes-2
returns-then-bytes-2 c = check_nested _ (omega arith) (omega arith) (omega arith) (omega arith) (omega arith)
    (omega arith)

pub returns : goal.returns
returns c = check-addressed _ (omega arith) (omega arith) (omega arith) (omega arith) (omega arith) (omega arith)
