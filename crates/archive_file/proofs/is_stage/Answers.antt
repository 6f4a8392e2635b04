-- `archive_file::is_stage` meets its contract: each arm is what `is_stage` says of it.
use mathlib.Core.Path.{◌≡◌, ap, sym}
use native.Mathlib.Omega.{arith}
use Rattle.archive_model.specs.Append.{is_stage}
use Rattle.archive_file.specs.declared.Stage.{Stage}
use Rattle.archive_file.specs.Archive.{stage_of}
use Rattle.archive_file.proofs.is_stage.Lts as lts
use Rattle.archive_file.proofs.is_stage.Reads as reads
use Rattle.archive_file.proofs.is_stage.Goals as goal

-- states on the way
abbrev Start : Type 0
Start = lts.Start reads.Pre reads.Post

told : (c : Start) (s : Stage) → c.args.stage ≡ s
    → is_stage (stage_of s) c.args.blocks c.args.rows
    ≡ is_stage (stage_of c.args.stage) c.args.blocks c.args.rows
told c s e = ap (λ (x : Stage). is_stage (stage_of x) c.args.blocks c.args.rows) (sym e)

pub overflow_mul-most : goal.overflow_mul-most
overflow_mul-most c = omega (arith, c.requires)

pub overflow_add-result : goal.overflow_add-result
overflow_add-result c = omega (arith, c.requires)

pub overflow_add-result-in-Ended : goal.overflow_add-result-in-Ended
overflow_add-result-in-Ended c = omega (arith, c.requires)

pub returns-in-Filling : goal.returns-in-Filling
returns-in-Filling c = told c.before _ c.in-Filling.is

pub returns-in-Short : goal.returns-in-Short
returns-in-Short c = told c.before _ c.in-Short.is

pub returns-in-Ended : goal.returns-in-Ended
returns-in-Ended c = told c.before _ c.in-Ended.is

pub returns-in-Wrong : goal.returns-in-Wrong
returns-in-Wrong c = told c.before _ c.in-Wrong.is
