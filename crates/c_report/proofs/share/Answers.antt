-- `c_report::share` meets its contract: each arm is what `share_result` says of it, and beside a refusal the share stays.
use mathlib.Core.Path.{◌≡◌, ◌∙◌, ap, sym}
use Rattle.std.specs.Prelude.{ℕ, Result}
use Rattle.archive_report_model.specs.Report as model
use Rattle.archive_report.specs.Report.{share_result}
use Rattle.c_report.specs.Calls.{report_at, share_call}
use Rattle.c_report.proofs.Calls.{share_not}
use Rattle.c_report.proofs.share.Lts as lts
use Rattle.c_report.proofs.share.Reads as reads
use Rattle.c_report.proofs.share.Tie as tie
use Rattle.c_report.proofs.share.Goals as goal
use Rattle.base_refusal.specs.declared.Refusal.{Refusal}

-- states on the way
abbrev After-share : Type 0
After-share = lts.After-share tie.the-claims reads.Pre reads.Post

abbrev shown : After-share → model.Share → model.Share
shown c a = share_call a c.args.thousandths.now

-- what an answer of `share` shows
told : (c : After-share) (s : Result ℕ Refusal) → c.share.result ≡ s
    → shown c (share_result s)
    ≡ shown c
    (model.share_of (report_at c.args.numbers.now c.args.lines.now)
    c.args.received)
told c s e =
    ap (λ (x : Result ℕ Refusal). shown c (share_result x)) (sym e)
    ∙ ap (λ (a : model.Share). shown c a)
    (c.share.ensures
    ∙ ap (λ (r : model.Report). model.share_of r c.args.received) c.report_in.ensures.0)

pub returns-in-Ok : goal.returns-in-Ok
returns-in-Ok c = told c.before _ c.in-Ok.is

pub returns-in-Err : goal.returns-in-Err
returns-in-Err c =
    share_not c.in-Err.why c.number.result c.args.thousandths.now c.number.ensures
    ∙ told c.before.before _ c.in-Err.is
