-- `collector_burst::take_record` meets its contract: the bytes handed over are answered like the record.
use Rattle.std.proofs.Common.{◌≡◌, true, ℕ, length, ap, ◌∙◌, rules}
use Rattle.base_buffers.specs.Buffer.{part}
use Rattle.radio_telegram.proofs.Frames.{frame-written}
use Rattle.collector_state.specs.Collector.{columns_lent, view_in}
use Rattle.collector_state.specs.Admission.{columns_admitted}
use Rattle.collector_burst.specs.Private.{admitted_with}
use Rattle.collector_burst.proofs.Records.{sent_with, handed, handed_columns}
use Rattle.collector_burst.proofs.take_record.Goals as goal

pub returns-clause-steps : goal.returns-clause-steps
returns-clause-steps c =
    let x = c.args in
    let full : length x.reception.bytes ≡ 21 = search rules in
    let a = columns_lent x.state.now in
    let n = c.size-n.ensures.0 in
    record {
      said =
          sent_with x.setting true _ _ _ _ c.admit-answer.ensures.admits.outcome
          (frame-written _ c.relay_kept-len.ensures)
          ∙ ap (λ (n : ℕ). admitted_with x.setting true (view_in a x.state.now.summary)
          (record { bytes = part 0 n x.reception.bytes; time = x.reception.time }))
          n
          ∙ handed x.setting true _ x.reception full;
      timely = search rules;
      elements =
          c.admit-answer.ensures.admits.elements
          ∙ ap (λ (n : ℕ). columns_admitted true (view_in a x.state.now.summary)
          (record { bytes = part 0 n x.reception.bytes; time = x.reception.time }) a)
          n
          ∙ handed_columns x.setting true _ x.reception full a;
    }
