-- `history_log::put_state` meets its contract: each part of the state is that of the text that was taken.
use mathlib.Core.Path.{ap, ◌∙◌}
use native.Mathlib.Omega.{arith}
use Rattle.journal_state.specs.State.{Kept}
use Rattle.journal_state.specs.Calls.{Written, write_of}
use Rattle.history_log.proofs.Noting.{text-within, lines_are, note_made}
use Rattle.history_log.proofs.put_state.Goals as goal

-- ---- the needs
pub slice_bounds-count_lines-end : goal.slice_bounds-count_lines-end
slice_bounds-count_lines-end c = omega (arith, c.taken-text.ensures, text-within c.args.log.now)

pub slice_bounds-block_of-end : goal.slice_bounds-block_of-end
slice_bounds-block_of-end c =
    omega (arith, c.taken-text.ensures, text-within c.args.log.now)

pub returns : goal.returns
returns c =
    let a = c.args in
    let l = c.count_lines-lines.ensures in
    let made = note_made a.log.now c.taken-text.ensures l a.archive.now a.name.now a.image.now
    a.had a.rows c.least-kept.ensures c.block_of-tail.ensures c.name_field-field.ensures
    c.last_block-last.ensures c.numbers_of-numbers.ensures in
    record {
      lines = lines_are a.log.now c.taken-text.ensures l;
      bytes = ap (λ (w : Written). w.output) c.write-lawful.ensures
          ∙ ap (λ (k : Kept). (write_of k a.state.now).output) made;
    }
