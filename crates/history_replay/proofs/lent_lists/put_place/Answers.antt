-- `history_replay::lent_lists::put_place` meets its contract.
use mathlib.Core.Path.{◌∙◌}
use Rattle.history_replay.proofs.Lent.{place_cell}
use Rattle.history_replay.proofs.lent_lists.put_place.Goals as goal

pub returns : goal.returns
returns c =
    c.put_reply.ensures
    ∙ place_cell c.args.place.now c.requires.1 _ _ _ c.form_with-form.ensures
    c.usize_of_byte.ensures.0 c.put_bytes.ensures
