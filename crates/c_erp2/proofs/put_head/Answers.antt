-- `c_erp2::put_head` meets its contract: a byte for each part of the head.
use mathlib.Core.Path.{ap, ◌∙◌}
use Rattle.c_layout.specs.Frame.{flag_byte}
use Rattle.c_erp2.proofs.Calls.{head_are}
use Rattle.c_erp2.proofs.put_head.Goals as goal

pub returns : goal.returns
returns c =
    c.copy_from_slice.ensures.after
    ∙ head_are c.args.t _ _ _ _ _ _ c.unwrap_or-e.ensures c.unwrap_or.ensures
    c.flag_byte.ensures (c.flag_byte-2.ensures ∙ ap flag_byte c.is_some.ensures)
    (c.flag_byte-3.ensures ∙ ap flag_byte c.is_some-2.ensures)
    (c.flag_byte-4.ensures ∙ ap flag_byte c.is_some-3.ensures)
