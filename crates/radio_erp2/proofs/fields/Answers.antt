-- `radio_erp2::fields` meets its contract: the sizes of a list that fits are those of its row.
use Rattle.radio_erp2_model.specs.Reading.{fields_of}
use Rattle.radio_erp2.proofs.fields.Goals as goal

pub returns : goal.returns
unfolding fields_of
returns c =
    rw (
      c.row.ensures,
      c.overhead.ensures,
      c.sizes_in-z.ensures,
      c.from-l.ensures,
      c.short_of.ensures,
    )
