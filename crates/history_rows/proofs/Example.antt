-- By computation.
use mathlib.Core.Path.{refl}
use Rattle.radio_erp1.specs.Subtelegram.{hash_of, check_of}
use Rattle.radio_erp1.specs.Same.{is_same}
use Rattle.collector_model.specs.Acceptable.{is_copy_of}
use Rattle.collector_model.specs.Reference.{answer_to}
use Rattle.history_rows.specs.Example.{Worked}

pub worked : Worked
unfolding answer_to is_copy_of check_of hash_of is_same
worked = record { answers = refl; rows = refl; closed = refl; left = refl }
