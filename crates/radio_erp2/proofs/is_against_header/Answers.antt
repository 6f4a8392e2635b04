-- `radio_erp2::is_against_header` meets its contract.
use Rattle.radio_erp2_model.specs.Building.{is_against_header}
use Rattle.radio_erp2.proofs.Parts.{not_same}
use Rattle.radio_erp2.proofs.is_against_header.Goals as goal

pub returns : goal.returns
unfolding is_against_header
returns c = simp (c.is_some.ensures, c.is_some-2.ensures, c.is_some-3.ensures, not_same)
