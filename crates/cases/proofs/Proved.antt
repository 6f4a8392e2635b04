-- Every row of the table holds: one test that antt computes over the whole table, and a law that turns it into each row's equation.
use Rattle.base_lists.specs.Lists.{equal, up_from}
use Rattle.base_lists.proofs.Equal.{equal_eq}
use Rattle.base_lists.proofs.Table.{at}
use Rattle.base_crc8.specs.Crc8.{remainder_of, step_of}
use Rattle.radio_erp1.specs.Subtelegram.{hash_of, check_of}
use Rattle.radio_erp1.specs.Same.{is_same}
use Rattle.radio_telegram.specs.Fields.{fields_of, telegram_bytes}
use Rattle.radio_telegram.specs.Repeater.{relay_of, repeat_of}
use Rattle.block_layout.specs.BigEndian.{be, unbe, unbe_from}
use Rattle.radio_erp2_model.specs.Reading.{check_of as erp2_check, fields_of as erp2_fields, read_of}
use Rattle.radio_erp2_model.specs.Building.{telegram_size, is_unholdable, is_against_header, is_misfitting, body_of, erp2_bytes, build_of}
use Rattle.plan_slots.specs.Plan.{plans, candidates, lawful}
use Rattle.collector_model.specs.View.{fresh}
use Rattle.collector_model.specs.Acceptable.{is_copy_of, acceptable}
use Rattle.collector_model.specs.Step.{classify, advance, step}
use Rattle.cases.specs.Cases.{cases, EveryCase}

-- each row's two sides are equal
pub every_case : EveryCase
unfolding up_from remainder_of step_of hash_of check_of is_same fields_of telegram_bytes relay_of repeat_of
    plans candidates lawful fresh is_copy_of acceptable classify advance step be unbe unbe_from erp2_check
    erp2_fields read_of telegram_size is_unholdable is_against_header is_misfitting body_of erp2_bytes build_of
every_case k h d = equal_eq _ _ (at (λ i c. equal c.got c.want) d cases tt k h)
