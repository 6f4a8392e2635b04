-- Each field is the theorem of its crate: if one is missing, or says less than its statement, this file fails the check.
use Rattle.radio_telegram.proofs.Laws as radio_telegram
use Rattle.radio_erp2_model.proofs.Theorems as radio_erp2_model
use Rattle.radio_sameness.proofs.ByFields as radio_sameness
use Rattle.plan_slots.proofs.Listed as plan_slots
use Rattle.plan_rules.proofs.Laws as plan_rules
use Rattle.plan_site.proofs.Accepts as plan_site
use Rattle.collector_model.proofs.Theorem as collector_model_theorem
use Rattle.history_calls.proofs.Claims as history_calls
use Rattle.collector_model.proofs.Latest as collector_model_latest
use Rattle.collector_model.proofs.Counting as collector_model_counting
use Rattle.collector_model.proofs.Image as collector_model_image
use Rattle.text_print.proofs.Runs as text_print
use Rattle.history_archived.proofs.Archived as history_archived
use Rattle.history_archived.proofs.Runs as history_archived_runs
use Rattle.history_archived.proofs.Closed as history_archived_closed
use Rattle.history_archived.proofs.Places as history_archived_places
use Rattle.history_log.proofs.Claims as history_log
use Rattle.archive_model.proofs.Claims as archive_model
use Rattle.archive_repack_model.proofs.Salvage as archive_repack_model_salvage
use Rattle.archive_repack_model.proofs.Removal as archive_repack_model_removal
use Rattle.archive_cut.proofs.Claims as archive_cut
use Rattle.c_pieces.proofs.Pieces as c_pieces
use Rattle.archive_report_model.proofs.Claims as archive_report_model
use Rattle.cases.proofs.Proved as cases
use Rattle.journal_model.proofs.Claims as journal_model_claims
use Rattle.journal_model.proofs.Destroyed as journal_model_destroyed
use Rattle.journal_model.proofs.Live as journal_model_live
use Rattle.journal_model.proofs.Out as journal_model_out
use Rattle.journal_model.proofs.Whole as journal_model_whole
use Rattle.journal_recovery.proofs.Recovers as journal_recovery
use Rattle.journal_batch.proofs.Commits as journal_batch
use Rattle.theorems.specs.Theorems.{Telegrams, SlotPlans, Collector, Archives, Journal, Theorems}
use Rattle.theorems.proofs.Details.{details}

telegrams : Telegrams
telegrams = record {
  bytes_come_back = radio_telegram.build_read;
  fields_come_back = radio_telegram.read_built;
  erp2_bytes_come_back = radio_erp2_model.build_read;
  erp2_fields_come_back = radio_erp2_model.read_built;
  repeater_raises_level = radio_telegram.repeated;
  same_by_fields = radio_sameness.same_by_fields;
}

slot_plans : SlotPlans
slot_plans = record {
  lawful_plans_are_listed = plan_slots.plans-listed;
  requests_get_lawful_plans = plan_rules.plan_by-chosen;
  sites_accepted_exactly = plan_site.accepts_exactly;
}

collector : Collector
collector = record {
  histories_follow_model = collector_model_theorem.whole_history;
  code_follows_model = history_calls.arrays_agree;
  groups_change_nothing = history_calls.arrays_divide;
  latest_decides = collector_model_latest.latest_decides;
  copies_are_counted = collector_model_counting.numbers_are-answers;
  restore_is_exact = collector_model_image.exact;
  sensors_are_independent = history_calls.arrays_isolated;
  output_follows_model = text_print.runs_print;
  rows_follow_model = history_archived.log_archived;
  calls_follow_model = history_archived_runs.calls_follow;
  format_calls_follow_model = history_archived_runs.calls_follow_as;
  closings_follow_model = history_archived_closed.calls_close;
  restarts_leave_out_no_line = history_archived_places.restarts_cover;
  log_is_archived = history_log.fresh_kept;
}

archives : Archives
archives = record {
  blocks_are_laid_out = archive_model.by_byte;
  rows_come_back = archive_model.run;
  archives_are_exact = archive_model.exact;
  salvage_keeps_rows = archive_repack_model_salvage.kept;
  others_remain = archive_repack_model_removal.remains;
  first_rows_remain = archive_cut.remains;
  pieces_are_verified = c_pieces.pieces_verified;
  totals_are_sums = archive_report_model.totals_are_sums;
  order_changes_nothing = archive_report_model.any_order;
}

journal : Journal
journal = record {
  crashes_lose_nothing = journal_model_claims.crash_safe;
  live_crashes_lose_nothing = journal_model_live.live_safe;
  starts_destroy_nothing = journal_model_destroyed.nothing_destroyed;
  crashes_are_recovered = journal_model_claims.no_false_alarm;
  code_starts_after_crashes = journal_recovery.start_recovers;
  code_commits_batches = journal_batch.batch_commits;
  printed_is_kept = journal_model_whole.printed_is_kept;
  rows_are_in_the_file_once = journal_model_out.once_in_file;
}

pub theorems : Theorems
theorems = record {
  telegrams = telegrams;
  slot_plans = slot_plans;
  collector = collector;
  archives = archives;
  journal = journal;
  examples_hold = cases.every_case;
  details = details;
}
