-- Each field is the theorem of its crate.
use Rattle.base_refusal.proofs.Numbers as base_refusal
use Rattle.base_crc8.proofs.Divided as base_crc8
use Rattle.radio_erp1.proofs.Statuses as radio_erp1
use Rattle.radio_telegram.proofs.Laws as radio_telegram
use Rattle.radio_erp2_model.proofs.Theorems as radio_erp2_model
use Rattle.plan_slots.proofs.Chosen as plan_slots
use Rattle.plan_rules.proofs.Lawful as plan_rules_lawful
use Rattle.plan_rules.proofs.Laws as plan_rules_laws
use Rattle.plan_site.proofs.Named as plan_site
use Rattle.collector_model.proofs.Latest as collector_model_latest
use Rattle.collector_model.proofs.Several as collector_model_several
use Rattle.collector_model.proofs.Counting as collector_model_counting
use Rattle.collector_model.proofs.Division as collector_model_division
use Rattle.collector_model.proofs.Isolation as collector_model_isolation
use Rattle.collector_model.proofs.States as collector_model_states
use Rattle.collector_model.proofs.Struck as collector_model_struck
use Rattle.history_calls.proofs.Answers as history_calls_answers
use Rattle.history_calls.proofs.Claims as history_calls
use Rattle.collector_state.proofs.Stepping as collector_state_stepping
use Rattle.collector_state.proofs.Sending as collector_state_sending
use Rattle.c_collector.proofs.State as c_collector_state
use Rattle.history_replay_model.proofs.Back as history_replay_model_back
use Rattle.history_replay_model.proofs.Wholes as history_replay_model_wholes
use Rattle.history_replay_model.proofs.Sizes as history_replay_model_sizes
use Rattle.history_replay_model.proofs.Parts as history_replay_model_parts
use Rattle.text_lines.proofs.Long as text_lines
use Rattle.text_rows.proofs.ReadBack as text_rows
use Rattle.text_program.proofs.Pieces as text_program_pieces
use Rattle.text_program.proofs.Limit as text_program_limit
use Rattle.text_program.proofs.Ended as text_program_ended
use Rattle.text_collect.proofs.Printed as text_collect_printed
use Rattle.text_collect.proofs.PrintedIn as text_collect_formats
use Rattle.text_collect.proofs.Storing as text_collect
use Rattle.history_archived.proofs.Archived as history_archived
use Rattle.history_archived.proofs.Runs as history_archived_runs
use Rattle.history_archived.proofs.Closed as history_archived_closed
use Rattle.history_archived.proofs.Places as history_archived_places
use Rattle.history_archived.proofs.Stops as history_archived_stops
use Rattle.history_archived.proofs.Outputs as history_archived_outputs
use Rattle.history_log.proofs.Claims as history_log
use Rattle.archive_model.proofs.Claims as archive_model_claims
use Rattle.archive_model.proofs.Identity as archive_model_identity
use Rattle.archive_repack_model.proofs.Rows as archive_repack_model_rows
use Rattle.archive_repack_model.proofs.Salvage as archive_repack_model_salvage
use Rattle.archive_repack_model.proofs.Removal as archive_repack_model_removal
use Rattle.archive_repack_model.proofs.Pieces as archive_repack_model_pieces
use Rattle.archive_repack_model.proofs.Runs as archive_repack_model_runs
use Rattle.archive_cut.proofs.Claims as archive_cut
use Rattle.archive_fill.proofs.Claims as archive_fill
use Rattle.c_codec.proofs.Claims as c_codec
use Rattle.c_erp2.proofs.Claims as c_erp2
use Rattle.c_archive.proofs.Claims as c_archive
use Rattle.c_pieces.proofs.Pieces as c_pieces
use Rattle.archive_report_model.proofs.Claims as archive_report_model_claims
use Rattle.archive_report_model.proofs.Complete as archive_report_model_complete
use Rattle.archive_report_model.proofs.Adding as archive_report_model_adding
use Rattle.history_rows.proofs.Rows as history_rows_alone
use Rattle.history_rows.proofs.States as history_rows_states
use Rattle.history_rows.proofs.Again as history_rows_again
use Rattle.history_rows.proofs.Recovered as history_rows_recovered
use Rattle.history_rows.proofs.Closings as history_rows_closings
use Rattle.history_rows.proofs.Example as history_rows_example
use Rattle.journal_calls.proofs.Claims as journal_calls
use Rattle.journal_calls.proofs.Given as journal_calls_given
use Rattle.journal_model.proofs.Alone as journal_model_alone
use Rattle.journal_model.proofs.Any as journal_model_any
use Rattle.journal_model.proofs.Claims as journal_model_claims
use Rattle.journal_model.proofs.Destroyed as journal_model_destroyed
use Rattle.journal_model.proofs.Live as journal_model_live
use Rattle.journal_model.proofs.Longest as journal_model_longest
use Rattle.journal_model.proofs.Out as journal_model_out
use Rattle.journal_model.proofs.Sound as journal_model_sound
use Rattle.journal_model.proofs.TakenIn as journal_model_taken
use Rattle.journal_model.proofs.Untouched as journal_model_untouched
use Rattle.journal_model.proofs.Whole as journal_model_whole
use Rattle.journal_state.proofs.Claims as journal_state
use Rattle.journal_state.proofs.Modelled as journal_state_modelled
use Rattle.cases.proofs.Laid as cases
use Rattle.theorems.specs.Details.{Telegrams, SlotPlans, Model, Code, Records, Lines, Rows, Journal, Archives, Reports, Details}

telegrams : Telegrams
telegrams = record {
  zero_means_done = base_refusal.refused-number;
  crc_is_remainder = base_crc8.long_division;
  status_has_three_parts = radio_erp1.join-split;
  address_is_removed = radio_telegram.decapsulate_encapsulated;
  address_is_added = radio_telegram.encapsulate_decapsulated;
  repeat_follows_formula = radio_telegram.repeat_sent;
  erp2_rest_is_zero = radio_erp2_model.normal_read;
  erp2_tables_hold = radio_erp2_model.figures;
  fields_for_c_come_back = c_codec.said_again;
  erp2_fields_for_c_come_back = c_erp2.said_again;
}

slot_plans : SlotPlans
slot_plans = record {
  draws_are_lawful = plan_slots.drawn-chosen;
  lawful_plans_are_drawn = plan_slots.lawful-drawn;
  requests_are_answered = plan_slots.plan-chosen;
  requested_plans_are_lawful = plan_rules_lawful.plan_by-lawful;
  plans_have_requested_size = plan_rules_lawful.plan_by-asked;
  lawful_plans_are_requested = plan_rules_lawful.lawful_picked;
  standard_is_default = plan_rules_laws.standard_same;
  compressed_has_no_level_2 = plan_rules_laws.compressed_level_2;
  first_is_named = plan_site.names_the_first;
  drawn_plans_are_accepted = plan_site.drawn-accepted;
}

model : Model
model = record {
  latest_is_credited = collector_model_latest.latest-credited;
  several_entries_are_apart = collector_model_several.several_entries;
  copies_count_once = collector_model_counting.each-counted_once;
  asked_copies_are_answers = collector_model_counting.heard_is_answers;
  below_limit_is_exact = collector_model_counting.below-ceiling;
  any_number_is_accepted = collector_model_counting.any_number;
  model_groups_change_nothing = collector_model_division.any_division;
  model_sensors_are_independent = collector_model_isolation.answers_isolated;
  model_copies_are_independent = collector_model_isolation.entries_isolated;
}

code : Code
code = record {
  contracts_give_histories = collector_model_states.states_agree;
  contracts_give_divisions = collector_model_states.states_divide;
  contracts_give_state = collector_model_states.states-left;
  contracts_give_independence = collector_model_struck.states_isolated;
  numbers_tell_answers = history_calls_answers.answers-back;
  bytes_tell_replies = history_calls_answers.replies-back;
  code_state_follows_model = history_calls.arrays-left;
  every_element_is_known = history_calls.arrays-elements;
  value_calls_follow_model = history_calls.values_agree;
  value_groups_change_nothing = history_calls.values_divide;
  value_state_follows_model = history_calls.values-left;
  value_sensors_are_independent = history_calls.values_isolated;
  value_elements_are_known = history_calls.values-elements;
  one_test_is_enough = collector_state_stepping.told_rightly;
  told_call_takes = c_collector_state.told_takes;
  sent_follows_model = collector_state_sending.relayed_sent;
  layouts_are_worked_out = cases.every_layout;
}

records : Records
records = record {
  records_tell_all = history_replay_model_back.reads_back;
  records_hold_model = history_replay_model_wholes.reference_whole;
  record_length_is_known = history_replay_model_sizes.sized;
  records_join = history_replay_model_parts.in_parts;
}

lines : Lines
lines = record {
  long_lines_are_bad = text_lines.long-lines;
  fronts_decide = text_lines.fronts_tell;
  numbers_come_back = text_rows.numbers-back;
  times_come_back = text_rows.time-back;
  bytes_come_back = text_rows.bytes_read;
  lines_come_back = text_rows.lines-back;
  cuts_change_nothing = text_program_pieces.in_pieces;
  collect_cuts_change_nothing = text_program_limit.collected_in_pieces;
  wrong_start_is_silent = text_program_ended.stays-ended;
  text_follows_model = text_collect_printed.collect_prints;
  formats_follow_model = text_collect_formats.formats_print;
  format_cuts_change_nothing = text_collect_formats.formats_in_pieces;
  text_is_printed = text_collect_formats.text_as_printed;
  row_cuts_change_nothing = text_collect.rows_in_pieces;
  later_rows_follow_model = history_archived.lines_archived;
  records_are_sized = history_archived.records-sized;
  rows_are_storable = history_archived.archived_storable;
  log_closings_follow_model = history_archived_closed.log_closed;
  later_closings_follow_model = history_archived_closed.lines-closed;
  lines_close_once = history_archived_closed.lines_close_once;
  calls_lay_elements = history_archived_runs.calls_lay;
  format_calls_lay_elements = history_archived_runs.calls_lay_as;
  skipped_as_taken = history_archived_places.skips_as_taken;
  stops_are_decided = history_archived_stops.stops_decided;
  read_as_taken = history_archived_places.reads_agree;
  unended_is_not_read = history_archived_places.none_read;
  outputs_stay = history_archived_outputs.outputs_stay;
  closings_stay = history_archived_outputs.closings_stay;
  kept_log_reads_back = history_log.kept-read_back;
  kept_state_starts = history_log.kept_state_starts;
}

rows : Rows
rows = record {
  rows_decide = history_rows_alone.rows-alone;
  rows_decide_from_middle = history_rows_alone.rows-alone_since;
  contracts_give_rows = history_rows_states.states-rows-alone;
  restored_give_rows = history_rows_states.restored-rows-alone;
  rows_fit_archive = history_rows_again.rows_fit;
  first_rows_are_of_first = history_rows_again.first_rows;
  rows_are_answered_again = history_rows_again.given_again;
  later_answers_are_same = history_rows_again.goes_on;
  contracts_give_recovery = history_rows_recovered.recovered_goes_on;
  telegrams_close_once = history_rows_closings.closed_once;
  views_close_once = history_rows_closings.views_closed_once;
  contracts_close_once = history_rows_closings.states-closed_once;
  example_is_worked = history_rows_example.worked;
}

journal : Journal
journal = record {
  begins_with_nothing = journal_model_whole.from_nothing;
  first_line_gives_no_row = journal_model_whole.first_lines;
  start_recovers = journal_model_claims.recovers_all;
  whole_log_is_undisturbed = journal_model_claims.whole_log;
  runs_can_finish = journal_model_whole.finishes;
  whole_front_is_found = journal_model_longest.found_longest;
  sound_blocks_stay = journal_model_untouched.untouched;
  leftovers_are_rows = journal_model_any.start_counts;
  start_keeps_leftovers = journal_model_sound.start_keeps;
  equal_rows_write_nothing = journal_model_destroyed.equal_rows_write_nothing;
  batch_destroys_nothing = journal_model_destroyed.batch_destroys_nothing;
  end_destroys_nothing = journal_model_destroyed.end_destroys_nothing;
  crash_destroys_nothing = journal_model_whole.crash_destroys_nothing;
  row_is_handed_over = journal_model_alone.handed_over;
  live_rows_stay = journal_model_live.live-kept;
  leftovers_are_counted = journal_model_taken.leftovers-taken_in;
  live_destroys_nothing = journal_model_taken.live_destroys_nothing;
  rows_are_given_again = journal_model_alone.rows-alone;
  leftovers_are_taken_in = journal_model_taken.all_taken_in;
  blocks_are_judged = journal_calls.judged-right;
  scans_count_the_run = journal_calls.run-counts;
  scans_go_by_pieces = journal_calls.run_joins;
  scans_are_held = journal_calls.run-back;
  scans_go_on = journal_calls_given.run-accepted;
  scans_are_exact = journal_calls_given.run-given;
  formats_are_in_the_file_once = journal_model_out.once_in_format;
  first_line_writes_nothing = journal_model_out.first_line-silent;
  states_read_back = journal_state.state_read;
  states_are_exact = journal_state.state-written;
  states_are_modelled = journal_state_modelled.state_modelled;
}

archives : Archives
archives = record {
  sizes_are_limited = archive_model_claims.sizes;
  written_rows_come_back = archive_model_claims.read_back;
  last_block_is_enough = archive_model_claims.at_cursor;
  rows_are_returned = archive_model_claims.row_read;
  rows_are_short = archive_model_claims.row_fits;
  parts_are_checked = archive_model_claims.in_pieces;
  sensor_is_sender = archive_model_identity.transmitter;
  blocks_are_accounted = archive_repack_model_rows.accounted;
  undamaged_is_unchanged = archive_repack_model_salvage.intact;
  second_salvage_is_same = archive_repack_model_salvage.salvaged_again;
  rest_is_untouched = archive_repack_model_salvage.untouched;
  second_removal_is_same = archive_repack_model_removal.removed_again;
  emptied_blocks_are_counted = archive_repack_model_removal.freed;
  freed_space_is_used = archive_repack_model_removal.then_append;
  removals_join = archive_repack_model_removal.both_lists;
  pieces_are_packed = archive_repack_model_runs.pieces_packed;
  packer_is_held = archive_repack_model_pieces.held;
  second_cut_is_same = archive_cut.cut_again;
  cut_is_undone = archive_cut.undone;
  cut_changes_one_block = archive_cut.at_one_block;
  cleared_end_is_cut = archive_cut.zeros_behind;
  together_is_one_by_one = archive_fill.one_by_one_lem;
  together_is_appended = archive_fill.in_archive;
  rows_are_put_again = c_archive.given_again;
  four_numbers_are_enough = c_pieces.scan-back;
  given_numbers_are_accepted = c_pieces.numbers-accepted;
  accepted_numbers_are_given = c_pieces.numbers-given;
}

reports : Reports
reports = record {
  reports_are_valid = archive_report_model_claims.sound;
  valid_reports_exist = archive_report_model_complete.complete;
  share_is_rounded_down = archive_report_model_claims.share_rounded_down;
  pieces_are_whole = archive_report_model_adding.pieces_are_whole;
}

pub details : Details
details = record {
  telegrams = telegrams;
  slot_plans = slot_plans;
  model = model;
  code = code;
  records = records;
  lines = lines;
  rows = rows;
  journal = journal;
  archives = archives;
  reports = reports;
}
