-- The further statements that are proved: steps between those of Theorems.antt, and what they leave open. The words are explained there.
use Rattle.std.specs.Prelude.{ℕ, List}
use Rattle.base_refusal.specs.Claims as base_refusal
use Rattle.base_crc8.specs.Division as base_crc8
use Rattle.radio_erp1.specs.Claims as radio_erp1
use Rattle.radio_telegram.specs.Claims as radio_telegram
use Rattle.radio_erp2_model.specs.Claims as radio_erp2_model
use Rattle.plan_slots.specs.Claims as plan_slots
use Rattle.plan_rules.specs.Claims as plan_rules
use Rattle.plan_site.specs.declared.Assignment.{Assignment}
use Rattle.plan_site.specs.Claims as plan_site
use Rattle.collector_model.specs.View.{View}
use Rattle.collector_model.specs.Latest as collector_model_latest
use Rattle.collector_model.specs.Several as collector_model_several
use Rattle.collector_model.specs.Copies as collector_model_copies
use Rattle.collector_model.specs.Division as collector_model_division
use Rattle.collector_model.specs.Isolation as collector_model_isolation
use Rattle.collector_model.specs.States as collector_model_states
use Rattle.collector_state.specs.Admission as collector_state
use Rattle.c_collector.specs.Calls as c_collector
use Rattle.history_calls.specs.Answers as history_calls_answers
use Rattle.history_calls.specs.Claims as history_calls
use Rattle.history_replay_model.specs.Claims as history_replay_model
use Rattle.text_lines.specs.Claims as text_lines
use Rattle.text_rows.specs.Claims as text_rows
use Rattle.text_program.specs.Lines.{Program}
use Rattle.text_program.specs.Collect.{AnyCollector}
use Rattle.text_program.specs.Claims as text_program
use Rattle.text_collect.specs.Claims as text_collect
use Rattle.text_collect.specs.PrintedIn as text_collect_formats
use Rattle.history_archived.specs.Claims as history_archived
use Rattle.history_archived.specs.Runs as history_archived_runs
use Rattle.history_archived.specs.Closed as history_archived_closed
use Rattle.history_archived.specs.Places as history_archived_places
use Rattle.history_archived.specs.Outputs as history_archived_outputs
use Rattle.history_log.specs.Claims as history_log
use Rattle.archive_model.specs.Claims as archive_model
use Rattle.archive_model.specs.Identity as archive_model_identity
use Rattle.archive_repack_model.specs.Claims as archive_repack_model
use Rattle.archive_cut.specs.Claims as archive_cut
use Rattle.archive_fill.specs.Claims as archive_fill
use Rattle.c_codec.specs.Claims as c_codec
use Rattle.c_erp2.specs.Claims as c_erp2
use Rattle.c_archive.specs.Claims as c_archive
use Rattle.c_pieces.specs.Claims as c_pieces
use Rattle.archive_report_model.specs.Claims as archive_report_model
use Rattle.history_rows.specs.Rows as history_rows_alone
use Rattle.history_rows.specs.States as history_rows_states
use Rattle.history_rows.specs.Again as history_rows_again
use Rattle.history_rows.specs.Recovered as history_rows_recovered
use Rattle.history_rows.specs.Closings as history_rows_closings
use Rattle.history_rows.specs.Example as history_rows_example
use Rattle.journal_model.specs.Claims as journal_model
use Rattle.journal_model.specs.Out as journal_model_out
use Rattle.journal_calls.specs.Claims as journal_calls
use Rattle.journal_state.specs.Claims as journal_state
use Rattle.cases.specs.Layouts as cases_layouts

-- ---- telegrams

pub record Telegrams : Type 0 where
  -- No refusal has the number 0, which means that the call was done.
  pub zero_means_done : base_refusal.NoneIsDone
  -- The check value (CRC) of each byte is the remainder of a polynomial division.
  pub crc_is_remainder : base_crc8.LongDivision
  -- The status byte consists of its three parts: joined, they give the byte.
  pub status_has_three_parts : radio_erp1.JoinSplit
  -- If a receiver's address is added to a telegram and removed again, the bytes are the same.
  pub address_is_removed : radio_telegram.DecapsulateEncapsulated
  -- If a receiver's address is removed from a telegram and added again, the bytes are the same.
  pub address_is_added : radio_telegram.EncapsulateDecapsulated
  -- The function `repeat` returns what the formula for repeaters gives, for every repeater setting and all bytes.
  pub repeat_follows_formula : radio_telegram.CallSends
  -- What is read from ERP2 bytes has zeros wherever the bytes carry nothing.
  pub erp2_rest_is_zero : radio_erp2_model.NormalRead
  -- The sizes of ERP2 fields are those in the tables of document 004.
  pub erp2_tables_hold : radio_erp2_model.Figures
  -- The bytes in which another language gets the fields of a telegram read back as the same fields.
  pub fields_for_c_come_back : c_codec.SaidAgain
  -- So do the bytes for an ERP2 telegram.
  pub erp2_fields_for_c_come_back : c_erp2.SaidAgain

-- ---- slot plans

pub record SlotPlans : Type 0 where
  -- Each draw picks a lawful plan, or is answered 9, and then no plan is lawful.
  pub draws_are_lawful : plan_slots.DrawnChosen
  -- Each lawful plan is picked by some draw.
  pub lawful_plans_are_drawn : plan_slots.LawfulDrawn
  -- A request under the standard rule gets a lawful plan, 9 if no plan is lawful, or 10 if an argument is out of range.
  pub requests_are_answered : plan_slots.PlanChosen
  -- Under each of the three timing rules, the plan that a request gets is lawful.
  pub requested_plans_are_lawful : plan_rules.PlanByLawful
  -- It has as many transmissions as were requested.
  pub plans_have_requested_size : plan_rules.PlanByAsked
  -- Each lawful plan is the answer to some request.
  pub lawful_plans_are_requested : plan_rules.LawfulPicked
  -- A request that names no rule is a request under the standard rule, with its largest number of transmissions.
  pub standard_is_default : plan_rules.StandardSame
  -- Under the compressed rule no plan is lawful at level 2, and the answer is 9.
  pub compressed_has_no_level_2 : plan_rules.CompressedLevel2
  -- If the arguments are in range, and the plans are not accepted, the answer names the first unlawful plan, or else the first two plans that overlap.
  pub first_is_named : (count : ℕ) (repeaters : List Assignment) → plan_site.NamesTheFirst count repeaters
  -- One repeater with a plan that was drawn is accepted.
  pub drawn_plans_are_accepted : plan_site.DrawnAccepted

-- ---- the collector: the model

pub record Model : Type 0 where
  -- A copy is counted for the latest open telegram that is the same, and for no other.
  pub latest_is_credited : collector_model_latest.LatestCredited
  -- The test of a restore on every two open telegrams says: they are in order of time, and if one is the same as one before, it has level 0 and opened more than 40 ms later.
  pub several_entries_are_apart : collector_model_several.SeveralEntries
  -- Each copy is counted for one telegram: the numbers of copies sum to the total of copies.
  pub copies_count_once : collector_model_copies.EachCountedOnce
  -- Asked for the copies of an open telegram, the model answers how many copies of it were received, and at most 65,535.
  pub asked_copies_are_answers : collector_model_copies.HeardIsAnswers
  -- Up to that limit no number of copies is cut off.
  pub below_limit_is_exact : collector_model_copies.BelowCeiling
  -- Whether a state is accepted does not depend on its numbers of copies.
  pub any_number_is_accepted : collector_model_copies.AnyNumber
  -- In the model, the same receptions get the same answers, one by one or in groups of up to 256.
  pub model_groups_change_nothing : collector_model_division.AnyDivision
  -- In the model, other sensors do not change a sensor's answers, under the conditions of Theorems.antt: fewer than 2^64, none loose, time does not go back.
  pub model_sensors_are_independent : collector_model_isolation.AnswersIsolated
  -- Nor do they change its open telegrams and their numbers of copies, directly after one of its receptions.
  pub model_copies_are_independent : collector_model_isolation.EntriesIsolated

-- ---- the collector: any program whose calls meet the contracts, and the code

pub record Code : Type 1 where
  -- All that such a program answers equals the model's answers, and those of a run without restarts.
  pub contracts_give_histories : {State : Type 0} (view : State → View) → collector_model_states.StatesAgree view
  -- It gives the same answers to the same receptions, one by one or in groups of up to 256.
  pub contracts_give_divisions : {State : Type 0} (view : State → View) → collector_model_states.StatesDivide view
  -- Its state after the calls is the model's.
  pub contracts_give_state : {State : Type 0} (view : State → View) → collector_model_states.StatesLeft view
  -- Its answers to one sensor do not depend on other sensors, under the same conditions.
  pub contracts_give_independence : {State : Type 0} (view : State → View) → collector_model_isolation.StatesIsolated view
  -- The number that the call `take`, which takes one reception, returns tells which answer it is.
  pub numbers_tell_answers : history_calls_answers.AnswersBack
  -- The 24 bytes that a burst, a call with several receptions, writes for a reception tell its answer and what to send.
  pub bytes_tell_replies : history_calls_answers.RepliesBack
  -- After any calls of the library, the collector's state is the model's.
  pub code_state_follows_model : history_calls.ArraysLeft
  -- After any calls, each element of the collector's arrays is known, also those after the open telegrams, and also after a refusal.
  pub every_element_is_known : history_calls.ArraysElements
  -- A second set of calls, which take the state and return the next one, follows the model too.
  pub value_calls_follow_model : history_calls.ValuesAgree
  -- With this set too, the answers are the same, one by one or in groups.
  pub value_groups_change_nothing : history_calls.ValuesDivide
  -- It leaves the model's state.
  pub value_state_follows_model : history_calls.ValuesLeft
  -- Nor do other sensors change its answers to a sensor, under those conditions.
  pub value_sensors_are_independent : history_calls.ValuesIsolated
  -- It leaves each element of the arrays as the library's calls do.
  pub value_elements_are_known : history_calls.ValuesElements
  -- A run of receptions may test its first state only: the test gives the same result for every later state.
  pub one_test_is_enough : collector_state.ToldRightly
  -- The library's call that gets the result of the test from its caller does what the call that tests does, if the result is right. After a refusal no open telegram is changed.
  pub told_call_takes : c_collector.ToldTakes
  -- After each reception, the telegram that the code sends on is the one that the model says.
  pub sent_follows_model : collector_state.RelayedSent
  -- A value of each of twelve layouts, and a checkpoint, are worked out: the bytes and numbers that are compared are where the header and docs/FORMATS.md say.
  pub layouts_are_worked_out : cases_layouts.EveryLayout

-- ---- the record that a test run of calls writes

pub record Records : Type 0 where
  -- Two runs with the same record showed the same.
  pub records_tell_all : history_replay_model.RecordReadsBack
  -- No number of the model is too large for its field in the record.
  pub records_hold_model : history_replay_model.ReferenceWhole
  -- The length of a record depends on the calls alone.
  pub record_length_is_known : history_replay_model.RecordSized
  -- If calls are made in two parts, the second record continues the first.
  pub records_join : history_replay_model.InParts

-- ---- the program `collect`

pub record Lines : Type 1 where
  -- A line of 150 characters or more is a bad line.
  pub long_lines_are_bad : text_lines.LongLines
  -- The first 150 characters of a line decide what it says.
  pub fronts_decide : text_lines.FrontsTell
  -- A number that is printed reads back as that number.
  pub numbers_come_back : text_rows.NumbersBack
  -- A time that is read is printed as it was written.
  pub times_come_back : text_rows.TimesBack
  -- Bytes that are printed read back as those bytes.
  pub bytes_come_back : text_rows.BytesBack
  -- A line that is printed with a time and bytes reads back as these.
  pub lines_come_back : text_rows.LinesBack
  -- A program over lines gives the same output however its input is cut, if the front of each line decides what the line says.
  pub cuts_change_nothing : {S : Type 0} (p : Program S) (limit : ℕ) → text_program.InPieces p limit
  -- `collect` is such a program.
  pub collect_cuts_change_nothing : {C : Type 0} (m : AnyCollector C) → text_program.CollectedInPieces m
  -- After a wrong first line `collect` writes nothing more.
  pub wrong_start_is_silent : {C : Type 0} (m : AnyCollector C) → text_program.StaysEnded m
  -- The text that is defined as the output of `collect` has the model's answers and totals, however the input is cut into pieces.
  pub text_follows_model : text_collect.CollectPrints
  -- As CSV and as JSON too, the rows and totals are the model's, however the input is cut.
  pub formats_follow_model : text_collect_formats.FormatsPrint
  -- A run in any format that goes on from any state gives the same, however the input is cut.
  pub format_cuts_change_nothing : text_collect_formats.FormatsInPieces
  -- In the format text, the model's output for an input is what `collect` prints.
  pub text_is_printed : text_collect_formats.TextAsPrinted
  -- The rows for an archive and the count of lines are the same however the input is cut.
  pub row_cuts_change_nothing : text_collect.RowsInPieces
  -- Lines that come after other lines give the model's rows too.
  pub later_rows_follow_model : history_archived.LinesArchived
  -- For each time of a row there is a record of 23 bytes.
  pub records_are_sized : history_archived.RecordsSized
  -- An archive can hold each of these rows, and the check refuses none of them.
  pub rows_are_storable : history_archived.ArchivedStorable
  -- What the lines of a log give as closings is what the log closes, 32 bytes for each telegram.
  pub log_closings_follow_model : history_archived_closed.LogClosed
  -- Further lines close what the model closes too, from any state on.
  pub later_closings_follow_model : history_archived_closed.LinesClosed
  -- What lines close, and then what is open after them, are the kept receptions, in order, each once and with its copies, at most 65,535.
  pub lines_close_once : history_archived_closed.LinesCloseOnce
  -- From any arrays on, without a restart, each element of a collector's arrays after calls of `lines` is what the lines make of it.
  pub calls_lay_elements : history_archived_runs.CallsLay
  -- The same holds after calls of `lines_as`.
  pub format_calls_lay_elements : history_archived_runs.CallsLayAs
  -- In the same text, with the same limit, `skip_lines` skips the lines that `lines` or `lines_as` takes, if these leave room for what one more line may give.
  pub skipped_as_taken : history_archived_places.SkipsAsTaken
  -- With a fixed setting and format, the state, the text, the limit and the lengths of the outputs decide how many lines a call of `lines` or `lines_as` takes.
  pub stops_are_decided : history_archived_places.StopsDecided
  -- Called line by line, `read_line` says of each line what `lines` and `lines_as` took of it.
  pub read_as_taken : history_archived_places.ReadsAgree
  -- If `read_line` answers 4, no line has ended.
  pub unended_is_not_read : history_archived_places.NoneRead
  -- If calls write one after the other into a shared buffer for text, times or records, the rest of the buffer is unchanged.
  pub outputs_stay : history_archived_outputs.OutputsStay
  -- The same holds for a shared buffer for closings.
  pub closings_stay : history_archived_outputs.ClosingsStay
  -- If `keep` takes a log into any archive and does not refuse, reading gives the rows that were there, and then the model's, in order, and the model's closings.
  pub kept_log_reads_back : history_log.KeptReadBack
  -- The state file that `keep` writes is accepted, and has the state of the model of the disk after all lines that were taken: a start can recover from it.
  pub kept_state_starts : history_log.KeptStateStarts

-- ---- the rows of a history, and the telegrams that close in it

pub record Rows : Type 1 where
  -- If only the kept and loose receptions of a history are handed over, they get the same answers, and at each time the same telegrams are open.
  pub rows_decide : history_rows_alone.RowsAlone
  -- The same holds from the middle of a history on.
  pub rows_decide_from_middle : history_rows_alone.RowsAloneSince
  -- It holds for the states of any program whose calls meet the contracts.
  pub contracts_give_rows : {State : Type 0} (view : State → View) → history_rows_states.StatesRowsAlone view
  -- It holds from a state that was restored in the middle too.
  pub restored_give_rows : {State : Type 0} (view : State → View) → history_rows_states.RestoredRowsAlone view
  -- Each row is a valid telegram with a time of 64 bits, so an archive accepts it.
  pub rows_fit_archive : history_rows_again.RowsFit
  -- The first rows of some receptions are the rows of the first of these receptions.
  pub first_rows_are_of_first : history_rows_again.FirstRows
  -- A collector that is restored, and is handed the rows that came after its checkpoint, answers each as before.
  pub rows_are_answered_again : history_rows_again.GivenAgain
  -- Then it answers all that comes later as the first collector would have, if nothing comes earlier than that one's latest time, in fewer than 2^64 receptions.
  pub later_answers_are_same : history_rows_again.RowsGoOn
  -- The same holds for any program whose calls meet the contracts.
  pub contracts_give_recovery : {State : Type 0} (view : State → View) → history_rows_recovered.RecoveredGoesOn view
  -- In the model, each telegram that was opened closes once, in order, with its number of copies, or is still open.
  pub telegrams_close_once : history_rows_closings.ClosedOnce
  -- The same holds for the states of the collector, with the number of copies counted from the answers, up to 65,535.
  pub views_close_once : history_rows_closings.ViewsClosedOnce
  -- It holds for any program whose calls meet the contracts.
  pub contracts_close_once : {State : Type 0} (view : State → View) → history_rows_closings.StatesClosedOnce view
  -- A short history, worked out: its answers, its rows, what closed and what is open.
  pub example_is_worked : history_rows_example.Worked

-- ---- the journal of the plant's tool: its state file and its archive, through crashes

pub record Journal : Type 0 where
  -- A run can begin with an empty archive.
  pub begins_with_nothing : journal_model.FromNothing
  -- A first line `level N` gives no row.
  pub first_line_gives_no_row : journal_model.FirstLines
  -- After a crash, a start brings the archive to what the model says for the state that is on disk.
  pub start_recovers : journal_model.Recovers
  -- When all lines of the log are taken, and the remaining leftovers are put aside, state and archive are those of a run without crashes.
  pub whole_log_is_undisturbed : journal_model.WholeLog
  -- From every disk that a run can leave, the log can be taken to its end.
  pub runs_can_finish : journal_model.Finishes
  -- If the front of a file is an archive, all its rows are found.
  pub whole_front_is_found : journal_model.FoundLongest
  -- A start changes no block with rows that it finds, except a torn one, which it mends. Rows after a gap are not found.
  pub sound_blocks_stay : journal_model.BlocksUntouched
  -- If the state's copy of the last block is one that the tool writes, then after a start that is not refused an archive of one file has the counted rows, and then leftovers.
  pub leftovers_are_rows : journal_model.StartCounts
  -- A start changes no byte of such an archive.
  pub start_keeps_leftovers : journal_model.StartKeeps
  -- If the leftovers begin with the new rows, nothing is written and nothing is put aside.
  pub equal_rows_write_nothing : journal_model.EqualRowsWriteNothing
  -- A batch destroys no row: each stays in the archive or is put aside.
  pub batch_destroys_nothing : journal_model.BatchDestroysNothing
  -- The end of the log destroys no row either.
  pub end_destroys_nothing : journal_model.EndDestroysNothing
  -- A crash within a batch destroys no row either: the log gives the row again, or the row was put aside before.
  pub crash_destroys_nothing : journal_model.CrashDestroysNothing
  -- The line of a row gives the collector the reception that the row was.
  pub row_is_handed_over : journal_model.HandedOver
  -- With a live feed, the rows that are counted at some time stay at their positions.
  pub live_rows_stay : journal_model.LiveKept
  -- If the collector gives the leftovers again as the archive has them, nothing is written and every row is counted.
  pub leftovers_are_counted : journal_model.LeftoversTakenIn
  -- Whatever it answers, each row stays in the archive or is put aside.
  pub live_destroys_nothing : journal_model.LiveDestroysNothing
  -- If the rows that lines gave are handed over again after the same earlier lines, the same rows are given again.
  pub rows_are_given_again : journal_model.LinesRowsAlone
  -- So leftovers of lines that were on their way at a crash are all taken in.
  pub leftovers_are_taken_in : journal_model.AllTakenIn
  -- The judgement on the last counted block refuses what the model of the disk refuses, and otherwise gives the block that this model continues with.
  pub blocks_are_judged : journal_calls.Judged
  -- A scan counts the rows and blocks that the model finds from a block on.
  pub scans_count_the_run : journal_calls.RunCounts
  -- Blocks that are scanned in two pieces give what they give in one.
  pub scans_go_by_pieces : journal_calls.RunJoins
  -- Five numbers hold all that a scan knows.
  pub scans_are_held : journal_calls.RunBack
  -- The numbers that a scan leaves are accepted by its next call.
  pub scans_go_on : journal_calls.RunAccepted
  -- Numbers of a scan that are accepted are those that some blocks give.
  pub scans_are_exact : journal_calls.RunGiven
  -- That each row is in the file of `--out` once holds for the model's rows in each format, with the format's heading.
  pub formats_are_in_the_file_once : journal_model_out.OnceInFormat
  -- A first line `level N` writes nothing to that file.
  pub first_line_writes_nothing : journal_model_out.FirstLineSilent
  -- A lawful state of the tool (its image is accepted, and its other parts are right) that is written is accepted, and reads back as it was.
  pub states_read_back : journal_state.StateRead
  -- The state in an accepted file is lawful, and the file is byte for byte what is written for that state, in the version of the file.
  pub states_are_exact : journal_state.StateWritten
  -- A lawful state whose archive is one file, with which the collector began, is a state of the model: its copy of the last block is one that the tool writes.
  pub states_are_modelled : journal_state.StateModelled

-- ---- archives

pub record Archives : Type 0 where
  -- An archive has 0 to 2^32 blocks of 512 bytes and no part of a block: six lengths at these limits are computed.
  pub sizes_are_limited : archive_model.Sizes
  -- Rows that are written are read back, and the archive is accepted.
  pub written_rows_come_back : archive_model.ReadBack
  -- An append that looks at the last block alone does the same as one that looks at the whole archive.
  pub last_block_is_enough : archive_model.AtCursor
  -- Row i of an archive is returned, or the answer is 10 if there are fewer rows.
  pub rows_are_returned : archive_model.RowsAnswered
  -- A row that is returned has at most 21 bytes, whatever the buffer holds.
  pub rows_are_short : archive_model.RowShort
  -- A check of an archive's blocks in two parts is one check, and finds the first wrong block or the number of rows.
  pub parts_are_checked : archive_model.Pieces
  -- The sensor of a row is the sender that its telegram names, also if it names a receiver.
  pub sensor_is_sender : archive_model_identity.Transmitter
  -- Salvage counts each block as kept, empty or dropped, and lists exactly the dropped ones.
  pub blocks_are_accounted : (buffer : List ℕ) → archive_repack_model.Accounted buffer
  -- Salvage returns an undamaged archive unchanged.
  pub undamaged_is_unchanged : archive_repack_model.Intact
  -- A second salvage changes nothing.
  pub second_salvage_is_same : archive_repack_model.SalvagedAgain
  -- Salvage writes no byte after its result, and none at all if it is refused.
  pub rest_is_untouched : (buffer output positions : List ℕ) → archive_repack_model.Untouched buffer output positions
  -- A second removal of the same sensors changes nothing.
  pub second_removal_is_same : archive_repack_model.RemovedAgain
  -- A removal reports how many blocks it emptied, and these are zero.
  pub emptied_blocks_are_counted : archive_repack_model.Freed
  -- After a removal, an append uses the free space.
  pub freed_space_is_used : archive_repack_model.ThenAppend
  -- Two removals, one after the other, leave the archive that one removal of the sensors of both leaves.
  pub removals_join : archive_repack_model.BothLists
  -- Calls of the packer, also with refused ones among them, write the archive of the rows that remain, and name the dropped blocks.
  pub pieces_are_packed : archive_repack_model.PiecesPacked
  -- What is lent to a packer between two pieces is all that the next piece needs.
  pub packer_is_held : archive_repack_model.PackingHeld
  -- A second cut at the same row changes nothing.
  pub second_cut_is_same : archive_cut.CutAgain
  -- If the rows that were cut off are appended again in order, the bytes are the old ones.
  pub cut_is_undone : archive_cut.Undone
  -- A cut changes one block, keeps those before it and clears those after it.
  pub cut_changes_one_block : archive_cut.AtOneBlock
  -- If whole blocks are cleared from some block on, what is left is the archive cut there.
  pub cleared_end_is_cut : archive_cut.ZerosBehind
  -- Rows that are put into a block together give the block that they give one by one.
  pub together_is_one_by_one : archive_fill.OneByOne
  -- Rows that are put together into the block where the next row belongs are added to the archive's rows.
  pub together_is_appended : archive_fill.InArchive
  -- A row that another language reads from an archive can be put into an archive as it is.
  pub rows_are_put_again : c_archive.RowGivenAgain
  -- Four numbers hold all that is known between two pieces of a verification.
  pub four_numbers_are_enough : c_pieces.ScanBack
  -- The numbers that a verification in pieces leaves are accepted by its next call.
  pub given_numbers_are_accepted : c_pieces.NumbersAccepted
  -- Any four numbers that are accepted are those that some pieces leave.
  pub accepted_numbers_are_given : c_pieces.NumbersGiven

-- ---- reports

pub record Reports : Type 0 where
  -- Whatever archives are added, no later call refuses the report as invalid.
  pub reports_are_valid : archive_report_model.Sound
  -- Each report that is not refused as invalid is the report of some archives.
  pub valid_reports_exist : archive_report_model.Complete
  -- The share of a report's rows in a number of receptions is in thousandths, rounded down.
  pub share_is_rounded_down : archive_report_model.ShareRoundedDown
  -- An archive that is added piece by piece gives what the whole archive gives.
  pub pieces_are_whole : archive_report_model.PiecesAreWhole

-- ---- all of them

pub record Details : Type 1 where
  pub telegrams : Telegrams
  pub slot_plans : SlotPlans
  pub model : Model
  pub code : Code
  pub records : Records
  pub lines : Lines
  pub rows : Rows
  pub journal : Journal
  pub archives : Archives
  pub reports : Reports
