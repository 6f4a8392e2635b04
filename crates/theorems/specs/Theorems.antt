-- What is proved of Mooringeye, on one page.
--
-- Mooringeye collects the radio telegrams of sensors. Each statement below is proved for all inputs; a test would try some of them. In `a : b.C`, a
-- is our name for the statement, and C is its exact form, in the file that the line `use .. as b` names. `(x : T) →` means: for every x of the type
-- T; ℕ is the type of whole numbers from 0. If the proof of a statement is missing, this crate fails the check. Details.antt has the further
-- statements. Also proved, and not listed: each function in crates/*/src returns for every input that its contract allows, and what it returns and
-- writes is what the contract says. Not proved but tested: how the programs read and write files.
--
--   telegram     what a sensor sends by radio: 8 to 21 bytes. It is received several times, because sensors and repeaters send it again.
--   level        how often repeaters have sent a telegram again. The status byte of the telegram contains it.
--   reception    bytes that were received, and the time in milliseconds. The answer to it is: kept (a new telegram), copy, loose, or refused.
--   open         a kept telegram is open for 100 ms. At most 64 are open at once.
--   copy         a reception of a telegram that is the same as an open one. At level 0 it is a copy only up to 40 ms after that one was kept.
--   loose        a reception that is no copy, but can't be kept, because 64 telegrams are open.
--   late         a reception that is earlier than the latest kept, copied or loose one. It is refused, and so is a damaged one.
--   close        a telegram closes at the first kept, copied or loose reception at which it is not open any more. Its closing has its number of copies.
--   refused      a call that can't do what was asked returns a number above 0, which says why. 0 means done.
--   contract     the exact statement of what a function returns and writes.
--   collector    the state that decides on receptions. A checkpoint writes it as 2,560 bytes. After a restart, a restore reads them.
--   model        or reference model: the definition that the code is compared with. It stores every reception, and works out each answer from all that
--                came before. The model of the disk says what state file and archive are after batches, crashes and starts.
--   log          a text: its first line is `level N`, the setting of a repeater; each later line has a time and the bytes of a reception. The program
--                `collect` reads it. In the library, `lines` takes lines of it and gives text and rows; `lines_as` does so in a format, and gives
--                closings if asked.
--   archive      a file of blocks of 512 bytes. A block has up to 15 rows. A row is a kept or loose reception. An append adds a row. Salvage keeps the
--                rows of undamaged blocks. A removal takes out the rows of some sensors. A packer does both, for an archive that comes in pieces.
--   journal      the plant's tool keeps a state file and an archive. A batch of lines is written to the archive first, then to the state. A crash
--                between the two leaves rows that the state does not count: leftovers. Rows that are put aside go to an archive of their own. With
--                the option `--out` the tool also writes the rows to a text file.
--   slot plan    the times at which a telegram is sent, up to three. It is lawful if it obeys the radio protocol's timing rules. A draw is the number
--                by which a caller picks a plan.
--   papers       the customer's documents 01 (scope) and 02 (changes), and the radio documents 000 to 004.
use Rattle.std.specs.Prelude.{ℕ, List}
use Rattle.radio_telegram.specs.Claims as radio_telegram
use Rattle.radio_sameness.specs.Sameness as radio_sameness
use Rattle.radio_erp2_model.specs.Claims as radio_erp2_model
use Rattle.plan_slots.specs.Claims as plan_slots
use Rattle.plan_rules.specs.Claims as plan_rules
use Rattle.plan_site.specs.declared.Assignment.{Assignment}
use Rattle.plan_site.specs.Claims as plan_site
use Rattle.collector_model.specs.Exact as collector_model_exact
use Rattle.collector_model.specs.History as collector_model_history
use Rattle.collector_model.specs.Latest as collector_model_latest
use Rattle.collector_model.specs.Copies as collector_model_copies
use Rattle.history_calls.specs.Claims as history_calls
use Rattle.text_print.specs.Claims as text_print
use Rattle.history_archived.specs.Claims as history_archived
use Rattle.history_archived.specs.Runs as history_archived_runs
use Rattle.history_archived.specs.Closed as history_archived_closed
use Rattle.history_archived.specs.Places as history_archived_places
use Rattle.history_log.specs.Claims as history_log
use Rattle.archive_model.specs.Claims as archive_model
use Rattle.archive_repack_model.specs.Claims as archive_repack_model
use Rattle.archive_cut.specs.Claims as archive_cut
use Rattle.c_pieces.specs.Claims as c_pieces
use Rattle.archive_report_model.specs.Claims as archive_report_model
use Rattle.cases.specs.Cases as cases
use Rattle.journal_model.specs.Claims as journal_model
use Rattle.journal_model.specs.Out as journal_model_out
use Rattle.journal_recovery.specs.Claims as journal_recovery
use Rattle.journal_batch.specs.Claims as journal_batch
use Rattle.theorems.specs.Details.{Details}

-- ---- telegrams, in the radio protocols ERP1 and ERP2

pub record Telegrams : Type 0 where
  -- If the bytes of a telegram are read, and a telegram is built from its fields, the bytes are the same.
  pub bytes_come_back : radio_telegram.BuildRead
  -- If a telegram is built from fields, and its bytes are read, the fields are the same. What the bytes do not carry is read as zero.
  pub fields_come_back : radio_telegram.ReadBuilt
  -- In ERP2 too, reading and then building gives the same bytes.
  pub erp2_bytes_come_back : radio_erp2_model.BuildRead
  -- In ERP2 too, building and then reading gives the same fields, with the same optional fields present, and zeros for the rest.
  pub erp2_fields_come_back : radio_erp2_model.ReadBuilt
  -- If a repeater sends something, it is the telegram that it received, with the level one higher and a new check byte. Nothing else changes.
  pub repeater_raises_level : radio_telegram.SentRaised
  -- Two telegrams count as the same exactly if sender, type, receiver, data and the upper bits of the status byte are equal.
  pub same_by_fields : radio_sameness.SameByFields

-- ---- slot plans

pub record SlotPlans : Type 0 where
  -- The list of slot plans contains every lawful plan once, in order, and no other plan.
  pub lawful_plans_are_listed : plan_slots.PlansListed
  -- A request for a plan gets a lawful plan. It is refused only if an argument is out of range or no plan is lawful.
  pub requests_get_lawful_plans : plan_rules.PlanByChosen
  -- The plans of several repeaters are accepted exactly if there are at most 32, with arguments in range, each is lawful, and no two transmissions overlap.
  pub sites_accepted_exactly : (count : ℕ) (repeaters : List Assignment) → plan_site.AcceptsExactly count repeaters

-- ---- the collector

pub record Collector : Type 0 where
  -- Any calls of a fresh collector, with restarts only from its own checkpoints, give the answers and outputs of the model, and those of a run without restarts.
  pub histories_follow_model : collector_model_history.WholeHistory
  -- The same holds for the calls of the library. The proof uses only their contracts.
  pub code_follows_model : history_calls.ArraysAgree
  -- The same receptions get the same answers, whether they are handed over one by one or in groups of up to 256.
  pub groups_change_nothing : history_calls.ArraysDivide
  -- Of the open telegrams that are the same as a reception, only the latest decides whether the reception is a copy.
  pub latest_decides : collector_model_latest.LatestDecides
  -- The number of copies of a telegram is the number of receptions that were answered as copies of it.
  pub copies_are_counted : collector_model_copies.NumbersAreAnswers
  -- A restore accepts exactly the bytes that a checkpoint can write, now or in the earlier format, and gives the state that was written.
  pub restore_is_exact : collector_model_exact.Exact
  -- If there are fewer than 2^64 receptions, none loose and none earlier than the one before, a sensor's answers do not depend on the other sensors.
  pub sensors_are_independent : history_calls.ArraysIsolated
  -- However the input is split into reads, the steps of `collect` print what the model says for all that was read. The proof uses only the contract of the step.
  pub output_follows_model : text_print.RunsPrint
  -- The rows that a log gives for an archive are the receptions that the model keeps, and the loose ones, in order.
  pub rows_follow_model : history_archived.LogArchived
  -- However a log is cut into calls of `lines`, with restarts between them, text and rows are the model's, and the calls count the lines right.
  pub calls_follow_model : history_archived_runs.CallsFollow
  -- The same holds for calls of `lines_as` in one format; the text is the model's in that format. Both proofs use only the contracts of the calls.
  pub format_calls_follow_model : history_archived_runs.CallsFollowAs
  -- However a log is cut into calls of `lines_as` that ask for closings, with restarts between them, they close what the model closes.
  pub closings_follow_model : history_archived_closed.CallsClose
  -- If at each restart `skip_lines` skips as many lines as were taken, the calls take the front of the log: no line twice, and none is left out.
  pub restarts_leave_out_no_line : history_archived_places.RestartsCover
  -- If the function `keep` takes a whole log into an empty archive, and there is room, it leaves the model's rows, the model's closings, and the tool's state file for them.
  pub log_is_archived : history_log.FreshKept

-- ---- archives, and reports of the totals in archives

pub record Archives : Type 0 where
  -- Each field of an archive block is at the bytes that the papers say.
  pub blocks_are_laid_out : archive_model.Layout
  -- After any appends to an empty archive, reading it gives exactly the rows whose append was not refused, in order.
  pub rows_come_back : archive_model.WholeRun
  -- An archive that is accepted is byte for byte what is written for its rows.
  pub archives_are_exact : archive_model.ExactArchive
  -- If some blocks are damaged, salvage keeps all rows of the other blocks, in order, and changes none.
  pub salvage_keeps_rows : archive_repack_model.RowsKept
  -- If sensors are removed from an archive, exactly the rows of the other sensors remain, in order.
  pub others_remain : archive_repack_model.OtherRowsRemain
  -- If an archive is cut back to m rows, exactly its first m rows remain.
  pub first_rows_remain : archive_cut.FirstRowsRemain
  -- An archive that is verified piece by piece gets the answer that the whole archive gets.
  pub pieces_are_verified : c_pieces.PiecesVerified
  -- The totals of a report are the sums over the rows of all archives that were added.
  pub totals_are_sums : archive_report_model.TotalsAreSums
  -- If no archive is refused, the order in which they are added does not change the report.
  pub order_changes_nothing : archive_report_model.AnyOrder

-- ---- the journal: the state file and the archive that the plant's tool keeps

pub record Journal : Type 0 where
  -- After any batches and any crashes, also during a recovery, the state is the model's, and the archive has the model's rows, and after them only leftovers.
  pub crashes_lose_nothing : journal_model.CrashSafe
  -- With a live feed, which has no log, the same holds for some lines, as many as the state counts. Which lines these are is not stated.
  pub live_crashes_lose_nothing : journal_model.LiveSafe
  -- At a start, no row that is found is destroyed, whoever wrote it.
  pub starts_destroy_nothing : journal_model.NothingDestroyed
  -- A start never refuses what a crash can leave.
  pub crashes_are_recovered : journal_model.NoFalseAlarm
  -- The calls that the tool makes at a start, as one function on an archive of one file: after a crash it is not refused, and leaves the model's rows, then leftovers.
  pub code_starts_after_crashes : journal_recovery.StartRecovers
  -- The calls for a batch, as one function: if it gets the model's rows and collector, the rows are in one block of the file, and nothing is put aside, it leaves the model's archive and state.
  pub code_commits_batches : journal_batch.BatchCommits
  -- A row that the state on disk counts stays in the archive, at its position. That the tool prints it only then is tested, not proved.
  pub printed_is_kept : journal_model.PrintedIsKept
  -- After any batches and crashes, the file of `--out` has what it had, then the heading if it was empty, then each row of the lines taken, once and in order.
  pub rows_are_in_the_file_once : journal_model_out.OnceInFile

-- ---- all of it

pub record Theorems : Type 1 where
  pub telegrams : Telegrams
  pub slot_plans : SlotPlans
  pub collector : Collector
  pub archives : Archives
  pub journal : Journal
  -- Each worked example of the papers that is marked for proof has the result that the papers give.
  pub examples_hold : cases.EveryCase
  -- The further statements, in Details.antt.
  pub details : Details
