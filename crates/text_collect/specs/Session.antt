-- The program `collect` over the collector of the model (document 01, "Cases"), and the run of a session.
use Rattle.std.specs.Prelude.{ℕ, ◌≤◌, ◌≡◌, true, List, length, take}
use Rattle.radio_erp1.specs.Subtelegram.{max_length}
use Rattle.collector_model.specs.View.{View, fresh}
use Rattle.collector_model.specs.Step.{StepOutcome, step, sent_for}
use Rattle.collector_state.specs.Collector.{view_of}
use Rattle.text_rows.specs.Longest.{longest_number, longest_row, longest_totals}
use Rattle.text_program.specs.Collect.{AnyCollector, Phase, starting, running, over, collect}
use Rattle.text_program.specs.Buffer.{is_unended, Fed}
use Rattle.text_collect.specs.declared.Stage.{Stage}
use Rattle.text_collect.specs.declared.Session.{Session}
use Rattle.text_collect.specs.declared.Progress.{Progress}
use Rattle.text_collect.specs.Printed.{printed_row, sent_bytes, totals_line, reception_at}

-- ---- the model's collector

-- one reception
abbrev pub taken_at : View → ℕ → List ℕ → StepOutcome
taken_at v time bytes = step v (reception_at time bytes)

-- the collector, with the setting that its caller keeps (document 02, A7)
pub record Receiver : Type 0 where
  pub setting : ℕ
  pub view : View

-- the collector of the model, as `collect` needs it
abbrev pub model_collector : AnyCollector Receiver
model_collector = record {
  fresh = λ setting. record { setting = setting; view = fresh };
  next = λ c time bytes. record { setting = c.setting; view = (taken_at c.view time bytes).next };
  answer = λ c time bytes. printed_row (taken_at c.view time bytes).answer;
  sent = λ c time bytes.
      sent_bytes (sent_for c.setting (taken_at c.view time bytes).answer (reception_at time bytes));
  totals = λ c. totals_line c.view.totals;
}

-- ---- a session

-- a run after its first line, with a setting
abbrev pub running_at : ℕ → View → Phase Receiver
running_at setting v = running (record { setting = setting; view = v })

-- the phase of a stage of the code
abbrev pub at_stage : Stage → Receiver → Phase Receiver
at_stage Stage.Starting c = starting
at_stage Stage.Running c = running c
at_stage Stage.Over c = over

-- the phase of a session
abbrev pub phase_of : Session → Phase Receiver
phase_of s = at_stage s.stage (record { setting = s.setting; view = view_of s.collector })

-- the longest text of a line, and the longest text at the end
abbrev pub longest_line : ℕ
longest_line = longest_row longest_number max_length

abbrev pub longest_end : Phase Receiver → ℕ
longest_end starting = 4
longest_end (running c) = longest_totals
longest_end over = 0

-- Whole lines of the input, `used` characters, were taken from phase s to s', and the front of the output has what they
-- give. If none was taken although the longest row fits, there is no whole line.
pub record RanTo (s : Phase Receiver) (input out out' : List ℕ) (s' : Phase Receiver) (used written : ℕ) : Type 0 where
  pub within : used ≤ length input
  pub fed : Fed (collect model_collector) s (take used input) out s' out' written
  pub rest : used ≡ 0 → longest_line ≤ length out → is_unended input ≡ true

-- the same for the result of the code
abbrev pub Ran : (s : Phase Receiver) (input out out' : List ℕ) (r : Progress) → Type 0
Ran s input out out' r = RanTo s input out out' (phase_of r.session) r.used r.written
