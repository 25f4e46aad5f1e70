-- How a run that prints its answer as a JSON object ends.
use Rattle.std.specs.Prelude.{◌≡◌, ◌⊎◌}
use Rattle.drain_cli.specs.Names.{ℕ, List, Result, outcome_report_line, PrintsText, Outcome, Status, Failed, Refusal, Sink, IsAnswerLine}
use Rattle.drain_cli.specs.JudgedRuns.{outcome_status}
use Rattle.drain_page.specs.declared.answer_object.TheConstants.{OUT_OF_MEMORY_ANSWER}

-- the object whose first member is the answer's line, with the answer's status; or the one for which no memory is needed
abbrev pub IsAnswerObject : Result Outcome Refusal → List ℕ → Status → Type 0
IsAnswerObject answer text status =
    (IsAnswerLine (outcome_report_line answer) text × (status ≡ outcome_status answer)) ⊎ ((text ≡ OUT_OF_MEMORY_ANSWER.now) × (status ≡ Failed))

-- that was printed, and the run ends with this number
pub record PrintsObject {W : Type 0} (sink : Sink W) (old new : W) (answer : Result Outcome Refusal) (code : ℕ) : Type 0 where
  pub text : List ℕ
  pub status : Status
  pub object : IsAnswerObject answer text status
  pub printed : PrintsText sink old new text status code
