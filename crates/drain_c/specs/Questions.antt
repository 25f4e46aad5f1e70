-- What the answer to a question about the judged rasters says.
use Rattle.drain_c.specs.Names.{Result, Ok, Err, IfOk, Judged, Outcome, Refusal, GroundSet, IsOutcomeIn}
use Rattle.drain_c.specs.declared.call.Call.{Call}
use Rattle.drain_c.specs.Calls.{OfCall}
use Rattle.drain_c.specs.Given.{set_in}

-- the outcome in an answer, or its refusal
abbrev pub outcome_by : {A : Type 0} → (A → Outcome) → Result A Refusal → Result Outcome Refusal
outcome_by outcome (Ok a) = Ok (outcome a)
outcome_by outcome (Err refusal) = Err refusal

-- of a call: the outcome is that of the judged rasters, and what else is said holds of them
pub record IsAnswerTo {A : Type 0} (call : Call) (outcome : A → Outcome) (Says : Judged → GroundSet → A → Type 0) (answer : Result A Refusal) : Type 0 where
  pub outcome_is : OfCall call (λ i. IsOutcomeIn call.judged (set_in i) (outcome_by outcome answer))
  pub says : IfOk answer (λ a. OfCall call (λ i. Says call.judged (set_in i) a))
