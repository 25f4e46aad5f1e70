-- How a run of `drain fill` ends: with the answer to its bytes, or without one as memory ran out or the source failed.
use Rattle.std.specs.Prelude.{◌≡◌, ◌⊎◌, ◌++◌, ◌∷◌}
use Rattle.drain_cli.specs.Names.{ℕ, List, [], Option, Some, None, Result, Ok, Err, IfOk, IsErrOf, codes, Source, ReadFails, Fields, Answers, fault_text, Status, failure_text, Whole}
use Rattle.drain_device.specs.declared.read.BodyFault.{BodyFault}
use Rattle.drain_device.specs.declared.read.BodyFault.TheVariants.{ReadFailed, OutOfMemory}
use Rattle.drain_header.specs.declared.fault.HeaderFault.{HeaderFault}
use Rattle.drain_header.specs.Text.{text_of}
use Rattle.drain_answer.specs.Printing.{line_feed}
use Rattle.drain_grid.specs.Path.{IsFilled}
use Rattle.drain_rules.specs.Fill.{fill_grid, fill_products, IsFillAnswer}
use Rattle.drain_grid.specs.declared.fill_verdict.FillVerdict.{FillVerdict}
use Rattle.drain_grid.specs.declared.fill_verdict.FillVerdict.TheVariants.{Accepted, Rejected}
use Rattle.drain_grid.specs.declared.fill_verdict.FillRefusal.{FillRefusal}
use Rattle.drain_answer.specs.FillLines.{fill_line}
use Rattle.drain_answer.specs.declared.outcome.Status.TheVariants as status

-- How a run of `drain header` ends: with the answer to its bytes, or without one as memory ran out or the source
-- failed.

-- an answer, or why there is none
abbrev pub HeaderOutcome : Type 0
HeaderOutcome = Result (Result Fields HeaderFault) BodyFault

-- a header, if there is one, is of whole heights
abbrev pub IsWholeOutcome : HeaderOutcome → Type 0
IsWholeOutcome outcome = IfOk outcome (λ answer. IfOk answer (λ h. h.kind ≡ Whole))

-- what is printed: the lines of the header, or one line
abbrev pub header_printed : HeaderOutcome → List ℕ
header_printed (Ok (Ok h)) = text_of h
header_printed (Ok (Err fault)) = codes "refused " ++ fault_text fault ++ line_feed ∷ []
header_printed (Err fault) = failure_text fault

-- the status that the run ends with, if that is printed
abbrev pub header_status : HeaderOutcome → Status
header_status (Ok (Ok h)) = status.Done
header_status (Ok (Err fault)) = status.Refused
header_status (Err fault) = status.Failed

-- an answer is the one of the bytes that the source had left, if they are known
abbrev pub AnswersHeaderTold : Option (List ℕ) → HeaderOutcome → Type 0
AnswersHeaderTold None outcome = Unit {0}
AnswersHeaderTold (Some bytes) (Ok answer) = Answers bytes answer
AnswersHeaderTold (Some bytes) (Err fault) = Unit {0}

-- the answer printed, or out of memory for the text of its header
abbrev pub IsAnswerToldAs : Result Fields HeaderFault → HeaderOutcome → Type 0
IsAnswerToldAs (Ok h) told = (told ≡ Ok (Ok h)) ⊎ (told ≡ Err OutOfMemory)
IsAnswerToldAs (Err fault) told = told ≡ Ok (Err fault)

-- the outcome printed: that of the read, unless memory ran out for that text
abbrev pub IsToldAs : HeaderOutcome → HeaderOutcome → Type 0
IsToldAs (Ok answer) told = IsAnswerToldAs answer told
IsToldAs (Err fault) told = told ≡ Err fault

-- the outcome of a run whose source was as the first before it, and as the second after it
pub record IsHeaderOutcome {R : Type 0} (source : Source R) (old new : R) (outcome : HeaderOutcome) : Type 0 where
  pub answer : AnswersHeaderTold (source.bytes_left old) outcome
  pub faults : ReadFails (source.counts old) (source.counts new) (IsErrOf outcome ReadFailed)

-- an answer, or why there is none
abbrev pub FillOutcome : Type 0
FillOutcome = Result (Result FillVerdict FillRefusal) BodyFault

-- the line that is printed, without its line end
abbrev pub outcome_line : FillOutcome → List ℕ
outcome_line (Ok answer) = fill_line answer
outcome_line (Err ReadFailed) = codes "failed ReadFailed"
outcome_line (Err OutOfMemory) = codes "failed OutOfMemory"

-- the status that the run ends with, if its line is printed
abbrev pub outcome_status : FillOutcome → Status
outcome_status (Ok (Ok (Accepted counts))) = status.Done
outcome_status (Ok (Ok (Rejected rule row col))) = status.Rejected
outcome_status (Ok (Err refusal)) = status.Refused
outcome_status (Err fault) = status.Failed

-- an answer is the one of the bytes that the source had left, if they are known
abbrev pub AnswersTold : ℕ → Option (List ℕ) → FillOutcome → Type 0
AnswersTold side None outcome = Unit {0}
AnswersTold side (Some bytes) (Ok answer) = IsFillAnswer side bytes answer
AnswersTold side (Some bytes) (Err fault) = Unit {0}

-- the outcome of a run whose source was as the first before it, and as the second after it
pub record IsFillOutcome {R : Type 0} (source : Source R) (side : ℕ) (old new : R) (outcome : FillOutcome) : Type 0 where
  pub answer : AnswersTold side (source.bytes_left old) outcome
  pub faults : ReadFails (source.counts old) (source.counts new) (IsErrOf outcome ReadFailed)

-- the conditioned elevations of these bytes are the filled surface of their tile, if the source's bytes are known
abbrev pub IsFilledIfTold : ℕ → Option (List ℕ) → Type 0
IsFilledIfTold side None = Unit {0}
IsFilledIfTold side (Some bytes) = IsFilled (fill_grid side bytes) (fill_products side bytes).con
