-- Why a report can't be read, and the line and the status for it. The words are this project's own.
use Rattle.std.specs.Prelude.{◌⊎◌, ◌++◌}
use Rattle.drain_cli.specs.Names.{ℕ, List, codes, decimal, Consumes, IsAtEnd, Source, GivesUp, full_patience, TakesMoreThan, Status, Failed}
use Rattle.drain_device.specs.Counts.{Answered}
use Rattle.drain_device.specs.declared.read.BodyFault.TheVariants as body
use Rattle.drain_files.specs.declared.whole_input.TheConstants.{MAX_TEXT_BYTES}
use Rattle.drain_answer.specs.declared.outcome.Status.TheVariants.{Refused}
use Rattle.drain_report.specs.Faults.{FaultFits}
use Rattle.drain_report.specs.declared.fault.ReportFault.TheVariants.{WrongVersion, MissingLine, BadLine, OutOfRange, AfterEnd, OutOfMemory}
use Rattle.drain_cli.specs.declared.runs.report_input.BadReport.{BadReport}
use Rattle.drain_cli.specs.declared.runs.report_input.BadReport.TheVariants.{Unread, NoText}

-- why a source holds no report: it gave a whole text that has this fault; or it failed, was interrupted too often or gave
-- more bytes than a text can have; or memory ran out
abbrev pub IsBadReport : {R : Type 0} → Source R → R → R → BadReport → Type 0
IsBadReport source old new (NoText fault) =
    (text : List ℕ) × Consumes (source.bytes_left old) (source.bytes_left new) text × IsAtEnd (source.bytes_left new) × FaultFits text fault
IsBadReport source old new (Unread body.ReadFailed) =
    (failures : ℕ) × (interruptions : ℕ) × Answered (source.counts old) (source.counts new) failures interruptions
    × (GivesUp full_patience failures interruptions ⊎ TakesMoreThan MAX_TEXT_BYTES (source.bytes_left old) (source.bytes_left new))
IsBadReport source old new (Unread body.OutOfMemory) = Unit {0}

-- refused BadReport PLACE, and a word
abbrev pub bad_report : ℕ → List ℕ → List ℕ
bad_report place fault = codes "refused BadReport " ++ decimal place ++ codes " " ++ fault

-- refused BadReport PLACE FAULT, with the line for a fault of one; failed WORD if memory ran out or the source failed
abbrev pub fault_line : ℕ → BadReport → List ℕ
fault_line place (Unread body.ReadFailed) = codes "failed ReadFailed"
fault_line place (Unread body.OutOfMemory) = codes "failed OutOfMemory"
fault_line place (NoText OutOfMemory) = codes "failed OutOfMemory"
fault_line place (NoText WrongVersion) = bad_report place (codes "WrongVersion")
fault_line place (NoText AfterEnd) = bad_report place (codes "AfterEnd")
fault_line place (NoText (MissingLine n)) = bad_report place (codes "MissingLine " ++ decimal n)
fault_line place (NoText (BadLine n)) = bad_report place (codes "BadLine " ++ decimal n)
fault_line place (NoText (OutOfRange n)) = bad_report place (codes "OutOfRange " ++ decimal n)

-- failed if memory ran out or the source failed, else refused
abbrev pub fault_status : BadReport → Status
fault_status (Unread fault) = Failed
fault_status (NoText OutOfMemory) = Failed
fault_status (NoText fault) = Refused
