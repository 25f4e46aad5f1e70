-- The line for the answer of an audit. Its words are this project's own.
use Rattle.std.specs.Prelude.{ℕ, List, ◌++◌, Result, Ok, Err, codes, decimal}
use Rattle.drain_answer.specs.Lines.{accepted_line, refusal_line, rejected_line}
use Rattle.drain_answer.specs.declared.outcome.AuditVerdict.{AuditVerdict}
use Rattle.drain_answer.specs.declared.outcome.AuditVerdict.TheVariants.{Accepted, NoEnd, Rejected}
use Rattle.drain_answer.specs.declared.refusal.Refusal.{Refusal}

-- rejected NoEnd row=R col=C
abbrev pub no_end_line : ℕ → ℕ → List ℕ
no_end_line row col = codes "rejected NoEnd row=" ++ decimal row ++ codes " col=" ++ decimal col

-- the line of a verdict; except for paths without an end it is that of a check
abbrev pub audit_line : AuditVerdict → List ℕ
audit_line (Accepted counts) = accepted_line counts
audit_line (Rejected rule row col) = rejected_line rule row col
audit_line (NoEnd row col) = no_end_line row col

-- the line of any answer
abbrev pub audit_report_line : Result AuditVerdict Refusal → List ℕ
audit_report_line (Ok verdict) = audit_line verdict
audit_report_line (Err refusal) = refusal_line refusal
