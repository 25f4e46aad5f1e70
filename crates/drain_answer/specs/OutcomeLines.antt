-- The line for an outcome. Its words are this project's own.
use Rattle.std.specs.Prelude.{ℕ, List, ◌++◌, Result, Ok, Err, codes, decimal}
use Rattle.drain_answer.specs.FillLines.{fill_accepted_line as surface_line}
use Rattle.drain_answer.specs.Lines.{accepted_line, refusal_line, rejected_line}
use Rattle.drain_answer.specs.declared.refusal.Refusal.{Refusal}
use Rattle.drain_answer.specs.declared.outcome.Outcome.{Outcome}
use Rattle.drain_answer.specs.declared.outcome.Outcome.TheVariants.{Accepted, AcceptedSurface, Rejected, NoEnd, NotFilled}

-- rejected NAME row=R col=C
abbrev pub cell_line : List ℕ → ℕ → ℕ → List ℕ
cell_line text row col = text ++ (codes " row=" ++ (decimal row ++ (codes " col=" ++ decimal col)))

-- the line of an outcome
abbrev pub outcome_line : Outcome → List ℕ
outcome_line (Accepted counts) = accepted_line counts
outcome_line (AcceptedSurface counts) = surface_line counts
outcome_line (Rejected rule row col) = rejected_line rule row col
outcome_line (NoEnd row col) = cell_line (codes "rejected NoEnd") row col
outcome_line (NotFilled row col) = cell_line (codes "rejected NotFilled") row col

-- the line of any answer
abbrev pub outcome_report_line : Result Outcome Refusal → List ℕ
outcome_report_line (Ok outcome) = outcome_line outcome
outcome_report_line (Err refusal) = refusal_line refusal
