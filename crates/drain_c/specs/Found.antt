-- An answer in numbers. They are this project's own: the statuses are those that the program exits with.
use Rattle.drain_c.specs.Names.{ℕ, Result, Ok, Err, rule_number, Rule, Outcome, Refusal, OutOfMemory, ReadFailed}
use Rattle.drain_c.specs.declared.found.Found.{Found}
use Rattle.drain_answer.specs.declared.outcome.Outcome.TheVariants.{Accepted, AcceptedSurface, Rejected, NoEnd, NotFilled}

-- a status, without a rule or a cell
abbrev pub status_only : ℕ → Found
status_only status = record { status = status; rule = 0; row = 0; col = 0 }

-- 3 where memory or a read failed, else 2
abbrev pub refusal_found : Refusal → Found
refusal_found OutOfMemory = status_only 3
refusal_found ReadFailed = status_only 3
refusal_found refusal = status_only 2

-- 1, the number of the rule, and the cell
abbrev pub rejection_found : Rule → ℕ → ℕ → Found
rejection_found rule row col = record { status = 1; rule = rule_number rule; row = row; col = col }

-- 1, no rule, and the cell
abbrev pub place_found : ℕ → ℕ → Found
place_found row col = record { status = 1; rule = 0; row = row; col = col }

-- 0 of an acceptance, 1 of a rejection, with the rule, 0 of a run without an end and of a cell that isn't filled, and the cell
abbrev pub outcome_found : Result Outcome Refusal → Found
outcome_found (Ok (Accepted counts)) = status_only 0
outcome_found (Ok (AcceptedSurface counts)) = status_only 0
outcome_found (Ok (Rejected rule row col)) = rejection_found rule row col
outcome_found (Ok (NoEnd row col)) = place_found row col
outcome_found (Ok (NotFilled row col)) = place_found row col
outcome_found (Err refusal) = refusal_found refusal
