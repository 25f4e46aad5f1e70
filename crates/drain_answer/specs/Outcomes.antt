-- Which outcomes accept.
use Rattle.std.specs.Prelude.{ℕ, ◌++◌, List, [], ◌∷◌, codes}
use Rattle.drain_device.specs.declared.read.BodyFault.{BodyFault}
use Rattle.drain_device.specs.declared.read.BodyFault.TheVariants.{ReadFailed, OutOfMemory}
use Rattle.drain_answer.specs.Printing.{line_feed}
use Rattle.drain_answer.specs.declared.outcome.Outcome.{Outcome}
use Rattle.drain_answer.specs.declared.outcome.Outcome.TheVariants.{Accepted, AcceptedSurface, Rejected, NoEnd, NotFilled}

-- What is printed if a run has no answer.

-- memory ran out, or a source failed for good
abbrev pub failure_text : BodyFault → List ℕ
failure_text ReadFailed = codes "failed ReadFailed" ++ line_feed ∷ []
failure_text OutOfMemory = codes "failed OutOfMemory" ++ line_feed ∷ []

-- it is an acceptance
abbrev pub IsAcceptedOutcome : Outcome → Type 0
IsAcceptedOutcome (Accepted counts) = Unit {0}
IsAcceptedOutcome (AcceptedSurface counts) = Unit {0}
IsAcceptedOutcome (Rejected rule row col) = ⊥
IsAcceptedOutcome (NoEnd row col) = ⊥
IsAcceptedOutcome (NotFilled row col) = ⊥
