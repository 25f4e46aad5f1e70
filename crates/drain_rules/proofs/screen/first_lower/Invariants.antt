use Rattle.drain_rules.proofs.Names.{◌<◌, ℕ, IsBelowAt}
use Rattle.drain_rules.proofs.screen.first_lower.Given as goal

-- none of the places that were passed is below
abbrev pub invariant-loop-place : goal.invariant-loop-place
invariant-loop-place l = (k : ℕ) → k < l.place → ¬ IsBelowAt l.con l.ground k
