use Rattle.drain_files.proofs.Names.{ℕ, IsGcd}
use Rattle.drain_files.proofs.open_spacing.common_divisor.Given as goal

-- a common divisor of what is left is one of both sizes
abbrev pub invariant-loop-y : goal.invariant-loop-y
invariant-loop-y l = (g : ℕ) → IsGcd l.x l.y g → IsGcd l.fn.width l.fn.height g

abbrev pub decreases-loop-y : goal.decreases-loop-y
decreases-loop-y l = l.y
