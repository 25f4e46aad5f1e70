use Rattle.drain_merge.proofs.Names.{◌≡◌, ℕ, length, spacing_at}
use Rattle.drain_merge.proofs.joined_spacings.shortened.Given as goal

-- each row is spaced as at first
abbrev pub invariant-loop-listed : goal.invariant-loop-listed
invariant-loop-listed l = (row : ℕ) → spacing_at l.listed.items row ≡ spacing_at l.initial.listed.items row

abbrev pub decreases-loop-listed : goal.decreases-loop-listed
decreases-loop-listed l = length l.listed.items
