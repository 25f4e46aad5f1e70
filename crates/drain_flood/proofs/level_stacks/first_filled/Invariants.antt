-- No level that was passed has an item.
use Rattle.drain_flood.proofs.Names.{◌≡◌, ℕ, ◌<◌, ◌≤◌, length, stack_at}
use Rattle.drain_flood.proofs.level_stacks.first_filled.Given as goal

abbrev pub invariant-loop-place : goal.invariant-loop-place
invariant-loop-place l = (k : ℕ) → l.fn.from ≤ k → k < l.place → length (stack_at l.stacks k) ≡ 0
