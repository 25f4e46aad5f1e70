use Rattle.drain_merge.proofs.Names.{◌≡◌, ℕ, ◌+◌, ◌<◌, spacing_at}
use Rattle.drain_merge.proofs.spacings.same_rows.Given as goal

abbrev pub invariant-loop-k : goal.invariant-loop-k
invariant-loop-k l = (k : ℕ) → k < l.k → spacing_at l.a (l.from_a + k) ≡ spacing_at l.b (l.from_b + k)
