use Rattle.std.proofs.Common.{◌≡◌}
use Rattle.drain_page.proofs.run.write_ring.Given as goal

-- the head stays
abbrev pub invariant-loop-cell : goal.invariant-loop-cell
invariant-loop-cell g l = l.json ≡ l.fn.json
