use Rattle.std.proofs.Common.{◌≡◌}
use Rattle.drain_page.proofs.float_ways.write_float_ways.Given as goal

-- the head stays
abbrev pub invariant-loop-direction : goal.invariant-loop-direction
invariant-loop-direction l = l.json ≡ l.fn.json
