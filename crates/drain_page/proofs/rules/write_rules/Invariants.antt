use Rattle.std.proofs.Common.{◌≡◌}
use Rattle.drain_page.proofs.rules.write_rules.Given as goal

-- the head stays
abbrev pub invariant-loop-rule : goal.invariant-loop-rule
invariant-loop-rule g l = l.json ≡ l.fn.json
