use Rattle.drain_faults.proofs.Names.{◌≡◌, ℕ, ◌<◌, get_or, false, VoidCell, of_rule}
use Rattle.drain_grid.proofs.AllRules.{rules}
use Rattle.drain_faults.proofs.per_rule.PerRule+bool.least.Given as goal

-- no flag was set so far
abbrev pub invariant-loop-rule : goal.invariant-loop-rule
invariant-loop-rule l = (k : ℕ) → k < l.rule-index → of_rule l.self (get_or rules k VoidCell) ≡ false
