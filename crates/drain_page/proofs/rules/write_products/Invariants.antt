use Rattle.std.proofs.Common.{◌≡◌}
use Rattle.drain_page.proofs.rules.write_products.Given as goal

-- the head stays
abbrev pub invariant-loop-product : goal.invariant-loop-product
invariant-loop-product g l = l.json ≡ l.fn.json
