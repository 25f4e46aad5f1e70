-- The rules on the conditioned elevation without spill parents, after BelowGround: only two of them require something.
use Rattle.drain_fill.proofs.Names.{◌<◌, arith, Patch, BelowGround, OpenRaised, NotLeast, NotLeastHolds, OpenRaisedWithoutSpill, surface_rules}
use Rattle.drain_grid.specs.declared.rule.Rule.{Rule}
use Rattle.drain_grid.specs.Rule.{IsAboveRule, rule_number}

-- where those two hold, all do
pub all_above : (p : Patch) → OpenRaisedWithoutSpill p → NotLeastHolds p → (r : Rule) → IsAboveRule r → surface_rules p r
all_above p unraised least BelowGround own = absurd (omega (arith, own.0))
all_above p unraised least OpenRaised own = unraised
all_above p unraised least NotLeast own = least
all_above p unraised least r own = tt

-- where the first holds, all before the other do
pub all_before_least : (p : Patch) → OpenRaisedWithoutSpill p → (q : Rule) → IsAboveRule q → rule_number q < 9 → surface_rules p q
all_before_least p unraised BelowGround own before = absurd (omega (arith, own.0))
all_before_least p unraised OpenRaised own before = unraised
all_before_least p unraised NotLeast own before = absurd (omega (arith, before))
all_before_least p unraised r own before = tt
