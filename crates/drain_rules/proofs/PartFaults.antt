-- The first fault of the judged rasters at a patch, from the answers on the surface and on where water goes.
use Rattle.drain_rules.proofs.Names.{Option, None, arith, Patch, Rule, VoidCell, BadCode, BelowGround, OpenRaised, NoSpill, SpillHeight, SpillRank, NotLeast, surface_rules, IsFillRule, IsLeastFault, IsPresenceRule, NoDataNumbers, IsFrom, found_next, Judged, part_rules}
use Rattle.std.proofs.Common.{◌↔◌}
use Rattle.drain_rules.proofs.Faults.{IsLeastFault-same}

-- a rule on the surface says what it says among those about judged rasters
surface_part : (judged : Judged) (nodata : NoDataNumbers) (p : Patch) (r : Rule) → IsFillRule r → surface_rules p r ↔ part_rules judged nodata p r
surface_part judged nodata p BelowGround own = (λ h. h, λ h. h)
surface_part judged nodata p OpenRaised own = (λ h. h, λ h. h)
surface_part judged nodata p NoSpill own = (λ h. h, λ h. h)
surface_part judged nodata p SpillHeight own = (λ h. h, λ h. h)
surface_part judged nodata p SpillRank own = (λ h. h, λ h. h)
surface_part judged nodata p NotLeast own = (λ h. h, λ h. h)
surface_part judged nodata p r own = absurd (omega (arith, own.0, own.1))

-- where the rules before hold, the answer on the surface is that of all rules so far
pub fill_to : (judged : Judged) (nodata : NoDataNumbers) (p : Patch) (o : Option Rule) → IsLeastFault IsPresenceRule (part_rules judged nodata p) None →
    IsLeastFault IsFillRule (surface_rules p) o → IsLeastFault (IsFrom VoidCell NotLeast) (part_rules judged nodata p) o
fill_to judged nodata p o hold answer =
    found_next (part_rules judged nodata p) VoidCell BadCode NotLeast o (omega arith) hold
    (IsLeastFault-same IsFillRule (surface_rules p) (part_rules judged nodata p) o (surface_part judged nodata p) answer)
