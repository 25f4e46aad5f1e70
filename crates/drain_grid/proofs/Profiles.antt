-- The rules of a part of a profile are those of the profile, and where all of them hold, those of the part do; the profile without spill parents
-- follows from the one with them, rule by rule.
use Rattle.drain_grid.proofs.Names.{◌≢◌, ◌↔◌, refl, arith, Cell, Patch, Rule, VoidCell, Missing, BadCode, BelowGround, OpenRaised, NoSpill, SpillHeight, SpillRank, NotLeast, Slope, OutletCode, FlatStep, Accumulation, Label, SharedLabel, product_of, NoDataNumbers, rule_number, IsAnyRule, IsFillRule, IsFlowRule, Profile, fill_rules, flow_rules, profile1, profile2, surface_rules, level_rules, unranked, Grid, Products, patch_at, RulesHold, Profile2FromProfile1}
use Rattle.drain_grid.specs.GridRules.{HoldsAt}

-- a rule on the conditioned elevation says what it says in the profile without spill parents
pub surface_same : (nodata : NoDataNumbers) (p : Patch) (r : Rule) → IsFillRule r → surface_rules p r ↔ profile2 nodata p r
surface_same nodata p BelowGround own = (λ h. h, λ h. h)
surface_same nodata p OpenRaised own = (λ h. h, λ h. h)
surface_same nodata p NoSpill own = (λ h. h, λ h. h)
surface_same nodata p SpillHeight own = (λ h. h, λ h. h)
surface_same nodata p SpillRank own = (λ h. h, λ h. h)
surface_same nodata p NotLeast own = (λ h. h, λ h. h)
surface_same nodata p r own = absurd (omega (arith, own.0, own.1))

-- and so does one on where water goes
pub flow_same : (nodata : NoDataNumbers) (p : Patch) (r : Rule) → IsFlowRule r → flow_rules p r ↔ profile2 nodata p r
flow_same nodata p Slope own = (λ h. h, λ h. h)
flow_same nodata p OutletCode own = (λ h. h, λ h. h)
flow_same nodata p FlatStep own = (λ h. h, λ h. h)
flow_same nodata p Accumulation own = (λ h. h, λ h. h)
flow_same nodata p Label own = (λ h. h, λ h. h)
flow_same nodata p SharedLabel own = (λ h. h, λ h. h)
flow_same nodata p r own = absurd (omega (arith, own.0))

-- without ranks both say what they say in the profile without ranks
pub surface_same_unranked : (nodata : NoDataNumbers) (p : Patch) (r : Rule) → IsFillRule r → surface_rules p r ↔ unranked nodata p r
surface_same_unranked nodata p VoidCell own = absurd (omega (arith, own.0))
surface_same_unranked nodata p Missing own = absurd (omega (arith, own.0))
surface_same_unranked nodata p FlatStep own = absurd (omega (arith, own.1))
surface_same_unranked nodata p r own = surface_same nodata p r own

pub level_same : (nodata : NoDataNumbers) (p : Patch) (r : Rule) → IsFlowRule r → level_rules p r ↔ unranked nodata p r
level_same nodata p VoidCell own = absurd (omega (arith, own.0))
level_same nodata p Missing own = absurd (omega (arith, own.0))
level_same nodata p FlatStep own = (λ h. h, λ h. h)
level_same nodata p r own = flow_same nodata p r own

-- and of the rules on where water goes only the one on flats looks at ranks
pub flow_level : (p : Patch) (r : Rule) → rule_number r ≢ rule_number FlatStep → flow_rules p r ↔ level_rules p r
flow_level p FlatStep other = absurd (other refl)
flow_level p r other = (λ h. h, λ h. h)

-- a rule that says less on the patch holds at the cell
pub HoldsAt-patch : (P Q : Profile) (g : Grid) (ps : Products) (c : Cell) (r : Rule) → (P (patch_at g ps c) r → Q (patch_at g ps c) r) →
    HoldsAt P g ps c r → HoldsAt Q g ps c r
HoldsAt-patch P Q g ps c SharedLabel says h = h
HoldsAt-patch P Q g ps c r says h = says h

-- rules that hold are fewer rules that hold
pub RulesHold-within : (profile : Profile) (IsOwn IsWider : Rule → Type 0) (g : Grid) (ps : Products) → ((r : Rule) → IsOwn r → IsWider r) →
    RulesHold profile IsWider g ps → RulesHold profile IsOwn g ps
RulesHold-within profile IsOwn IsWider g ps within rules c r inside own = rules c r inside (within r own)

-- where all rules without spill parents hold, those on the conditioned elevation do, and those on where water goes
pub RulesHold-surface : (nodata : NoDataNumbers) (g : Grid) (ps : Products) → RulesHold (profile2 nodata) IsAnyRule g ps →
    RulesHold surface_rules IsFillRule g ps
RulesHold-surface nodata g ps rules c r inside own =
    HoldsAt-patch (profile2 nodata) surface_rules g ps c r (surface_same nodata (patch_at g ps c) r own).1
    (rules c r inside (omega (arith, own.0), omega (arith, own.1)))

pub RulesHold-flow : (nodata : NoDataNumbers) (g : Grid) (ps : Products) → RulesHold (profile2 nodata) IsAnyRule g ps →
    RulesHold flow_rules IsFlowRule g ps
RulesHold-flow nodata g ps rules c r inside own =
    HoldsAt-patch (profile2 nodata) flow_rules g ps c r (flow_same nodata (patch_at g ps c) r own).1
    (rules c r inside (omega (arith, own.0), own.1))

-- where all rules without ranks hold, those on where water goes do
pub RulesHold-level : (nodata : NoDataNumbers) (g : Grid) (ps : Products) → RulesHold (unranked nodata) IsAnyRule g ps →
    RulesHold level_rules IsFlowRule g ps
RulesHold-level nodata g ps rules c r inside own =
    HoldsAt-patch (unranked nodata) level_rules g ps c r (level_same nodata (patch_at g ps c) r own).1
    (rules c r inside (omega (arith, own.0), own.1))

-- rules on the conditioned elevation with spill parents give those without
less_fill : (p : Patch) (r : Rule) → fill_rules p r → surface_rules p r
less_fill p BelowGround h = h
less_fill p OpenRaised h = λ is_open. (h is_open).0
less_fill p NotLeast h = h
less_fill p r h = tt

pub surface_from_fill : (g : Grid) (ps : Products) → RulesHold fill_rules IsFillRule g ps → RulesHold surface_rules IsFillRule g ps
surface_from_fill g ps rules c r inside own = HoldsAt-patch fill_rules surface_rules g ps c r (less_fill (patch_at g ps c) r) (rules c r inside own)

-- each rule without spill parents follows from the rule with them: 1, 2, 3 and 5 lose a part, and 6 to 8 all
less_rule : (nodata : NoDataNumbers) (p : Patch) (r : Rule) → profile1 nodata p r → profile2 nodata p r
less_rule nodata p VoidCell h = λ is_void q. h is_void (product_of q)
less_rule nodata p Missing h = λ has_data q. h has_data (product_of q)
less_rule nodata p BadCode h = λ has_data. (h has_data).0
less_rule nodata p BelowGround h = h
less_rule nodata p OpenRaised h = λ is_open. (h is_open).0
less_rule nodata p NoSpill h = tt
less_rule nodata p SpillHeight h = tt
less_rule nodata p SpillRank h = tt
less_rule nodata p NotLeast h = h
less_rule nodata p r h = h

pub profile2_from_profile1 : Profile2FromProfile1
profile2_from_profile1 g ps nodata c r h = HoldsAt-patch (profile1 nodata) (profile2 nodata) g ps c r (less_rule nodata (patch_at g ps c) r) h
