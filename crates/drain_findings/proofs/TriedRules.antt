-- A rule on a judged product requires something: some patch breaks it.
use Rattle.drain_findings.proofs.Names.{◌≡◌, ℕ, ℤ, pos, ◌+ℤ◌, [], ◌∷◌, Option, Some, None, false, refl, arith, ◌≢◌, Bool, true, IsTrue, Patch, BadCode, BelowGround, OpenRaised, NotLeast, Slope, OutletCode, FlatStep, Accumulation, Label, VoidCell, Missing, NoSpill, SpillHeight, SpillRank, SharedLabel, Values, NoDataNumbers, BadCodeWithoutSpill, BelowGroundHolds, OpenRaisedWithoutSpill, NotLeastHolds, SlopeHolds, OutletCodeHolds, FlatStepHolds, AccumulationHolds, LabelHolds, check_rules, LevelStepHolds, unranked, Judged, Rules, Rule, SetProduct, Con, IfJudged, has_acc, has_bas, has_dir, has_product, part_rules, rules_about, tried, judged}
use Rattle.std.proofs.lemmas.Int.{ints}
use Rattle.drain_grid.specs.Spacing.{unit_spacing}
use Rattle.drain_grid.proofs.Decisions.{no, refuted}
use Rattle.drain_grid.proofs.PatchDecisions.{is_closed, has_lower}
use Rattle.drain_grid.proofs.RuleDecisions.{names_some, patch_rule}
use Rattle.std.proofs.lemmas.Bool.{false≢true}
use Rattle.drain_grid.specs.declared.judged.Judged.TheVariants as rasters

-- For each rule a patch that breaks it.

-- a data cell with this ground, con, dir and bas; its accumulation is 0
abbrev numbers : (ground con dir bas : ℕ) → Values
numbers ground con dir bas = record { z = Some (pos ground); sink = false; con = pos con; dir = pos dir; acc = pos 0; bas = pos bas; spl = pos 0; rnk = pos 0 }

-- on the grid's edge, raised above its ground and its eastern neighbour, with a number that is no code
abbrev pub raised : Patch
raised = record { here = numbers 0 1 3 0; around = Some (numbers 0 0 0 0) ∷ []; spacing = unit_spacing }

-- on the grid's edge, level with its eastern neighbour, to which it leads, with another label
abbrev pub astray : Patch
astray = record { here = numbers 0 0 1 0; around = Some (numbers 0 0 0 1) ∷ []; spacing = unit_spacing }

abbrev beside : Option Values
beside = Some (numbers 0 0 0 0)

-- below its ground, level with its eight neighbours, with the code of an outlet
abbrev pub sunk : Patch
sunk = record { here = numbers 1 0 0 0; around = beside ∷ beside ∷ beside ∷ beside ∷ beside ∷ beside ∷ beside ∷ beside ∷ []; spacing = unit_spacing }

-- a void whose con isn't the no-data number
abbrev pub void_with_con : NoDataNumbers → Patch
void_with_con nodata = record {
  here = record { z = None; sink = false; con = nodata.con +ℤ pos 1; dir = pos 0; acc = pos 0; bas = pos 0; spl = pos 0; rnk = pos 0 };
  around = [];
  spacing = unit_spacing;
}

-- a data cell whose con is the no-data number
abbrev pub data_without_con : NoDataNumbers → Patch
data_without_con nodata = record {
  here = record { z = Some (pos 0); sink = false; con = nodata.con; dir = pos 0; acc = pos 0; bas = pos 0; spl = pos 0; rnk = pos 0 };
  around = [];
  spacing = unit_spacing;
}

pub not_next : (n : ℤ) → ¬ (n +ℤ pos 1 ≡ n)
not_next n same = omega (arith, ints)

pub bad_code : NoDataNumbers → ¬ BadCodeWithoutSpill raised
bad_code nodata = refuted (patch_rule nodata raised BadCode) refl

pub below_ground : NoDataNumbers → ¬ BelowGroundHolds sunk
below_ground nodata = refuted (patch_rule nodata sunk BelowGround) refl

pub open_raised : NoDataNumbers → ¬ OpenRaisedWithoutSpill raised
open_raised nodata = refuted (patch_rule nodata raised OpenRaised) refl

pub not_least : NoDataNumbers → ¬ NotLeastHolds raised
not_least nodata = refuted (patch_rule nodata raised NotLeast) refl

pub slope : NoDataNumbers → ¬ SlopeHolds raised
slope nodata = refuted (patch_rule nodata raised Slope) refl

pub outlet_code : NoDataNumbers → ¬ OutletCodeHolds astray
outlet_code nodata = refuted (patch_rule nodata astray OutletCode) refl

pub flat_step : NoDataNumbers → ¬ FlatStepHolds sunk
flat_step nodata = refuted (patch_rule nodata sunk FlatStep) refl

pub level_step : ¬ LevelStepHolds sunk
level_step holds =
    let found = holds ((is_closed sunk).sound refl) ((no (has_lower sunk)).sound refl) in
    refuted (names_some (pos 0)) refl (found.0, found.2.named)

pub accumulation : NoDataNumbers → ¬ AccumulationHolds raised
accumulation nodata = refuted (patch_rule nodata raised Accumulation) refl

pub label : NoDataNumbers → ¬ LabelHolds astray
label nodata = refuted (patch_rule nodata astray Label) refl

-- the product is judged
abbrev pub IsLookedAt : Judged → Option SetProduct → Type 0
IsLookedAt rasters None = ⊥
IsLookedAt rasters (Some product) = IsTrue (has_product rasters product)

-- some patch breaks the rule
abbrev pub IsBroken : Rules → Rule → Type 0
IsBroken rules r = (p : Patch) × ¬ tried rules p r

of_judged : (is_judged : Bool) (P : Type 0) → IsTrue is_judged → ¬ P → ¬ IfJudged is_judged P
of_judged true P is not holds = not holds
of_judged false P is not holds = absurd (false≢true is)

-- of each kind of rules at once: those about some rasters, those without ranks and those with them
about : (some : Judged) (nodata : NoDataNumbers) (p : Patch) (r : Rule) → ¬ part_rules some nodata p r → ¬ unranked nodata p r → ¬ check_rules nodata p r →
    ¬ rules_about some nodata p r
about rasters.All nodata p r part plain ranked = plain
about rasters.AllWithRanks nodata p r part plain ranked = ranked
about some nodata p r part plain ranked = part

in_each : (rules : Rules) (p : Patch) (r : Rule) → ¬ part_rules rules.judged rules.nodata p r → ¬ unranked rules.nodata p r → ¬ check_rules rules.nodata p r → IsBroken rules r
in_each rules p r part plain ranked = (p, about rules.judged rules.nodata p r part plain ranked)

pub void_cell : (rules : Rules) → IsBroken rules VoidCell
void_cell rules =
    in_each rules (void_with_con rules.nodata) VoidCell (λ holds. not_next rules.nodata.con (holds refl).con_is)
    (λ holds. not_next rules.nodata.con (holds refl).con_is) (λ holds. not_next rules.nodata.con (holds refl Con))

pub missing : (rules : Rules) → IsBroken rules Missing
missing rules =
    in_each rules (data_without_con rules.nodata) Missing (λ holds. (holds refl).con_differs refl) (λ holds. (holds refl).con_differs refl)
    (λ holds. holds refl Con refl)

pub tried_rule : (rules : Rules) (r : Rule) → IsLookedAt rules.judged (judged r) → r ≢ SharedLabel → IsBroken rules r
tried_rule rules VoidCell looked other = absurd looked
tried_rule rules Missing looked other = absurd looked
tried_rule rules NoSpill looked other = absurd looked
tried_rule rules SpillHeight looked other = absurd looked
tried_rule rules SpillRank looked other = absurd looked
tried_rule rules SharedLabel looked other = absurd (other refl)
tried_rule rules BadCode looked other =
    in_each rules raised BadCode (of_judged (has_dir rules.judged) _ looked (bad_code rules.nodata)) (bad_code rules.nodata) (bad_code rules.nodata)
tried_rule rules BelowGround looked other = in_each rules sunk BelowGround (below_ground rules.nodata) (below_ground rules.nodata) (below_ground rules.nodata)
tried_rule rules OpenRaised looked other = in_each rules raised OpenRaised (open_raised rules.nodata) (open_raised rules.nodata) (open_raised rules.nodata)
tried_rule rules NotLeast looked other = in_each rules raised NotLeast (not_least rules.nodata) (not_least rules.nodata) (not_least rules.nodata)
tried_rule rules Slope looked other =
    in_each rules raised Slope (of_judged (has_dir rules.judged) _ looked (slope rules.nodata)) (slope rules.nodata) (slope rules.nodata)
tried_rule rules OutletCode looked other =
    in_each rules astray OutletCode (of_judged (has_dir rules.judged) _ looked (outlet_code rules.nodata)) (outlet_code rules.nodata) (outlet_code rules.nodata)
tried_rule rules FlatStep looked other = in_each rules sunk FlatStep (of_judged (has_dir rules.judged) _ looked level_step) level_step (flat_step rules.nodata)
tried_rule rules Accumulation looked other =
    in_each rules raised Accumulation (of_judged (has_acc rules.judged) _ looked (accumulation rules.nodata)) (accumulation rules.nodata) (accumulation rules.nodata)
tried_rule rules Label looked other = in_each rules astray Label (of_judged (has_bas rules.judged) _ looked (label rules.nodata)) (label rules.nodata) (label rules.nodata)
