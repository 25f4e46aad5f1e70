-- A cell that passes the tests of the lanes keeps the rules about the judged rasters.
use Rattle.drain_kernel.proofs.Names.{Bool, true, false, arith, Judged, ConDir, ConDirAcc, ConDirBas, All, AllWithRanks, Patch, Rule, VoidCell, Missing, BadCode, BelowGround, OpenRaised, NoSpill, SpillHeight, SpillRank, NotLeast, Slope, OutletCode, FlatStep, Accumulation, Label, SharedLabel, IfJudged, has_acc, has_bas, has_dir, has_rnk, AccumulationHolds, Profile, IsPatchRule, part_rules, rules_about, unranked, NoDataNumbers, rules_with, tested, without_sums}
use Rattle.drain_grid.specs.declared.judged.Judged.TheVariants.{Con}

-- a fact holds whether it is about a judged raster or not
if_judged : (b : Bool) (P : Type 0) → P → IfJudged b P
if_judged true P holds = holds
if_judged false P holds = tt

-- rule by rule; of the accumulation apart
part_rule : (judged : Judged) (nodata : NoDataNumbers) (p : Patch) → IfJudged (has_acc judged) (AccumulationHolds p) → (r : Rule) →
    without_sums (unranked nodata) p r → part_rules judged nodata p r
part_rule judged nodata p sum VoidCell holds = λ void.
    let blank = holds void in
    record {
      con_is = blank.con_is;
      dir_is = if_judged (has_dir judged) _ blank.dir_is;
      acc_is = if_judged (has_acc judged) _ blank.acc_is;
      bas_is = if_judged (has_bas judged) _ blank.bas_is;
    }
part_rule judged nodata p sum Missing holds = λ known.
    let complete = holds known in
    record {
      con_differs = complete.con_differs;
      dir_differs = if_judged (has_dir judged) _ complete.dir_differs;
      acc_differs = if_judged (has_acc judged) _ complete.acc_differs;
      bas_differs = if_judged (has_bas judged) _ complete.bas_differs;
    }
part_rule judged nodata p sum BadCode holds = if_judged (has_dir judged) _ holds
part_rule judged nodata p sum BelowGround holds = holds
part_rule judged nodata p sum OpenRaised holds = holds
part_rule judged nodata p sum NoSpill holds = tt
part_rule judged nodata p sum SpillHeight holds = tt
part_rule judged nodata p sum SpillRank holds = tt
part_rule judged nodata p sum NotLeast holds = holds
part_rule judged nodata p sum Slope holds = if_judged (has_dir judged) _ holds
part_rule judged nodata p sum OutletCode holds = if_judged (has_dir judged) _ holds
part_rule judged nodata p sum FlatStep holds = if_judged (has_dir judged) _ holds
part_rule judged nodata p sum Accumulation holds = sum
part_rule judged nodata p sum Label holds = if_judged (has_bas judged) _ holds
part_rule judged nodata p sum SharedLabel holds = tt

-- a rule holds also among those without sums
without_sum : (profile : Profile) (p : Patch) (r : Rule) → profile p r → without_sums profile p r
without_sum profile p Accumulation holds = tt
without_sum profile p VoidCell holds = holds
without_sum profile p Missing holds = holds
without_sum profile p BadCode holds = holds
without_sum profile p BelowGround holds = holds
without_sum profile p OpenRaised holds = holds
without_sum profile p NoSpill holds = holds
without_sum profile p SpillHeight holds = holds
without_sum profile p SpillRank holds = holds
without_sum profile p NotLeast holds = holds
without_sum profile p Slope holds = holds
without_sum profile p OutletCode holds = holds
without_sum profile p FlatStep holds = holds
without_sum profile p Label holds = holds
without_sum profile p SharedLabel holds = holds

-- whether sums are tested or not
pub tested_too : (sums : Bool) (profile : Profile) (p : Patch) (r : Rule) → profile p r → tested sums profile p r
tested_too true profile p r holds = holds
tested_too false profile p r holds = without_sum profile p r holds

-- the rules about judged rasters hold where the tests of the lanes do
pub cleared : (judged : Judged) (nodata : NoDataNumbers) (p : Patch) →
    ((r : Rule) → IsPatchRule r → tested (has_acc judged) (rules_with (has_rnk judged) nodata) p r) → (r : Rule) → IsPatchRule r →
    rules_about judged nodata p r
cleared Con nodata p holds = λ r own. part_rule Con nodata p tt r (holds r own)
cleared ConDir nodata p holds = λ r own. part_rule ConDir nodata p tt r (holds r own)
cleared ConDirAcc nodata p holds = λ r own.
    part_rule ConDirAcc nodata p (holds Accumulation (omega arith, omega arith)) r (without_sum (unranked nodata) p r (holds r own))
cleared ConDirBas nodata p holds = λ r own. part_rule ConDirBas nodata p tt r (holds r own)
cleared All nodata p holds = holds
cleared AllWithRanks nodata p holds = holds
