-- The rules about judged rasters: those of a check with ranks, those of an audit, or these as far as they speak of the
-- judged rasters. They are this project's own.
use Rattle.std.specs.Prelude.{◌≡◌, ◌≢◌, IsNone, IsTrue}
use Rattle.drain_grid.specs.declared.judged.Judged.{Judged}
use Rattle.drain_grid.specs.declared.judged.Judged.TheVariants.{Con, ConDir, ConDirAcc, ConDirBas, All, AllWithRanks}
use Rattle.drain_grid.specs.declared.judged.Rules.{Rules}
use Rattle.drain_grid.specs.declared.rule.Rule.{Rule}
use Rattle.drain_grid.specs.declared.rule.Rule.TheVariants.{VoidCell, Missing, BadCode, BelowGround, OpenRaised, NotLeast, Slope, OutletCode, FlatStep, Accumulation, Label, SharedLabel}
use Rattle.drain_grid.specs.Judged.{IfJudged, has_acc, has_bas, has_dir}
use Rattle.drain_grid.specs.Patch.{IsDataCell}
use Rattle.drain_grid.specs.PatchRules.{Profile, BadCodeWithoutSpill, check_rules, surface_rules}
use Rattle.drain_grid.specs.Rule.{IsAnyRule, IsPatchRule}
use Rattle.drain_grid.specs.Unranked.{level_rules, unranked}
use Rattle.drain_grid.specs.Values.{Values, NoDataNumbers}

-- each judged raster has its no-data number
pub record IsBlankPart (judged : Judged) (nodata : NoDataNumbers) (v : Values) : Type 0 where
  pub con_is : v.con ≡ nodata.con
  pub dir_is : IfJudged (has_dir judged) (v.dir ≡ nodata.dir)
  pub acc_is : IfJudged (has_acc judged) (v.acc ≡ nodata.acc)
  pub bas_is : IfJudged (has_bas judged) (v.bas ≡ nodata.bas)

-- no judged raster has it
pub record IsCompletePart (judged : Judged) (nodata : NoDataNumbers) (v : Values) : Type 0 where
  pub con_differs : v.con ≢ nodata.con
  pub dir_differs : IfJudged (has_dir judged) (v.dir ≢ nodata.dir)
  pub acc_differs : IfJudged (has_acc judged) (v.acc ≢ nodata.acc)
  pub bas_differs : IfJudged (has_bas judged) (v.bas ≢ nodata.bas)

-- the rules without ranks, as far as they speak of judged rasters
abbrev pub part_rules : Judged → NoDataNumbers → Profile
part_rules judged nodata p VoidCell = IsNone p.here.z → IsBlankPart judged nodata p.here
part_rules judged nodata p Missing = IsDataCell p → IsCompletePart judged nodata p.here
part_rules judged nodata p BadCode = IfJudged (has_dir judged) (BadCodeWithoutSpill p)
part_rules judged nodata p BelowGround = surface_rules p BelowGround
part_rules judged nodata p OpenRaised = surface_rules p OpenRaised
part_rules judged nodata p NotLeast = surface_rules p NotLeast
part_rules judged nodata p Slope = IfJudged (has_dir judged) (level_rules p Slope)
part_rules judged nodata p OutletCode = IfJudged (has_dir judged) (level_rules p OutletCode)
part_rules judged nodata p FlatStep = IfJudged (has_dir judged) (level_rules p FlatStep)
part_rules judged nodata p Accumulation = IfJudged (has_acc judged) (level_rules p Accumulation)
part_rules judged nodata p Label = IfJudged (has_bas judged) (level_rules p Label)
part_rules judged nodata p r = Unit {0}

-- the rules about judged rasters
abbrev pub rules_about : Judged → NoDataNumbers → Profile
rules_about Con nodata = part_rules Con nodata
rules_about ConDir nodata = part_rules ConDir nodata
rules_about ConDirAcc nodata = part_rules ConDirAcc nodata
rules_about ConDirBas nodata = part_rules ConDirBas nodata
rules_about All nodata = unranked nodata
rules_about AllWithRanks nodata = check_rules nodata

-- what these rules say of a patch
abbrev pub tried : Rules → Profile
tried rules = rules_about rules.judged rules.nodata

-- the rules that are tried of some rasters: SharedLabel only if labels are judged
abbrev pub IsPartRule : Judged → Rule → Type 0
IsPartRule judged SharedLabel = IsTrue (has_bas judged)
IsPartRule judged r = IsPatchRule r

-- the rules that are tried
abbrev pub IsTried : Judged → Rule → Type 0
IsTried Con = IsPartRule Con
IsTried ConDir = IsPartRule ConDir
IsTried ConDirAcc = IsPartRule ConDirAcc
IsTried ConDirBas = IsPartRule ConDirBas
IsTried All = IsAnyRule
IsTried AllWithRanks = IsAnyRule
