-- What the lanes test of the rules about judged rasters.
use Rattle.drain_kernel.specs.Names.{Bool, true, false, Rules, has_acc, has_rnk, Profile, check_rules, NoDataNumbers}
use Rattle.drain_grid.specs.declared.rule.Rule.TheVariants.{Accumulation}
use Rattle.drain_grid.specs.Unranked.{unranked}

-- the rules of a check with ranks, else the same without ranks
abbrev pub rules_with : Bool → NoDataNumbers → Profile
rules_with true nodata = check_rules nodata
rules_with false nodata = unranked nodata

-- these rules, but Accumulation requires nothing
abbrev pub without_sums : Profile → Profile
without_sums profile p Accumulation = Unit {0}
without_sums profile p r = profile p r

-- the rules if sums are tested, else the same without Accumulation
abbrev pub tested : Bool → Profile → Profile
tested true profile = profile
tested false profile = without_sums profile

-- what is tested: ranks and sums where they are judged
abbrev pub lane_rules : Rules → Profile
lane_rules rules = tested (has_acc rules.judged) (rules_with (has_rnk rules.judged) rules.nodata)
