-- Where the rules about judged rasters hold everywhere, accumulation among them and without ranks, those on directions and their sums do.
use Rattle.drain_rows.proofs.Names.{◌≡◌, true, false, sym, arith, false≢true, Judged, Grid, Products, patch_at, IsTried, part_rules, rules_about, NoDataNumbers}
use Rattle.drain_grid.specs.declared.judged.Judged.TheVariants.{Con, ConDir, ConDirAcc, ConDirBas, All, AllWithRanks}
use Rattle.drain_grid.specs.declared.patch.Patch.{Patch}
use Rattle.drain_grid.specs.declared.rule.Rule.{Rule}
use Rattle.drain_grid.specs.declared.rule.Rule.TheVariants.{Slope, OutletCode, FlatStep, Accumulation, SharedLabel}
use Rattle.drain_grid.specs.GridRules.{RulesHold}
use Rattle.drain_grid.specs.Judged.{has_acc, has_rnk}
use Rattle.drain_grid.specs.Rule.{IsCountRule, IsFlowRule}
use Rattle.drain_grid.specs.Unranked.{level_rules}
use Rattle.drain_grid.proofs.Profiles.{HoldsAt-patch, RulesHold-level, RulesHold-within}

-- each of these rules says the same without labels
says : (nodata : NoDataNumbers) (p : Patch) (r : Rule) → IsCountRule r → part_rules ConDirAcc nodata p r → level_rules p r
says nodata p Slope own h = h
says nodata p OutletCode own h = h
says nodata p FlatStep own h = h
says nodata p Accumulation own h = h
says nodata p r own h = absurd (omega (arith, own.0, own.1))

own_rule : (r : Rule) → IsCountRule r → IsTried ConDirAcc r
own_rule SharedLabel own = absurd (omega (arith, own.1))
own_rule r own = (omega (arith, own.0), omega (arith, own.1))

pub counts_hold : (judged : Judged) (nodata : NoDataNumbers) (g : Grid) (ps : Products) → has_acc judged ≡ true → has_rnk judged ≡ false →
    RulesHold (rules_about judged nodata) (IsTried judged) g ps → RulesHold level_rules IsCountRule g ps
counts_hold Con nodata g ps acc rnk rules = absurd (false≢true acc)
counts_hold ConDir nodata g ps acc rnk rules = absurd (false≢true acc)
counts_hold ConDirBas nodata g ps acc rnk rules = absurd (false≢true acc)
counts_hold AllWithRanks nodata g ps acc rnk rules = absurd (false≢true (sym rnk))
counts_hold All nodata g ps acc rnk rules =
    RulesHold-within level_rules IsCountRule IsFlowRule g ps (λ r own. (own.0, omega (arith, own.1))) (RulesHold-level nodata g ps rules)
counts_hold ConDirAcc nodata g ps acc rnk rules =
    λ c r inside own. HoldsAt-patch (part_rules ConDirAcc nodata) level_rules g ps c r (says nodata (patch_at g ps c) r own) (rules c r inside (own_rule r own))
