-- A rule about a product that isn't judged requires nothing.
use Rattle.drain_findings.proofs.Names.{◌≡◌, ◌≢◌, Bool, true, false, IsTrue, Some, refl, Judged, Rules, Patch, Rule, VoidCell, Missing, BadCode, BelowGround, OpenRaised, NoSpill, SpillHeight, SpillRank, NotLeast, Slope, OutletCode, FlatStep, Accumulation, Label, SharedLabel, SetProduct, Con, Dir, Acc, Bas, IfJudged, has_acc, has_bas, has_dir, has_product, check_rules, part_rules, rules_about, tried, unranked, NoDataNumbers, judged}
use Rattle.drain_grid.specs.declared.judged.Judged.TheVariants as rasters

not_judged : (is_judged : Bool) (P : Type 0) → ¬ IsTrue is_judged → IfJudged is_judged P
not_judged true P not = absurd (not refl)
not_judged false P not = tt

-- of each kind of rules at once
about : (some : Judged) (nodata : NoDataNumbers) (p : Patch) (r : Rule) → part_rules some nodata p r → unranked nodata p r → check_rules nodata p r → rules_about some nodata p r
about rasters.All nodata p r part plain ranked = plain
about rasters.AllWithRanks nodata p r part plain ranked = ranked
about some nodata p r part plain ranked = part

-- where a product of all sets isn't judged, the rules are those about some rasters
about_some : (has : Judged → Bool) → IsTrue (has rasters.All) → IsTrue (has rasters.AllWithRanks) → (some : Judged) → ¬ IsTrue (has some) →
    (nodata : NoDataNumbers) (p : Patch) (r : Rule) → part_rules some nodata p r → rules_about some nodata p r
about_some has all ranked rasters.All not nodata p r part = absurd (not all)
about_some has all ranked rasters.AllWithRanks not nodata p r part = absurd (not ranked)
about_some has all ranked some not nodata p r part = part

pub untried_rule : (rules : Rules) (r : Rule) → r ≢ VoidCell → r ≢ Missing →
    ((product : SetProduct) → judged r ≡ Some product → ¬ IsTrue (has_product rules.judged product)) → (p : Patch) → tried rules p r
untried_rule rules VoidCell void missing not p = absurd (void refl)
untried_rule rules Missing void missing not p = absurd (missing refl)
untried_rule rules BadCode void missing not p =
    about_some has_dir refl refl rules.judged (not Dir refl) rules.nodata p BadCode (not_judged (has_dir rules.judged) _ (not Dir refl))
untried_rule rules BelowGround void missing not p = absurd (not Con refl refl)
untried_rule rules OpenRaised void missing not p = absurd (not Con refl refl)
untried_rule rules NoSpill void missing not p = about rules.judged rules.nodata p NoSpill tt tt tt
untried_rule rules SpillHeight void missing not p = about rules.judged rules.nodata p SpillHeight tt tt tt
untried_rule rules SpillRank void missing not p = about rules.judged rules.nodata p SpillRank tt tt tt
untried_rule rules NotLeast void missing not p = absurd (not Con refl refl)
untried_rule rules Slope void missing not p =
    about_some has_dir refl refl rules.judged (not Dir refl) rules.nodata p Slope (not_judged (has_dir rules.judged) _ (not Dir refl))
untried_rule rules OutletCode void missing not p =
    about_some has_dir refl refl rules.judged (not Dir refl) rules.nodata p OutletCode (not_judged (has_dir rules.judged) _ (not Dir refl))
untried_rule rules FlatStep void missing not p =
    about_some has_dir refl refl rules.judged (not Dir refl) rules.nodata p FlatStep (not_judged (has_dir rules.judged) _ (not Dir refl))
untried_rule rules Accumulation void missing not p =
    about_some has_acc refl refl rules.judged (not Acc refl) rules.nodata p Accumulation (not_judged (has_acc rules.judged) _ (not Acc refl))
untried_rule rules Label void missing not p =
    about_some has_bas refl refl rules.judged (not Bas refl) rules.nodata p Label (not_judged (has_bas rules.judged) _ (not Bas refl))
untried_rule rules SharedLabel void missing not p = about rules.judged rules.nodata p SharedLabel tt tt tt
