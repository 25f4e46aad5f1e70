-- Which products and rules an explanation is about. Source: this project's own.
use Rattle.std.specs.Prelude.{Bool, Option, Some, None}
use Rattle.drain_findings.specs.declared.findings.Findings.{Findings}
use Rattle.drain_grid.specs.declared.rule.Rule.{Rule}
use Rattle.drain_grid.specs.declared.rule.Rule.TheVariants.{VoidCell, Missing, BadCode, BelowGround, OpenRaised, NoSpill, SpillHeight, SpillRank, NotLeast, Slope, OutletCode, FlatStep, Accumulation, Label, SharedLabel}
use Rattle.drain_grid.specs.declared.set_product.SetProduct.{SetProduct}
use Rattle.drain_grid.specs.declared.set_product.SetProduct.TheVariants.{Con, Dir, Acc, Bas}
use Rattle.drain_grid.specs.Judged.{has_product}
use Rattle.drain_grid.specs.PatchRules.{Profile}
use Rattle.drain_grid.specs.RulesAbout.{tried}

-- the product was looked at: it is judged
abbrev pub looks_at : {F : Type 0} → Findings F → SetProduct → Bool
looks_at f product = has_product f.rules.judged product

-- the product whose number the rule judges
abbrev pub judged : Rule → Option SetProduct
judged VoidCell = None
judged Missing = None
judged BadCode = Some Dir
judged BelowGround = Some Con
judged OpenRaised = Some Con
judged NoSpill = None
judged SpillHeight = None
judged SpillRank = None
judged NotLeast = Some Con
judged Slope = Some Dir
judged OutletCode = Some Dir
judged FlatStep = Some Dir
judged Accumulation = Some Acc
judged Label = Some Bas
judged SharedLabel = Some Bas

-- the rules that were tried
abbrev pub rules_of : {F : Type 0} → Findings F → Profile
rules_of f = tried f.rules
