-- What is tried where labels are compared, and where they aren't.
use Rattle.drain_rules.specs.Names.{Bool, true, false, Rule, Profile, IsPatchRule, IsTried, Values}
use Rattle.drain_grid.specs.declared.judged.Judged.{Judged}
use Rattle.drain_grid.specs.declared.rule.Rule.TheVariants.{SharedLabel}

-- the rules that are tried: without a comparison all but SharedLabel
abbrev pub IsTriedIf : Bool → Judged → Rule → Type 0
IsTriedIf true judged = IsTried judged
IsTriedIf false judged = IsPatchRule

-- the fact, if labels are compared
abbrev pub IfCompared : Bool → Type 0 → Type 0
IfCompared true P = P
IfCompared false P = Unit {0}

-- these rules of a patch, and SharedLabel by what is new
abbrev pub with_labels : (Values → Type 0) → Profile → Profile
with_labels IsNew profile p SharedLabel = IsNew p.here
with_labels IsNew profile p r = profile p r
