use Rattle.drain_flood.proofs.SurfaceRules as lemmas
use Rattle.drain_flood.proofs.laws.surface_keeps_rules.Goals as goal

pub returns : goal.returns
returns c = lemmas.surface_keeps_rules
