use Rattle.drain_flood.proofs.FlatRules as lemmas
use Rattle.drain_flood.proofs.laws.flats_keep_rules.Goals as goal

pub returns : goal.returns
returns c = lemmas.flats_keep_rules
