use Rattle.drain_grid.proofs.Runs as lemmas
use Rattle.drain_grid.proofs.laws.least_from_rules_profile2.Goals as goal

pub returns : goal.returns
returns c = lemmas.least_from_rules_profile2
